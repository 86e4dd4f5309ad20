-- The places of trees, as the code has them.
use Rattle.std.proofs.Common.{◌≡◌, refl}
use Rattle.sp_parse_trees.specs.declared.tree.Expr.{Expr}
use Rattle.sp_parse_trees.specs.declared.tree.Declarator.{Declarator}
use Rattle.sp_parse_trees.specs.declared.tree.DeclaratorForm.TheFolds.{fold_out-Declarator, fold_out-Expr}
use Rattle.sp_parse_trees.specs.View.{tree_of, declarator_of}
use Rattle.sp_parse_trees.specs.Places.{place_of, declarator_place}

pub declarator_place-view : (d : Declarator) → declarator_place (declarator_of d) ≡ d.place
declarator_place-view d = rw fold_out-Declarator refl

pub place_of-view : (e : Expr) → place_of (tree_of e) ≡ e.place
place_of-view e = rw fold_out-Expr refl
