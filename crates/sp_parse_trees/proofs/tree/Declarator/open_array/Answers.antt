use Rattle.std.proofs.Common.{◌≡◌, refl, sym, None}
use Rattle.sp_parse_trees.specs.declared.tree.DeclaratorForm.TheFolds.{fold-roll-Declarator, fold-roll-DeclaratorForm}
use Rattle.sp_parse_trees.specs.declared.tree.DeclaratorForm.TheVariants.{rolls-Array}
use Rattle.sp_parse_trees.proofs.TreeViews.{declarator_place-view}
use Rattle.sp_parse_trees.proofs.tree.Declarator.open_array.Goals as goal

pub returns : goal.returns
returns c =
    let same : c.in_ok-inner.inner.value ≡ c.args.inner = c.in_ok-inner.ensures.ok in
    rw fold-roll-Declarator (rw (sym (rolls-Array c.in_ok-inner.inner None)) (rw fold-roll-DeclaratorForm (rw (same, declarator_place-view) refl)))
