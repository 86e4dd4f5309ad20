use Rattle.std.proofs.Common.{◌≡◌, map, drop}
use Rattle.sp_parse_trees.specs.View.{init_declarators}
use Rattle.sp_check_env.specs.Views.{env_of}
use Rattle.sp_expr_check.specs.SyntaxView.{init_declarator_of}
use Rattle.sp_decl_check.specs.Tentative.{open_items}
use Rattle.sp_decl_check.proofs.tentative.open_items.Given as goal

abbrev pub invariant-loop-item : goal.invariant-loop-item
invariant-loop-item l =
    open_items (env_of l.env) (init_declarators (map init_declarator_of (drop l.item-index l.items)))
    ≡ open_items (env_of l.env) (init_declarators (map init_declarator_of l.items))
