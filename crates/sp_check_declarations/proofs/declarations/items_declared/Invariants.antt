use Rattle.std.proofs.Common.{◌≡◌, [], map, drop}
use Rattle.sp_parse_trees.specs.View.{init_declarators}
use Rattle.sp_types.specs.View.{type_of}
use Rattle.sp_check_env.specs.Views.{env_of}
use Rattle.sp_expr_check.specs.SyntaxView.{init_declarator_of}
use Rattle.sp_check_declarations.specs.Declarations.{items_declared}
use Rattle.sp_check_declarations.proofs.declarations.items_declared.Given as goal

abbrev pub invariant-items : goal.invariant-items
invariant-items l =
    items_declared l.names (env_of l.env) l.class l.whole (type_of l.base) l.all.items (init_declarators (map init_declarator_of (drop l.i l.items)))
    ≡ items_declared l.names (env_of l.initial.env) l.class l.whole (type_of l.base) [] (init_declarators (map init_declarator_of l.items))
