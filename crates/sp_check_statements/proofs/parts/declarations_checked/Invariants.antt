use Rattle.std.proofs.Common.{◌≡◌, [], map, drop}
use Rattle.sp_parse_trees.specs.View.{declaration_of, declarations}
use Rattle.sp_check_env.specs.Views.{env_of}
use Rattle.sp_check_statements.specs.Parts.{declarations_checked}
use Rattle.sp_check_statements.proofs.parts.declarations_checked.Given as goal

abbrev pub invariant-declarations : goal.invariant-declarations
invariant-declarations l =
    declarations_checked l.names (env_of l.env) l.all.items (declarations (map declaration_of (drop l.i l.written)))
    ≡ declarations_checked l.names (env_of l.initial.env) [] (declarations (map declaration_of l.written))
