use Rattle.std.proofs.Common.{◌≡◌, [], map, drop}
use Rattle.sp_parse_trees.specs.View.{statement_of as tree_statement_of, statements}
use Rattle.sp_types.specs.TypedView.{statement_of}
use Rattle.sp_check_env.specs.Views.{env_of}
use Rattle.sp_check_statement_rules.specs.View.{around_of}
use Rattle.sp_check_statements.specs.Statements.{statements_checked}
use Rattle.sp_check_statements.proofs.statements.+statement.Given as goal

abbrev pub invariant-statements_checked-statements : goal.invariant-statements_checked-statements
invariant-statements_checked-statements l =
    statements_checked l.names (env_of l.env) (around_of l.around) (map statement_of l.all.items) (statements (map tree_statement_of (drop l.i l.inner)))
    ≡ statements_checked l.names (env_of l.initial.env) (around_of l.around) [] (statements (map tree_statement_of l.inner))
