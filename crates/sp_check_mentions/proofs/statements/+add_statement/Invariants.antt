use Rattle.std.proofs.Common.{◌≡◌, ◌++◌, map, drop}
use Rattle.sp_types.specs.TypedView.{statement_of, statement_list}
use Rattle.sp_check_mentions.specs.Mentions.{statements_mentions}
use Rattle.sp_check_mentions.proofs.statements.+add_statement.Given as goal

abbrev pub invariant-loop-s : goal.invariant-loop-s
invariant-loop-s l =
    l.found.items ++ statements_mentions (statement_list (map statement_of (drop l.s-index l.s-items)))
    ≡ l.initial.found.items ++ statements_mentions (statement_list (map statement_of l.s-items))
