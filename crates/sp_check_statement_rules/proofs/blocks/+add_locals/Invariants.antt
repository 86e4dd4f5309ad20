use Rattle.std.proofs.Common.{◌≡◌, ◌++◌, map, drop}
use Rattle.sp_types.specs.TypedView.{statement_of, statement_list}
use Rattle.sp_check_statement_rules.specs.Blocks.{all_locals}
use Rattle.sp_check_statement_rules.proofs.blocks.+add_locals.Given as goal

abbrev pub invariant-loop-s : goal.invariant-loop-s
invariant-loop-s l =
    l.locals.items ++ all_locals (statement_list (map statement_of (drop l.s-index l.s-items)))
    ≡ l.initial.locals.items ++ all_locals (statement_list (map statement_of l.s-items))
