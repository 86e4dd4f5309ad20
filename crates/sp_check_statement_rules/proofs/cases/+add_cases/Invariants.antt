use Rattle.std.proofs.Common.{◌≡◌, ◌++◌, map, drop}
use Rattle.sp_types.specs.TypedView.{statement_of, statement_list}
use Rattle.sp_check_statement_rules.specs.Cases.{all_cases}
use Rattle.sp_check_statement_rules.proofs.cases.+add_cases.Given as goal

abbrev pub invariant-loop-s : goal.invariant-loop-s
invariant-loop-s l =
    l.cases.items ++ all_cases (statement_list (map statement_of (drop l.s-index l.s-items)))
    ≡ l.initial.cases.items ++ all_cases (statement_list (map statement_of l.s-items))
