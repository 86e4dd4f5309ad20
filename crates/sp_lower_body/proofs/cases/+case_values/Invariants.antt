use Rattle.std.proofs.Common.{◌≡◌, ◌++◌, map, drop}
use Rattle.sp_types.specs.TypedView.{statement_of, statement_list}
use Rattle.sp_lower_body.specs.Cases.{all_values}
use Rattle.sp_lower_body.proofs.cases.+case_values.Given as goal

abbrev pub invariant-loop-s : goal.invariant-loop-s
invariant-loop-s l =
    l.values.items ++ all_values (statement_list (map statement_of (drop l.s-index l.s-items)))
    ≡ l.initial.values.items ++ all_values (statement_list (map statement_of l.s-items))
