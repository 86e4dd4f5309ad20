use Rattle.std.proofs.Common.{◌≡◌, map, drop}
use Rattle.sp_types.specs.TypedView.{statement_of, statement_list}
use Rattle.sp_lower_body.specs.Cases.{any_has_default}
use Rattle.sp_lower_body.proofs.cases.+has_default.Given as goal

abbrev pub invariant-loop-s : goal.invariant-loop-s
invariant-loop-s l =
    any_has_default (statement_list (map statement_of l.s-items))
    ≡ any_has_default (statement_list (map statement_of (drop l.s-index l.s-items)))
