use Rattle.std.proofs.Common.{◌≡◌, ◌+◌, ◌≤◌, map, drop}
use Rattle.sp_types.specs.TypedView.{typed_of}
use Rattle.sp_lower_expr.specs.Adding.{adding}
use Rattle.sp_lower_expr.proofs.walks.adding.Given as goal

abbrev pub invariant-loop-arg : goal.invariant-loop-arg
invariant-loop-arg l =
    (l.count + adding (map typed_of (drop l.arg-index l.args)) ≡ adding (map typed_of l.fn.args))
    × (l.count ≤ l.arg-index)
