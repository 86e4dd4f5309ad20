use Rattle.std.proofs.Common.{◌≡◌, map, drop}
use Rattle.sp_types.specs.TypedView.{typed_of}
use Rattle.sp_lower_draft.specs.Calls.{are_scalar}
use Rattle.sp_lower_expr_steps.proofs.calls.are_scalar.Given as goal

abbrev pub invariant-loop-arg : goal.invariant-loop-arg
invariant-loop-arg l =
    are_scalar (map typed_of l.fn.args) ≡ are_scalar (map typed_of (drop l.arg-index l.args))
