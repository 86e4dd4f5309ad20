use Rattle.std.proofs.Common.{◌≡◌, ◌+◌, map, drop}
use Rattle.sp_types.specs.TypedView.{typed_of, typed_list}
use Rattle.sp_ir.specs.View.{expression_of}
use Rattle.sp_lower_draft.specs.Expressions.{arguments, operands}
use Rattle.sp_lower_draft.specs.View.{context_of, draft_of}
use Rattle.sp_lower_expr.specs.Size.{size, sizes}
use Rattle.sp_lower_expr.specs.Adding.{adding}
use Rattle.sp_lower_expr.proofs.Arguments.{with_front}
use Rattle.sp_lower_expr.proofs.uses.+uses.Given as goal

abbrev pub decreases-place : goal.decreases-place
decreases-place l = size (typed_of l.e.now) + 1

abbrev pub decreases-value_at : goal.decreases-value_at
decreases-value_at l = size (typed_of l.e.now) + 2

abbrev pub decreases-value : goal.decreases-value
decreases-value l = size (typed_of l.e.now) + 3

abbrev pub decreases-evaluation : goal.decreases-evaluation
decreases-evaluation l = size (typed_of l.e.now) + 4

abbrev pub decreases-comparison : goal.decreases-comparison
decreases-comparison l = size (typed_of l.e.now) + 4

abbrev pub decreases-unused : goal.decreases-unused
decreases-unused l = size (typed_of l.e.now) + 5

abbrev pub decreases-branch : goal.decreases-branch
decreases-branch l = size (typed_of l.e.now) + 5

abbrev pub decreases-converted : goal.decreases-converted
decreases-converted l = size (typed_of l.a.now) + 6

abbrev pub decreases-prefixed : goal.decreases-prefixed
decreases-prefixed l = size (typed_of l.a.now) + 6

abbrev pub decreases-step_unused : goal.decreases-step_unused
decreases-step_unused l = size (typed_of l.l.now) + 6

abbrev pub decreases-both : goal.decreases-both
decreases-both l = size (typed_of l.a.now) + size (typed_of l.b.now) + 6

abbrev pub decreases-sides : goal.decreases-sides
decreases-sides l = size (typed_of l.l.now) + size (typed_of l.r.now) + 6

abbrev pub decreases-short_circuit : goal.decreases-short_circuit
decreases-short_circuit l = size (typed_of l.a.now) + size (typed_of l.b.now) + 6

abbrev pub decreases-chosen : goal.decreases-chosen
decreases-chosen l =
    size (typed_of l.a.now) + size (typed_of l.b.now) + size (typed_of l.d.now) + 6

abbrev pub decreases-chosen_unused : goal.decreases-chosen_unused
decreases-chosen_unused l =
    size (typed_of l.a.now) + size (typed_of l.b.now) + size (typed_of l.d.now) + 6

abbrev pub decreases-arguments : goal.decreases-arguments
decreases-arguments l = sizes (typed_list (map typed_of l.args.now)) + 6

abbrev pub decreases-callee_and_arguments : goal.decreases-callee_and_arguments
decreases-callee_and_arguments l =
    size (typed_of l.f.now) + sizes (typed_list (map typed_of l.args.now)) + 7

abbrev pub decreases-called : goal.decreases-called
decreases-called l =
    size (typed_of l.f.now) + sizes (typed_list (map typed_of l.args.now)) + 8

abbrev pub decreases-call_place : goal.decreases-call_place
decreases-call_place l =
    size (typed_of l.f.now) + sizes (typed_list (map typed_of l.args.now)) + 9

abbrev pub invariant-arguments-loop-arg : goal.invariant-arguments-loop-arg
invariant-arguments-loop-arg l =
    (arguments (context_of l.scope) (operands (context_of l.scope)
    (typed_list (map typed_of l.fn.args))) (draft_of l.fn.draft)
    ≡ with_front (map expression_of l.values.items) (arguments (context_of l.scope)
    (operands (context_of l.scope) (typed_list (map typed_of (drop l.arg-index l.args))))
    (draft_of l.draft)))
    × (l.later ≡ adding (map typed_of (drop l.arg-index l.args)))
