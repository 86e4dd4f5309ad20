use Rattle.std.proofs.Common.{◌≡◌, ℕ, ◌+◌, map, drop, Some, List, ap, sym, ◌∙◌, arith, rules}
use Rattle.sp_types.specs.TypedView.{typed_of}
use Rattle.sp_ir.specs.View.{expression_of}
use Rattle.std.proofs.lemmas.List.{drop_all}
use Rattle.sp_types.specs.declared.typed.TypedExpr.{TypedExpr}
use Rattle.sp_types.specs.Typed.{Typed}
use Rattle.sp_ir.specs.Commands.{Expression}
use Rattle.sp_lower_draft.specs.Context.{Context}
use Rattle.sp_lower_draft.specs.Draft.{Left}
use Rattle.sp_lower_draft.specs.Expressions.{undefined_callee}
use Rattle.sp_lower_draft.specs.View.{context_of, draft_of}
use Rattle.sp_lower_expr.proofs.Arguments.{trees-operands, given, size-at, rest-at, argument-turn, pushed-view, arguments-end, callee-given}
use Rattle.sp_lower_expr.proofs.uses.+uses.Goals as goal

pub arguments-value-requires : goal.arguments-value-requires
arguments-value-requires t c =
    (omega (arith, size-at c.args.args.now c.loop-arg.arg-index c.arg-item.result c.loop-arg-test.true c.arg-item.is), tt)

pub arguments-returns : goal.arguments-returns
arguments-returns t c =
    let here : Context = context_of c.args.scope.now in
    arguments-end here _ (map expression_of c.loop-arg.values.items) (draft_of c.loop-arg.draft)
    (rw (drop_all c.loop-arg.arg-index c.args.args.now c.loop-arg-test.false) at c.loop-arg.invariant.0)

pub arguments-loop-arg-preserved : goal.arguments-loop-arg-preserved
arguments-loop-arg-preserved t c =
    let here : Context = context_of c.args.scope.now in
    let es : List TypedExpr = c.args.args.now in
    let i : ℕ = c.loop-arg.arg-index in
    let e : TypedExpr = c.arg-item.result in
    argument-turn here _ (typed_of e) (map typed_of (drop i es)) (map typed_of (drop (i + 1) es)) (map expression_of c.loop-arg.values.items) (map expression_of c.push.new.self.items) (draft_of c.loop-arg.draft) (draft_of c.value.new.draft) (draft_of c.keep.new.draft) (expression_of c.in_ok-value.value) (expression_of c.in_ok-value-2.value) c.loop-arg.later c.adding_behind-later.result
    (rest-at es i e c.loop-arg-test.true c.arg-item.is) c.loop-arg.invariant.0 c.loop-arg.invariant.1
    (given _ _ _ c.in_ok-value.ensures.0 c.in_ok-value.ensures.1) c.adding_behind-later.ensures
    (given _ _ _ c.in_ok-value-2.ensures.0 c.in_ok-value-2.ensures.1)
    (pushed-view c.loop-arg.values.items c.push.new.self.items c.in_ok-value-2.value c.in_ok-push.ensures.items)

pub callee_and_arguments-returns : goal.callee_and_arguments-returns
callee_and_arguments-returns t c =
    let here : Context = context_of c.args.scope.now in
    let f : Typed = typed_of c.args.f.now in
    let ts : List Typed = map typed_of c.args.args.now in
    let r = callee-given here f ts (draft_of c.args.draft.now) (draft_of c.value.new.draft) (draft_of c.keep.new.draft) (draft_of c.arguments.new.draft) (expression_of c.in_ok-callee.callee) (expression_of c.in_ok-callee-2.callee) (map expression_of c.in_ok-values.values.items) c.adding-later.result
    (given _ _ _ c.in_ok-callee.ensures.0 c.in_ok-callee.ensures.1) c.adding-later.ensures
    (given _ _ _ c.in_ok-callee-2.ensures.0 c.in_ok-callee-2.ensures.1)
    (given _ _ _ c.in_ok-values.ensures.0 c.in_ok-values.ensures.1) in
    (ap (λ (x : Left (Expression × List Expression)). x.after) r, ap (λ (x : Left (Expression × List Expression)). x.pure.0) r, ap (λ (x : Left (Expression × List Expression)). x.pure.1) r)

pub called-returns-in_ok-values-in-Some : goal.called-returns-in_ok-values-in-Some
called-returns-in_ok-values-in-Some t c =
    let here : Context = context_of c.args.scope.now in
    let named : undefined_callee here (typed_of c.args.f.now) ≡ Some c.in-Some.number =
    sym c.undefined_callee.ensures ∙ c.in-Some.is in
    rw (named, trees-operands here (map typed_of c.args.args.now)) (search rules)
