use Rattle.std.proofs.Common.{◌≡◌, refl, ap, ◌∙◌}
use Rattle.std.specs.Prelude.{max}
use Rattle.sp_parse_statements.proofs.HeadLaws.{ended_behind_head}
use Rattle.sp_parse_statements.specs.declared.heads.Head.TheVariants as heads
use Rattle.sp_parse_statements.specs.declared.heads.PrefixKind.TheVariants as kinds
use Rattle.std.proofs.lemmas.Result.{err_from_is_err_and, MatchResult-at_ok, MatchResult-at_err}
use Rattle.sp_parse_statements.proofs.PrefixSteps as steps
use Rattle.sp_parse_statements.proofs.prefixes.read_for.Goals as goal

pub returns-in_err-inner : goal.returns-in_err-inner
returns-in_err-inner c =
    let p = err_from_is_err_and c.from_residual.result c.from_residual.ensures.1 in
    rw (p.1, p.2) (steps.for_unopened c.args.context.types.now c.args.context.scope c.args.depth c.args.tokens.now c.next_token.result.1.now c.next_token.result.0 c.next_token.ensures c.requires.head (ended_behind_head c.args.context.types.now c.args.tokens.now c.next_token.result.1.now c.next_token.result.0 (heads.Prefix kinds.For) c.next_token.ensures c.requires.ended c.requires.head refl) c.in_err-inner.field-0.0 c.in_err-inner.ensures)

pub returns-in_err-start : goal.returns-in_err-start
returns-in_err-start c =
    let p = err_from_is_err_and c.from_residual-in_err-start.result c.from_residual-in_err-start.ensures.1 in
    rw (p.1, p.2) (steps.for_start c.args.context.types.now c.args.context.scope c.args.depth c.args.tokens.now c.next_token.result.1.now c.next_token.result.0 c.next_token.ensures c.requires.room c.requires.head c.in_ok-inner.inner.now c.in_ok-inner.ensures c.in_err-start.field-0.0 c.in_err-start.ensures)

pub returns-in_err-test : goal.returns-in_err-test
returns-in_err-test c =
    let p = err_from_is_err_and c.from_residual-in_err-test.result c.from_residual-in_err-test.ensures.1 in
    let a = c.in_ok-start.start in
    rw (p.1, p.2) (steps.for_test c.args.context.types.now c.args.context.scope c.args.depth c.args.tokens.now c.next_token.result.1.now c.next_token.result.0 c.next_token.ensures c.requires.room c.requires.head c.in_ok-inner.inner.now c.in_ok-inner.ensures a.depth a.tree.value a.rest.now a.tree.end c.in_ok-start.ensures c.in_err-test.field-0.0 (MatchResult-at_err _ _ _ c.in_err-test.ensures c.read_clause-next.ensures))

pub returns-in_err-step : goal.returns-in_err-step
returns-in_err-step c =
    let p = err_from_is_err_and c.from_residual-in_err-step.result c.from_residual-in_err-step.ensures.1 in
    let a = c.in_ok-start.start in
    let b = c.in_ok-test.test in
    rw (p.1, p.2) (steps.for_step c.args.context.types.now c.args.context.scope c.args.depth c.args.tokens.now c.next_token.result.1.now c.next_token.result.0 c.next_token.ensures c.requires.room c.requires.head c.in_ok-inner.inner.now c.in_ok-inner.ensures a.depth a.tree.value a.rest.now a.tree.end c.in_ok-start.ensures b.depth b.tree.value b.rest.now b.tree.end (MatchResult-at_ok _ _ _ c.in_ok-test.ensures.0 c.read_clause-next.ensures) c.in_err-step.field-0.0 (MatchResult-at_err _ _ _ c.in_err-step.ensures c.read_clause-next-2.ensures))

pub returns : goal.returns
returns c =
    let made = c.in_ok-clauses.clauses in
    let kept = c.in_ok-step.ensures.1 in
    let start : made.value.start ≡ c.in_ok-start.start.tree.value = c.in_ok-clauses.ensures.start ∙ ap (λ b. b.0) kept ∙ c.in_ok-test.ensures.1 in
    let test : made.value.test ≡ c.in_ok-test.test.tree.value = c.in_ok-clauses.ensures.test ∙ ap (λ b. b.1) kept in
    let a = c.in_ok-start.start in
    let b = c.in_ok-test.test in
    let w = c.in_ok-step.step in
    steps.for_read c.args.context.types.now c.args.context.scope c.args.depth c.args.tokens.now c.next_token.result.1.now c.next_token.result.0 c.next_token.ensures c.requires.room c.requires.head c.in_ok-inner.inner.now c.in_ok-inner.ensures made a.depth b.depth w.depth c.max-reached.result a.rest.now b.rest.now w.rest.now a.tree.end b.tree.end w.tree.end
    (rw start c.in_ok-start.ensures)
    (rw test (MatchResult-at_ok _ _ _ c.in_ok-test.ensures.0 c.read_clause-next.ensures))
    (rw c.in_ok-clauses.ensures.step (MatchResult-at_ok _ _ _ c.in_ok-step.ensures.0 c.read_clause-next-2.ensures))
    (c.max-reached.ensures ∙ ap (λ v. max v w.depth) c.max.ensures)
