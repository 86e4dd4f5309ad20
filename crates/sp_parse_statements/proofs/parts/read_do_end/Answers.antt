use Rattle.std.proofs.lemmas.Result.{err_from_is_err_and, MatchResult-at_ok, MatchResult-at_err}
use Rattle.sp_parse_trees.specs.View.{tree_of}
use Rattle.sp_parse_statements.proofs.PartSteps as steps
use Rattle.sp_parse_statements.proofs.parts.read_do_end.Goals as goal

pub returns-in_err-inner : goal.returns-in_err-inner
returns-in_err-inner c =
    let p = err_from_is_err_and c.from_residual.result c.from_residual.ensures.1 in
    rw (p.1, p.2) (steps.do_unopened c.args.context.types.now c.args.context.scope c.args.depth c.args.tokens.now c.requires c.in_err-inner.field-0.0 c.in_err-inner.ensures)

pub returns-in_err-condition : goal.returns-in_err-condition
returns-in_err-condition c =
    let p = err_from_is_err_and c.from_residual-in_err-condition.result c.from_residual-in_err-condition.ensures.1 in
    rw (p.1, p.2) (steps.do_inner c.args.context.types.now c.args.context.scope c.args.depth c.args.tokens.now c.in_ok-inner.inner.now c.in_ok-inner.ensures c.in_err-condition.field-0.0 c.in_err-condition.ensures)

pub returns-in_err-rest : goal.returns-in_err-rest
returns-in_err-rest c =
    let p = err_from_is_err_and c.from_residual-in_err-rest.result c.from_residual-in_err-rest.ensures.1 in
    let o = c.in_ok-condition.condition in
    rw (p.1, p.2) (steps.do_unclosed c.args.context.types.now c.args.context.scope c.args.depth c.args.tokens.now c.in_ok-inner.inner.now c.in_ok-inner.ensures o.depth o.rest.now (tree_of o.tree) c.in_ok-condition.ensures c.in_err-rest.field-0.0 (MatchResult-at_err _ _ _ c.in_err-rest.ensures c.expect-next.ensures))

pub returns : goal.returns
returns c =
    let o = c.in_ok-condition.condition in
    rw (c.in_ok-rest.ensures.1) (steps.do_read c.args.context.types.now c.args.context.scope c.args.depth c.args.tokens.now c.in_ok-inner.inner.now c.in_ok-inner.ensures o.depth o.rest.now (tree_of o.tree) c.in_ok-condition.ensures c.in_ok-rest.rest.now c.first_place-end.result c.first_place-end.ensures (MatchResult-at_ok _ _ _ c.in_ok-rest.ensures.0 c.expect-next.ensures))
