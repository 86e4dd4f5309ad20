use Rattle.std.specs.Prelude.{option_map}
use Rattle.std.proofs.lemmas.Result.{err_from_is_err_and, MatchResult-at_ok, MatchResult-at_err}
use Rattle.sp_parse_trees.specs.View.{tree_of}
use Rattle.sp_parse_tokens.specs.Codes.{mark_seen}
use Rattle.sp_parse_statements.proofs.PartSteps as steps
use Rattle.sp_parse_statements.proofs.parts.read_clause.Goals as goal

pub returns-in_err-value : goal.returns-in_err-value
returns-in_err-value c =
    let p = err_from_is_err_and c.from_residual.result c.from_residual.ensures.1 in
    rw (p.1, p.2) (steps.clause_inner c.args.context.types.now c.args.context.scope (mark_seen c.args.mark) c.args.depth c.args.tokens.now c.in_err-value.field-0.0 c.in_err-value.ensures)

pub returns-in_err-rest : goal.returns-in_err-rest
returns-in_err-rest c =
    let p = err_from_is_err_and c.from_residual-in_err-rest.result c.from_residual-in_err-rest.ensures.1 in
    let v = c.in_ok-value.value in
    rw (p.1, p.2) (steps.clause_unclosed c.args.context.types.now c.args.context.scope (mark_seen c.args.mark) c.args.depth c.args.tokens.now v.depth v.rest.now (option_map tree_of v.tree) c.in_ok-value.ensures c.if_missing.result c.if_missing.ensures c.in_err-rest.field-0.0 (MatchResult-at_err _ _ _ c.in_err-rest.ensures c.expect-next.ensures))

pub returns : goal.returns
returns c =
    let v = c.in_ok-value.value in
    rw (c.in_ok-rest.ensures.1) (steps.clause_read c.args.context.types.now c.args.context.scope (mark_seen c.args.mark) c.args.depth c.args.tokens.now v.depth v.rest.now (option_map tree_of v.tree) c.in_ok-value.ensures c.if_missing.result c.if_missing.ensures c.in_ok-rest.rest.now c.first_place-end.result c.first_place-end.ensures (MatchResult-at_ok _ _ _ c.in_ok-rest.ensures.0 c.expect-next.ensures))
