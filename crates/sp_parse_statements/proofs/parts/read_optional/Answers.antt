use Rattle.std.proofs.Common.{Some, sym, ap, ◌∙◌, arith}
use Rattle.std.proofs.lemmas.Result.{err_from_is_err_and}
use Rattle.sp_parse_grammar.specs.CTable as grammar
use Rattle.sp_parse_grammar.specs.CTable.{begins_expression}
use Rattle.sp_parse_grammar.specs.Table.{done}
use Rattle.sp_parse_tokens.specs.Scopes.{there}
use Rattle.sp_parse_expr_steps.proofs.Steps.{got, finished}
use Rattle.sp_parse_expr_steps.proofs.Parts.{stop_part}
use Rattle.sp_parse_statements.proofs.PartSteps as steps
use Rattle.sp_parse_statements.proofs.parts.read_optional.Goals as goal

pub returns-then-not-begins_expression : goal.returns-then-not-begins_expression
returns-then-not-begins_expression c =
    let g = there c.args.context.types.now c.args.context.scope in
    let other = sym (c.begins_expression.ensures ∙ ap (λ s. begins_expression s) c.sort_at.ensures) ∙ c.if-not-begins_expression.true in
    steps.optional_none g c.args.tokens.now c.next_token.result.1.now c.next_token.result.0 c.next_token.ensures c.args.depth other c.requires

pub returns-in_err-value : goal.returns-in_err-value
returns-in_err-value c =
    let p = err_from_is_err_and c.from_residual.result c.from_residual.ensures.1 in
    let g = there c.args.context.types.now c.args.context.scope in
    let stands = sym (c.begins_expression.ensures ∙ ap (λ s. begins_expression s) c.sort_at.ensures) ∙ c.if-not-begins_expression.false in
    rw (p.1, p.2) (stop_part g g g grammar.optional_expression grammar.optional_expression (grammar.level 13) (λ a. a) (λ o. done (Some o.tree)) c.args.depth c.args.depth c.args.tokens.now c.args.tokens.now (steps.optional_on g c.args.tokens.now c.next_token.result.1.now c.next_token.result.0 c.next_token.ensures stands) (omega arith) c.in_err-value.field-0.0 c.in_err-value.ensures)

pub returns : goal.returns
returns c =
    let g = there c.args.context.types.now c.args.context.scope in
    let h = c.in_ok-value.ensures in
    let stands = sym (c.begins_expression.ensures ∙ ap (λ s. begins_expression s) c.sort_at.ensures) ∙ c.if-not-begins_expression.false in
    record {
      reads = finished (got (steps.optional_on g c.args.tokens.now c.next_token.result.1.now c.next_token.result.0 c.next_token.ensures stands) h.reads);
      deep = h.deep;
      shallow = h.shallow;
      ended = h.ended;
      fewer = omega (arith, h.fewer);
    }
