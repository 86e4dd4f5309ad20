use Rattle.std.proofs.Common.{sym, ap, ◌∙◌}
use Rattle.std.proofs.lemmas.Result.{err_from_is_err_and}
use Rattle.sp_parse_trees.specs.Syntax as syntax
use Rattle.sp_parse_tokens.specs.Makers.{first_place}
use Rattle.sp_decl_parser.proofs.ExternalSteps as steps
use Rattle.sp_decl_parser.proofs.externals.read_external.Goals as goal

pub returns-then-ends_at_once : goal.returns-then-ends_at_once
returns-then-ends_at_once c =
    let stands = sym c.ends_at_once.ensures ∙ c.if-ends_at_once.true in
    steps.empty_read c.args.context.types.now c.args.context.scope c.args.tokens.now c.next_token.result.1.now c.next_token.result.0 c.next_token.ensures c.args.depth _ stands c.requires (ap (λ v. steps.declares syntax.semicolon v) c.new.ensures.items)

pub returns-in_err-specifiers : goal.returns-in_err-specifiers
returns-in_err-specifiers c =
    let p = err_from_is_err_and c.from_residual.result c.from_residual.ensures.1 in
    let other = sym c.ends_at_once.ensures ∙ c.if-ends_at_once.false in
    rw (p.1, p.2) (steps.external_unspecified c.args.context.types.now c.args.context.scope c.args.tokens.now c.next_token.result.1.now c.next_token.result.0 c.next_token.ensures other c.args.depth c.in_err-specifiers.field-0.0 c.in_err-specifiers.ensures)

pub returns : goal.returns
returns c =
    let ss = c.in_ok-specifiers.specifiers in
    let h = c.in_ok-specifiers.ensures in
    let other = sym c.ends_at_once.ensures ∙ c.if-ends_at_once.false in
    steps.external_result c.args.context.types.now c.args.context.scope c.args.tokens.now c.next_token.result.1.now c.next_token.result.0 c.next_token.ensures other c.args.depth ss.depth ss.rest.now ss.tree h c.read_external_items.result (c.read_external_items.ensures h.all h.same (h.place ∙ ap (λ v. first_place v) c.next_token.ensures))
