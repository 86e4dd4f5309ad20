use Rattle.std.proofs.Common.{[], ◌∷◌, ◌++◌, false, ap, ◌∙◌, arith}
use Rattle.std.proofs.lemmas.Result.{err_from_is_err_and, MatchResult-at_ok, MatchResult-at_err}
use Rattle.sp_parse_grammar.specs.CTable.{begins_specifiers}
use Rattle.sp_parse_tokens.specs.Scopes.{there}
use Rattle.sp_parse_expr_steps.proofs.StructureSteps.{inner}
use Rattle.sp_parse_expr_lists.proofs.Opened.{struct_stop}
use Rattle.sp_parse_expr_lists.proofs.MemberLists.{one_listed}
use Rattle.sp_parse_expr_lists.proofs.members.with_member.Goals as goal

pub returns-in_err-part : goal.returns-in_err-part
returns-in_err-part c =
    let p = err_from_is_err_and c.from_residual.result c.from_residual.ensures.1 in
    let types = c.args.context.types.now in
    let stop = c.in_err-part.field-0.0 in
    let head = c.requires.head in
    let room = head.1 in
    rw (p.1, p.2) (struct_stop types c.args.context.scope c.args.word c.args.depth c.args.tokens.now c.args.head.rest.now (omega (arith, room)) c.args.head.tag head.0 head.2 stop (c.requires.before.goes_on.stops stop (MatchResult-at_err _ _ _ c.in_err-part.ensures c.requires.read)))

pub returns : goal.returns
returns c =
    let g = there c.args.context.types.now c.args.context.scope in
    let b = c.requires.before in
    let part = c.in_ok-part.part in
    let h = MatchResult-at_ok _ _ _ c.in_ok-part.ensures.0 c.requires.read in
    let items = c.in_ok-all.ensures ∙ ap (λ v. v.items ++ part.tree ∷ []) c.in_ok-part.ensures.1 in
    let goes_on = c.begins_specifiers-more.ensures ∙ ap (λ s. begins_specifiers false c.args.context.scope.in_function s) c.sort_at-sort.ensures in
    one_listed g (inner c.args.context.scope) c.args.depth c.args.head.rest.now c.args.members.all.items c.in_ok-all.all.items part.tree c.args.members.depth part.depth c.max-reached.result c.args.members.rest.now part.rest.now b h items c.max-reached.ensures c.next_token.result.1.now c.next_token.result.0 c.next_token.ensures c.begins_specifiers-more.result goes_on
