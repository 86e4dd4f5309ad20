use Rattle.std.proofs.Common.{[], ◌∷◌, ◌++◌, ap, ◌∙◌}
use Rattle.std.proofs.lemmas.Result.{err_from_is_err_and, MatchResult-at_ok, MatchResult-at_err}
use Rattle.sp_parse_tokens.specs.Scopes.{there}
use Rattle.sp_parse_expr_lists.proofs.Opened.{enum_stop}
use Rattle.sp_parse_expr_lists.proofs.ConstantLists.{one_listed}
use Rattle.sp_parse_expr_lists.proofs.constants.with_constant.Goals as goal

pub returns-in_err-part : goal.returns-in_err-part
returns-in_err-part c =
    let p = err_from_is_err_and c.from_residual.result c.from_residual.ensures.1 in
    let types = c.args.context.types.now in
    let stop = c.in_err-part.field-0.0 in
    let head = c.requires.head in
    rw (p.1, p.2) (enum_stop types c.args.context.scope c.args.word c.args.depth c.args.tokens.now c.args.head.rest.now c.args.head.tag head.0 head.1 stop (c.requires.before.goes_on.stops stop (MatchResult-at_err _ _ _ c.in_err-part.ensures c.requires.read)))

pub returns : goal.returns
returns c =
    let g = there c.args.context.types.now c.args.context.scope in
    let b = c.requires.before in
    let part = c.in_ok-part.part in
    let h = MatchResult-at_ok _ _ _ c.in_ok-part.ensures.0 c.requires.read in
    let items = c.in_ok-all.ensures ∙ ap (λ v. v.items ++ part.tree ∷ []) c.in_ok-part.ensures.1 in
    one_listed g c.args.context.scope c.args.depth c.args.head.rest.now c.args.constants.all.items c.in_ok-all.all.items part.tree c.args.constants.depth part.depth c.max-reached.result c.args.constants.rest.now part.rest.now c.past_comma-more.result.1.now c.past_comma-more.result.0 b h items c.max-reached.ensures c.past_comma-more.ensures
