use Rattle.std.proofs.Common.{[], ◌∷◌, ◌++◌, ap, ◌∙◌}
use Rattle.std.proofs.lemmas.Result.{err_from_is_err_and, MatchResult-at_ok, MatchResult-at_err}
use Rattle.sp_parse_tokens.specs.Scopes.{there}
use Rattle.sp_parse_expr_lists.proofs.ArgumentLists.{one_listed}
use Rattle.sp_parse_expr_lists.proofs.arguments.with_argument.Goals as goal

pub returns-in_err-part : goal.returns-in_err-part
returns-in_err-part c =
    let p = err_from_is_err_and c.from_residual.result c.from_residual.ensures.1 in
    let stop = c.in_err-part.field-0.0 in
    rw (p.1, p.2) (c.requires.before.stops stop (MatchResult-at_err _ _ _ c.in_err-part.ensures c.requires.read))

pub returns : goal.returns
returns c =
    let g = there c.args.context.types.now c.args.context.scope in
    let part = c.in_ok-part.part in
    let h = MatchResult-at_ok _ _ _ c.in_ok-part.ensures.0 c.requires.read in
    let items = c.in_ok-all.ensures ∙ ap (λ v. v.items ++ part.tree.tree ∷ []) c.in_ok-part.ensures.1 in
    one_listed g c.args.depth c.args.tokens.now c.args.arguments.all.items c.in_ok-all.all.items part.tree c.args.arguments.depth part.depth c.max-reached.result c.args.arguments.rest.now part.rest.now c.past_comma-more.result.1.now c.past_comma-more.result.0 c.requires.before h items c.max-reached.ensures c.past_comma-more.ensures
