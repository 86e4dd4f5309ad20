use Rattle.std.proofs.Common.{[], ◌∷◌, ◌++◌, sym, ap, ◌∙◌, subst}
use Rattle.std.proofs.lemmas.Result.{err_from_is_err_and, MatchResult-at_ok, MatchResult-at_err}
use Rattle.sp_parse_tokens.specs.Scopes.{there}
use Rattle.sp_parse_expr_lists.specs.Items.{HasItems}
use Rattle.sp_parse_expr_lists.proofs.ItemLists.{one_listed}
use Rattle.sp_parse_expr_lists.proofs.items.with_item.Goals as goal

pub returns-in_err-part : goal.returns-in_err-part
returns-in_err-part c =
    let p = err_from_is_err_and c.from_residual.result c.from_residual.ensures.1 in
    let stop = c.in_err-part.field-0.0 in
    rw (p.1, p.2) (c.requires.before.goes_on.stops stop (MatchResult-at_err _ _ _ c.in_err-part.ensures c.requires.read))

pub returns : goal.returns
returns c =
    let g = there c.args.context.types.now c.args.context.scope in
    let was = c.args.member in
    let ss = was.specifiers in
    let part = c.in_ok-part.part in
    let h = MatchResult-at_ok _ _ _ c.in_ok-part.ensures.0 c.requires.read in
    let item = c.item_of.result in
    let items = (MatchResult-at_ok _ _ _ c.in_ok-all.ensures.0 c.with_one-longer.ensures) ∙ ap (λ v. v.1.items ++ item ∷ []) c.in_ok-part.ensures.1 in
    let same = ap (λ v. v) c.in_ok-all.ensures.1 ∙ ap (λ v. v.0) c.in_ok-part.ensures.1 in
    let now = c.in_ok-all.all.items in
    let all = one_listed g c.args.depth c.args.tokens.now ss.tree ss.depth ss.rest.now was.declarators.all.items now was.declarators.behind c.closed-behind.result item part.tree was.depth part.depth c.max.result was.rest.now part.rest.now c.past_comma-more.result.1.now c.past_comma-more.result.0 c.requires.ended c.requires.before h items c.item_of.ensures c.closed-behind.ensures c.max.ensures c.past_comma-more.ensures in
    (subst (λ v. HasItems g c.args.depth c.args.tokens.now v.tree v.depth v.rest.now c.past_comma-more.result.0 now c.closed-behind.result c.max.result c.past_comma-more.result.1.now) (sym same) all.0, all.1)
