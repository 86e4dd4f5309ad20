use Rattle.std.proofs.Common.{map, refl, sym, ap}
use Rattle.std.proofs.lemmas.Result.{err_from_is_err_and, MatchResult-at_ok, MatchResult-at_err}
use Rattle.sp_parse_trees.specs.Syntax.{declaration}
use Rattle.sp_parse_trees.specs.View.{specifiers_of, init_declarators}
use Rattle.sp_parse_trees.specs.declared.tree.DeclaratorForm.TheFolds.{fold-roll-Declaration}
use Rattle.sp_parse_grammar.specs.CTokens as sorts_there
use Rattle.sp_parse_grammar.specs.CTable as grammar
use Rattle.sp_parse_tokens.specs.Makers.{first_place}
use Rattle.sp_parse_tokens.specs.Scopes.{there}
use Rattle.sp_parse_expr_steps.specs.Declaring.{item_seen}
use Rattle.sp_parse_expr_steps.proofs.Steps.{got}
use Rattle.sp_parse_expr_steps.proofs.Parts.{stop_mark}
use Rattle.sp_parse_expr_steps.proofs.MemberSteps.{member_begun, member_done, member_read}
use Rattle.sp_parse_expr_lists.proofs.ItemLists.{items_ended}
use Rattle.sp_parse_expr_lists.proofs.items.closed_member.Goals as goal

pub returns-in_err-rest : goal.returns-in_err-rest
returns-in_err-rest c =
    let p = err_from_is_err_and c.from_residual.result c.from_residual.ensures.1 in
    let types = c.args.context.types.now in
    let g = there types c.args.context.scope in
    let member = c.args.member in
    let is = member.declarators in
    let h = c.requires.behind in
    let b = h.goes_on.0 in
    let rest = member.rest.now in
    let w = items_ended g c.args.depth c.args.tokens.now member.specifiers.tree member.specifiers.depth member.specifiers.rest.now is member.depth rest b h.goes_on.1 h.deep h.shallow h.ended in
    rw (p.1, p.2) (stop_mark types c.args.context.scope g grammar.member grammar.member (λ a. a) sorts_there.semicolon is.behind (member_done g b.specified.all (map item_seen is.all.items)) g c.args.depth c.args.tokens.now rest (got (got (got (member_begun g c.args.tokens.now c.requires.ended) b.specified.read.reads) b.one.reads) w.read.reads) h.ended c.in_err-rest.field-0.0 (MatchResult-at_err _ _ _ c.in_err-rest.ensures c.expect-next.ensures))

pub returns : goal.returns
returns c =
    let types = c.args.context.types.now in
    let g = there types c.args.context.scope in
    let member = c.args.member in
    let ss = member.specifiers in
    let is = member.declarators in
    let h = c.requires.behind in
    let b = h.goes_on.0 in
    let rest = member.rest.now in
    let w = items_ended g c.args.depth c.args.tokens.now ss.tree ss.depth ss.rest.now is member.depth rest b h.goes_on.1 h.deep h.shallow h.ended in
    let place = c.next_token.result.0.place in
    rw (fold-roll-Declaration, ap (λ v. v.0) c.in_ok-rest.ensures.1, ap (λ v. v.1) c.in_ok-rest.ensures.1) (member_read types c.args.context.scope c.args.depth ss.depth member.depth c.max-reached.result c.args.tokens.now ss.rest.now b.far rest c.in_ok-rest.rest.now ss.tree b.first is b.first_depth place (declaration (specifiers_of ss.tree.all.items) (init_declarators (map item_seen is.all.items)) place) c.requires.ended b.specified b.one w (MatchResult-at_ok _ _ _ c.in_ok-rest.ensures.0 c.expect-next.ensures) c.max-reached.ensures (ap (λ v. first_place v) (sym c.next_token.ensures)) refl)
