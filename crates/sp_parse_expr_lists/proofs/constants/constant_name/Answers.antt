use Rattle.std.proofs.Common.{◌≡◌, ◌∷◌, length, None, refl, sym, ap, ◌∙◌, subst, arith}
use Rattle.sp_parse_grammar.specs.CTokens.{is_mark, view}
use Rattle.sp_parse_grammar.specs.CTokens as sorts_there
use Rattle.sp_parse_grammar.specs.CTable as grammar
use Rattle.sp_parse_tokens.specs.Sorts.{terminal, sort_of, c_tokens}
use Rattle.sp_parse_tokens.specs.SyntaxTrees.{syntax_trees}
use Rattle.sp_parse_tokens.specs.Ended.{IsEnded}
use Rattle.sp_parse_tokens.specs.Codes.{sort_seen}
use Rattle.sp_parse_tokens.specs.Scopes.{there}
use Rattle.sp_parse_tokens.specs.declared.scope.AlsoAllowed.TheVariants as also
use Rattle.sp_parse_tokens.proofs.Viewing.{ended_other}
use Rattle.sp_parse_expr_steps.proofs.Steps.{begun}
use Rattle.sp_parse_expr_steps.proofs.ExpressionSteps.{built}
use Rattle.sp_parse_expr_steps.proofs.Faulting.{stop_unread}
use Rattle.sp_parse_expr_steps.proofs.ListSteps.{choice_ends}
use Rattle.sp_parse_expr_steps.proofs.EnumeratorSteps.{enumerator_none, enumerator_of, name_no_end, name_number, value_step, value_plan, value_deep}
use Rattle.sp_parse_expr_lists.specs.Heads.{Begins}
use Rattle.sp_parse_expr_lists.proofs.Opened.{ended_behind}
use Rattle.sp_parse_expr_lists.proofs.constants.constant_name.Goals as goal

pub returns-in_default : goal.returns-in_default
returns-in_default c =
    let types = c.args.context.types.now in
    let g = there types c.args.context.scope in
    let x = c.next_token.result.0 in
    let none = subst {0, 0} (λ v. grammar.plan {t = syntax_trees} g grammar.enumerator (terminal x) v ≡ None) c.sort_at.ensures (enumerator_none g (terminal x) c.sort_at.result c.in_default.not-Name) in
    stop_unread types c.args.context.scope also.Name grammar.enumerator grammar.enumerator (λ a. a) c.args.depth c.args.tokens.now c.args.tokens.now c.next_token.result.1.now x (begun (grammar.at g grammar.enumerator) (c_tokens c.args.tokens.now)) c.next_token.ensures none (λ y. refl) c.requires c.fault.result c.fault.ensures

pub returns-then-not-is_mark : goal.returns-then-not-is_mark
returns-then-not-is_mark c =
    let types = c.args.context.types.now in
    let g = there types c.args.context.scope in
    let x = c.next_token.result.0 in
    let rest = c.next_token.result.1.now in
    let n = c.in-Name.name in
    let is = ap sort_seen (sym c.in-Name.is) ∙ c.sort_at.ensures in
    let y = c.next_token-2.result.0 in
    let other = sym (c.is_mark.ensures ∙ ap (λ s. is_mark sorts_there.equal s) c.sort_at-2.ensures) ∙ c.if-not-is_mark.true in
    let reads = choice_ends g grammar.enumerator grammar.value_of (λ v. syntax_trees.enumerator (terminal x) v) c.args.tokens.now rest c.next_token-2.result.1.now y (value_step g c.args.tokens.now rest x n c.next_token.ensures is) c.next_token-2.ensures (is_mark sorts_there.equal (view types (sort_of y.kind))) None (grammar.next (λ z. value_plan g)) refl other in
    let same = ap (λ v. enumerator_of v x.place None) (sym (name_number types n x.kind is)) in
    let shorter : length c.args.tokens.now ≡ length (x ∷ rest) = ap length c.next_token.ensures in
    built g grammar.enumerator c.args.depth 0 c.args.tokens.now rest (syntax_trees.enumerator (terminal x) None) (enumerator_of n x.place None) reads same refl (omega arith) (ended_other x rest (subst IsEnded c.next_token.ensures c.requires) (name_no_end types n x.kind is)) (omega (arith, shorter))

pub returns-then-depth-lt1 : goal.returns-then-depth-lt1
returns-then-depth-lt1 c =
    let types = c.args.context.types.now in
    let g = there types c.args.context.scope in
    let x = c.next_token.result.0 in
    let rest = c.next_token.result.1.now in
    let is = ap sort_seen (sym c.in-Name.is) ∙ c.sort_at.ensures in
    let stands = sym (c.is_mark.ensures ∙ ap (λ s. is_mark sorts_there.equal s) c.sort_at-2.ensures) ∙ c.if-not-is_mark.false in
    (value_deep g c.args.tokens.now rest c.next_token-2.result.1.now x c.next_token-2.result.0 c.args.depth (value_step g c.args.tokens.now rest x c.in-Name.name c.next_token.ensures is) c.next_token-2.ensures stands c.if-depth-lt1.true, ended_other x rest (subst IsEnded c.next_token.ensures c.requires) (name_no_end types c.in-Name.name x.kind is))

pub returns : goal.returns
returns c =
    let types = c.args.context.types.now in
    let x = c.next_token.result.0 in
    let rest = c.next_token.result.1.now in
    let y = c.next_token-2.result.0 in
    let ys = c.next_token-2.result.1.now in
    let is = ap sort_seen (sym c.in-Name.is) ∙ c.sort_at.ensures in
    let stands = sym (c.is_mark.ensures ∙ ap (λ s. is_mark sorts_there.equal s) c.sort_at-2.ensures) ∙ c.if-not-is_mark.false in
    let equals : Begins types sorts_there.equal rest ys = record { first = y; whole = c.next_token-2.ensures; stands = stands } in
    let shorter : length c.args.tokens.now ≡ length (x ∷ rest) = ap length c.next_token.ensures in
    let less : length rest ≡ length (y ∷ ys) = ap length c.next_token-2.ensures in
    let ended = ended_other x rest (subst IsEnded c.next_token.ensures c.requires) (name_no_end types c.in-Name.name x.kind is) in
    (omega arith, record { first = x; behind = rest; whole = c.next_token.ensures; is = is; at_place = refl; equals = equals }, omega (arith, shorter, less), ended_behind types sorts_there.equal rest ys refl equals ended)
