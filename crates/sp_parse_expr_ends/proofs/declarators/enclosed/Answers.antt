use Rattle.std.proofs.Common.{◌-◌, sym, ap, ◌∙◌, arith}
use Rattle.std.specs.Prelude.{not, ◌&&◌}
use Rattle.std.specs.Result.{result_from_control_flow}
use Rattle.std.proofs.lemmas.Result.{err_from_is_err_and, MatchResult-at_ok, MatchResult-at_err}
use Rattle.sp_parse_grammar.specs.CTokens as sorts_there
use Rattle.sp_parse_grammar.specs.CTable as grammar
use Rattle.sp_parse_grammar.specs.CTable.{is_concrete, is_parameters}
use Rattle.sp_parse_tokens.specs.Sorts.{terminal}
use Rattle.sp_parse_tokens.specs.Scopes.{there}
use Rattle.sp_parse_expr_steps.specs.Declaring.{form_seen, declared_seen}
use Rattle.sp_parse_expr_steps.proofs.Steps.{got}
use Rattle.sp_parse_expr_steps.proofs.Parts.{stop_part, stop_mark}
use Rattle.sp_parse_expr_steps.proofs.GroupSteps.{inner_more, inner_closing, inner_on, grouped_declarator}
use Rattle.sp_parse_expr_steps.specs.Reading.{first_sort}
use Rattle.sp_parse_expr_ends.proofs.Firsts.{begun_by}
use Rattle.sp_parse_expr_ends.proofs.declarators.enclosed.Goals as goal

pub returns-in_err-inner : goal.returns-in_err-inner
returns-in_err-inner c =
    let p = err_from_is_err_and c.from_residual.result c.from_residual.ensures.1 in
    let types = c.args.context.types.now in
    let g = there types c.args.context.scope in
    let f = form_seen c.args.form in
    let y = terminal c.args.opening in
    let b = begun_by c.args.tokens.now c.requires.ended in
    let stands = sym (ap (λ v. not (is_concrete f) && is_parameters (first_sort types v)) b.whole) ∙ c.requires.begun in
    let on = inner_on g f y c.args.tokens.now b.behind b.first b.whole stands in
    rw (p.1, p.2) (stop_part g g g (grammar.behind_group f y) (grammar.behind_group f y) (grammar.group f) (λ a. a) (inner_closing g f y) c.args.depth (c.args.depth - 1) c.args.tokens.now c.args.tokens.now on (omega arith) c.in_err-inner.field-0.0 (MatchResult-at_err _ _ _ (c.branch-inner.ensures ∙ ap (λ r. result_from_control_flow r) c.in_err-inner.is) c.requires.read))

pub returns-in_err-rest : goal.returns-in_err-rest
returns-in_err-rest c =
    let p = err_from_is_err_and c.from_residual-in_err-rest.result c.from_residual-in_err-rest.ensures.1 in
    let types = c.args.context.types.now in
    let g = there types c.args.context.scope in
    let f = form_seen c.args.form in
    let y = terminal c.args.opening in
    let b = begun_by c.args.tokens.now c.requires.ended in
    let stands = sym (ap (λ v. not (is_concrete f) && is_parameters (first_sort types v)) b.whole) ∙ c.requires.begun in
    let on = inner_on g f y c.args.tokens.now b.behind b.first b.whole stands in
    let h = (MatchResult-at_ok _ _ _ (c.branch-inner.ensures ∙ ap (λ r. result_from_control_flow r) c.in_ok-inner.is) c.requires.read) in
    let inner = c.in_ok-inner.inner.tree in
    rw (p.1, p.2) (stop_mark types c.args.context.scope g (grammar.behind_group f y) (grammar.behind_group f y) (λ a. a) sorts_there.closing inner.behind (inner_more g f y (declared_seen inner h.pending)) g c.args.depth c.args.tokens.now c.in_ok-inner.inner.rest.now (got on h.read.reads) h.read.ended c.in_err-rest.field-0.0 (MatchResult-at_err _ _ _ c.in_err-rest.ensures c.expect-next.ensures))

pub returns : goal.returns
returns c =
    let types = c.args.context.types.now in
    let g = there types c.args.context.scope in
    let f = form_seen c.args.form in
    let y = terminal c.args.opening in
    let b = begun_by c.args.tokens.now c.requires.ended in
    let stands = sym (ap (λ v. not (is_concrete f) && is_parameters (first_sort types v)) b.whole) ∙ c.requires.begun in
    let on = inner_on g f y c.args.tokens.now b.behind b.first b.whole stands in
    grouped_declarator types c.args.context.scope f c.args.opening c.in_ok-inner.inner.tree c.in_ok-tree.tree c.args.depth c.in_ok-inner.inner.depth c.args.tokens.now c.in_ok-inner.inner.rest.now c.in_ok-rest.rest.now on (MatchResult-at_ok _ _ _ (c.branch-inner.ensures ∙ ap (λ r. result_from_control_flow r) c.in_ok-inner.is) c.requires.read) (MatchResult-at_ok _ _ _ c.in_ok-rest.ensures.0 c.expect-next.ensures) (rw c.in_ok-rest.ensures.1 at c.in_ok-tree.ensures) c.requires.room
