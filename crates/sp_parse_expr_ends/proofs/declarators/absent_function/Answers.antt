use Rattle.std.proofs.Common.{◌-◌, sym, ap, ◌∙◌, subst, arith}
use Rattle.std.specs.Prelude.{not, ◌&&◌}
use Rattle.std.proofs.lemmas.Result.{err_from_is_err_and, MatchResult-at_ok, MatchResult-at_err}
use Rattle.sp_parse_grammar.specs.CTokens as sorts_there
use Rattle.sp_parse_grammar.specs.CTable as grammar
use Rattle.sp_parse_grammar.specs.CTable.{is_concrete, is_parameters}
use Rattle.sp_parse_tokens.specs.Sorts.{terminal}
use Rattle.sp_parse_tokens.specs.Scopes.{there}
use Rattle.sp_parse_expr_steps.specs.Declaring.{form_seen, IsFunction}
use Rattle.sp_parse_expr_steps.proofs.Steps.{got}
use Rattle.sp_parse_expr_steps.proofs.Parts.{stop_part, stop_mark}
use Rattle.sp_parse_expr_steps.proofs.DeclaratorParts.{parameters_seen}
use Rattle.sp_parse_expr_steps.proofs.GroupSteps.{absent_more, absent_closing, absent_on, absent_function}
use Rattle.sp_parse_expr_steps.specs.Reading.{first_sort}
use Rattle.sp_parse_expr_ends.proofs.Firsts.{begun_by}
use Rattle.sp_parse_expr_ends.proofs.declarators.absent_function.Goals as goal

pub returns-in_err-parameters : goal.returns-in_err-parameters
returns-in_err-parameters c =
    let p = err_from_is_err_and c.from_residual.result c.from_residual.ensures.1 in
    let types = c.args.context.types.now in
    let g = there types c.args.context.scope in
    let f = form_seen c.args.form in
    let y = terminal c.args.opening in
    let b = begun_by c.args.tokens.now c.requires.ended in
    let stands = sym (ap (λ v. not (is_concrete f) && is_parameters (first_sort types v)) b.whole) ∙ c.requires.begun in
    let on = absent_on g f y c.args.tokens.now b.behind b.first b.whole stands in
    rw (p.1, p.2) (stop_part g g g (grammar.behind_group f y) (grammar.behind_group f y) grammar.parameters (λ a. a) (absent_closing g f y) c.args.depth (c.args.depth - 1) c.args.tokens.now c.args.tokens.now on (omega arith) c.in_err-parameters.field-0.0 (MatchResult-at_err _ _ _ c.in_err-parameters.ensures c.requires.read))

pub returns-in_err-rest : goal.returns-in_err-rest
returns-in_err-rest c =
    let p = err_from_is_err_and c.from_residual-in_err-rest.result c.from_residual-in_err-rest.ensures.1 in
    let types = c.args.context.types.now in
    let g = there types c.args.context.scope in
    let f = form_seen c.args.form in
    let y = terminal c.args.opening in
    let b = begun_by c.args.tokens.now c.requires.ended in
    let stands = sym (ap (λ v. not (is_concrete f) && is_parameters (first_sort types v)) b.whole) ∙ c.requires.begun in
    let on = absent_on g f y c.args.tokens.now b.behind b.first b.whole stands in
    let h = MatchResult-at_ok _ _ _ c.in_ok-parameters.ensures.0 c.requires.read in
    let ps = c.in_ok-parameters.parameters.tree in
    rw (p.1, p.2) (stop_mark types c.args.context.scope g (grammar.behind_group f y) (grammar.behind_group f y) (λ a. a) sorts_there.closing ps.behind (absent_more g f y (parameters_seen ps h.pending)) g c.args.depth c.args.tokens.now c.in_ok-parameters.parameters.rest.now (got on h.read.reads) h.read.ended c.in_err-rest.field-0.0 (MatchResult-at_err _ _ _ c.in_err-rest.ensures c.expect-next.ensures))

pub returns : goal.returns
returns c =
    let types = c.args.context.types.now in
    let g = there types c.args.context.scope in
    let f = form_seen c.args.form in
    let y = terminal c.args.opening in
    let b = begun_by c.args.tokens.now c.requires.ended in
    let stands = sym (ap (λ v. not (is_concrete f) && is_parameters (first_sort types v)) b.whole) ∙ c.requires.begun in
    let on = absent_on g f y c.args.tokens.now b.behind b.first b.whole stands in
    let made = subst (λ v. IsFunction v c.in_ok-parameters.parameters.tree c.in_ok-function_of.field-0) c.in_ok-parameters.ensures.1 (subst (λ v. IsFunction v.0 v.1 c.in_ok-function_of.field-0) c.in_ok-rest.ensures.1 c.in_ok-function_of.ensures) in
    absent_function types c.args.context.scope f c.args.opening c.absent-head.result c.in_ok-function_of.field-0 c.in_ok-parameters.parameters.tree c.args.depth c.in_ok-parameters.parameters.depth c.max.result c.args.tokens.now c.in_ok-parameters.parameters.rest.now c.in_ok-rest.rest.now on c.absent-head.ensures (MatchResult-at_ok _ _ _ c.in_ok-parameters.ensures.0 c.requires.read) (MatchResult-at_ok _ _ _ c.in_ok-rest.ensures.0 c.expect-next.ensures) made c.requires.room c.max.ensures
