use Rattle.std.proofs.Common.{Some, None, refl, sym, ap, ◌∙◌, arith}
use Rattle.std.specs.Result.{result_from_control_flow}
use Rattle.std.proofs.lemmas.Result.{err_from_is_err_and, MatchResult-at_ok, MatchResult-at_err}
use Rattle.sp_parse_trees.specs.View.{tree_of}
use Rattle.sp_parse_grammar.specs.CTokens.{is_mark, view}
use Rattle.sp_parse_grammar.specs.CTokens as sorts_there
use Rattle.sp_parse_grammar.specs.CTable as grammar
use Rattle.sp_parse_grammar.specs.Table.{done}
use Rattle.sp_parse_tokens.specs.Sorts.{terminal, sort_of}
use Rattle.sp_parse_tokens.specs.SyntaxTrees.{syntax_trees}
use Rattle.sp_parse_tokens.specs.Makers.{number_of}
use Rattle.sp_parse_tokens.specs.Scopes.{there}
use Rattle.sp_parse_expr_steps.proofs.Steps.{got, finished}
use Rattle.sp_parse_expr_steps.proofs.Parts.{stop_part}
use Rattle.sp_parse_expr_steps.proofs.ExpressionSteps.{built}
use Rattle.sp_parse_expr_steps.proofs.ListSteps.{choice_taken}
use Rattle.sp_parse_expr_steps.proofs.EnumeratorSteps.{enumerator_of, name_number, value_step, value_plan}
use Rattle.sp_parse_expr_lists.proofs.constants.valued.Goals as goal

pub returns-in_err-value : goal.returns-in_err-value
returns-in_err-value c =
    let p = err_from_is_err_and c.from_residual.result c.from_residual.ensures.1 in
    let types = c.args.context.types.now in
    let g = there types c.args.context.scope in
    let v = c.requires.named.1 in
    let x = v.first in
    let y = v.equals.first in
    let rest = c.args.constant.rest.now in
    let on = choice_taken g grammar.enumerator grammar.value_of (λ w. syntax_trees.enumerator (terminal x) w) c.args.tokens.now v.behind rest y (value_step g c.args.tokens.now v.behind x c.args.constant.name v.whole v.is) v.equals.whole (is_mark sorts_there.equal (view types (sort_of y.kind))) None (λ z. value_plan g) refl v.equals.stands in
    rw (p.1, p.2) (stop_part g g g grammar.enumerator grammar.value_of (grammar.level 11) (λ w. syntax_trees.enumerator (terminal x) w) (λ o. done (Some o.tree)) c.args.depth c.args.depth c.args.tokens.now rest on (omega arith) c.in_err-value.field-0.0 (MatchResult-at_err _ _ _ (c.branch-value.ensures ∙ ap (λ r. result_from_control_flow r) c.in_err-value.is) c.requires.read))

pub returns : goal.returns
returns c =
    let types = c.args.context.types.now in
    let g = there types c.args.context.scope in
    let v = c.requires.named.1 in
    let n = c.args.constant.name in
    let x = v.first in
    let y = v.equals.first in
    let rest = c.args.constant.rest.now in
    let on = choice_taken g grammar.enumerator grammar.value_of (λ w. syntax_trees.enumerator (terminal x) w) c.args.tokens.now v.behind rest y (value_step g c.args.tokens.now v.behind x n v.whole v.is) v.equals.whole (is_mark sorts_there.equal (view types (sort_of y.kind))) None (λ z. value_plan g) refl v.equals.stands in
    let h = MatchResult-at_ok _ _ _ (c.branch-value.ensures ∙ ap (λ r. result_from_control_flow r) c.in_ok-value.is) c.requires.read in
    let value = c.in_ok-value.value in
    let tree = Some (tree_of value.tree.tree) in
    let same = ap (λ w. enumerator_of w c.args.constant.place tree) (sym (name_number types n x.kind v.is)) ∙ ap (λ p. enumerator_of (number_of x.kind) p tree) v.at_place in
    built g grammar.enumerator c.args.depth value.depth c.args.tokens.now value.rest.now (syntax_trees.enumerator (terminal x) tree) (enumerator_of n c.args.constant.place tree) (finished (got on h.reads)) same h.deep h.shallow h.ended (omega (arith, h.fewer, c.requires.named.2))
