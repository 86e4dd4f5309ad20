use Rattle.std.proofs.Common.{Some, refl, sym, ap, ◌∙◌, arith}
use Rattle.std.specs.Result.{result_from_control_flow}
use Rattle.std.proofs.lemmas.Result.{err_from_is_err_and, MatchResult-at_ok, MatchResult-at_err}
use Rattle.sp_parse_trees.specs.View.{tree_of}
use Rattle.sp_parse_grammar.specs.CTable as grammar
use Rattle.sp_parse_grammar.specs.CTable.{begins_expression}
use Rattle.sp_parse_grammar.specs.Table.{done}
use Rattle.sp_parse_tokens.specs.Scopes.{there}
use Rattle.sp_parse_expr_steps.proofs.Steps.{got, finished}
use Rattle.sp_parse_expr_steps.proofs.Parts.{stop_part}
use Rattle.sp_parse_expr_steps.proofs.ExpressionSteps.{built}
use Rattle.sp_parse_expr_steps.proofs.DeclaratorSteps.{length_on}
use Rattle.sp_parse_expr_steps.specs.Reading.{first_sort}
use Rattle.sp_parse_expr_ends.proofs.Firsts.{begun_by}
use Rattle.sp_parse_expr_ends.proofs.declarators.given_length.Goals as goal

pub returns-in_err-length : goal.returns-in_err-length
returns-in_err-length c =
    let p = err_from_is_err_and c.from_residual.result c.from_residual.ensures.1 in
    let types = c.args.context.types.now in
    let g = there types c.args.context.scope in
    let b = begun_by c.args.tokens.now c.requires.ended in
    let stands = sym (ap (λ v. begins_expression (first_sort types v)) b.whole) ∙ c.requires.begun in
    let on = length_on g c.args.tokens.now b.behind b.first b.whole stands in
    rw (p.1, p.2) (stop_part g g g grammar.array_length grammar.array_length (grammar.level 11) (λ a. a) (λ o. done (Some o.tree)) c.args.depth c.args.depth c.args.tokens.now c.args.tokens.now on (omega arith) c.in_err-length.field-0.0 (MatchResult-at_err _ _ _ (c.branch-length.ensures ∙ ap (λ r. result_from_control_flow r) c.in_err-length.is) c.requires.read))

pub returns : goal.returns
returns c =
    let types = c.args.context.types.now in
    let g = there types c.args.context.scope in
    let b = begun_by c.args.tokens.now c.requires.ended in
    let stands = sym (ap (λ v. begins_expression (first_sort types v)) b.whole) ∙ c.requires.begun in
    let on = length_on g c.args.tokens.now b.behind b.first b.whole stands in
    let h = (MatchResult-at_ok _ _ _ (c.branch-length.ensures ∙ ap (λ r. result_from_control_flow r) c.in_ok-length.is) c.requires.read) in
    let e = tree_of c.in_ok-length.length.tree.tree in
    built g grammar.array_length c.args.depth c.in_ok-length.length.depth c.args.tokens.now c.in_ok-length.length.rest.now (Some e) (Some e) (finished (got on h.reads)) refl h.deep h.shallow h.ended (omega (arith, h.fewer))
