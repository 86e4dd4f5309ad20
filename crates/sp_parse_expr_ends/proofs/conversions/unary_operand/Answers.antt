use Rattle.std.proofs.Common.{true, refl, sym, ap, ◌∙◌}
use Rattle.std.specs.Result.{result_from_control_flow}
use Rattle.std.proofs.lemmas.Result.{err_from_is_err_and, MatchResult-at_ok, MatchResult-at_err}
use Rattle.sp_parse_trees.specs.View.{tree_of}
use Rattle.sp_parse_grammar.specs.CTokens.{is_mark}
use Rattle.sp_parse_grammar.specs.CTokens as sorts_there
use Rattle.sp_parse_grammar.specs.CTable as grammar
use Rattle.sp_parse_grammar.specs.CTable.{operand}
use Rattle.sp_parse_tokens.specs.Scopes.{there}
use Rattle.sp_parse_expr_steps.specs.Reading.{operand_seen, first_sort}
use Rattle.sp_parse_expr_steps.proofs.Parts.{stop_before}
use Rattle.sp_parse_expr_steps.proofs.ExpressionSteps.{read_before}
use Rattle.sp_parse_expr_steps.proofs.Casts.{cast_unary, operand_read}
use Rattle.sp_parse_expr_ends.proofs.Firsts.{begun_by}
use Rattle.sp_parse_expr_ends.proofs.conversions.unary_operand.Goals as goal

pub returns-in_err-part : goal.returns-in_err-part
returns-in_err-part c =
    let p = err_from_is_err_and c.from_residual.result c.from_residual.ensures.1 in
    let types = c.args.context.types.now in
    let g = there types c.args.context.scope in
    let b = begun_by c.args.tokens.now c.requires.ended in
    let other = sym (ap (λ v. is_mark sorts_there.opening (first_sort types v)) b.whole) ∙ c.requires.begun in
    rw (p.1, p.2) (stop_before g (grammar.level 0) grammar.unary (λ e. operand e true) c.args.depth c.args.tokens.now c.args.tokens.now (cast_unary g c.args.tokens.now b.behind b.first b.whole other) c.in_err-part.field-0.0 (MatchResult-at_err _ _ _ (c.branch-part.ensures ∙ ap (λ r. result_from_control_flow r) c.in_err-part.is) c.requires.read))

pub returns : goal.returns
returns c =
    let types = c.args.context.types.now in
    let g = there types c.args.context.scope in
    let b = begun_by c.args.tokens.now c.requires.ended in
    let other = sym (ap (λ v. is_mark sorts_there.opening (first_sort types v)) b.whole) ∙ c.requires.begun in
    let part = c.in_ok-part.part in
    let now = c.as_operand.result in
    let h = MatchResult-at_ok _ _ _ (c.branch-part.ensures ∙ ap (λ r. result_from_control_flow r) c.in_ok-part.is) c.requires.read in
    operand_read g c.args.depth part.depth now.depth c.args.tokens.now part.rest.now now.rest.now (operand (tree_of part.tree) true) (operand_seen now.tree) c.as_operand.ensures.tree c.as_operand.ensures.depth c.as_operand.ensures.rest
    (read_before g (grammar.level 0) grammar.unary (λ e. operand e true) c.args.depth part.depth c.args.tokens.now c.args.tokens.now part.rest.now (tree_of part.tree) (cast_unary g c.args.tokens.now b.behind b.first b.whole other) h refl h.fewer)
