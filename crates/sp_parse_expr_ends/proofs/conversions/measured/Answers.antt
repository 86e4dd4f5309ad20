use Rattle.std.proofs.Common.{◌+◌, ◌-◌, sym, ap, ◌∙◌, arith}
use Rattle.std.specs.Result.{result_from_control_flow}
use Rattle.std.proofs.lemmas.Result.{err_from_is_err_and, MatchResult-at_ok, MatchResult-at_err}
use Rattle.sp_parse_trees.specs.View.{tree_of}
use Rattle.sp_parse_grammar.specs.CTokens.{is_mark}
use Rattle.sp_parse_grammar.specs.CTokens as sorts_there
use Rattle.sp_parse_grammar.specs.CTable as grammar
use Rattle.sp_parse_grammar.specs.CTable.{operand}
use Rattle.sp_parse_grammar.specs.Table.{done}
use Rattle.sp_parse_tokens.specs.Sorts.{terminal}
use Rattle.sp_parse_tokens.specs.SyntaxTrees.{syntax_trees}
use Rattle.sp_parse_tokens.specs.Scopes.{there}
use Rattle.sp_parse_expr_steps.proofs.Steps.{got, finished}
use Rattle.sp_parse_expr_steps.proofs.Parts.{stop_part}
use Rattle.sp_parse_expr_steps.proofs.ExpressionSteps.{built}
use Rattle.sp_parse_expr_steps.proofs.Parentheses.{sizeof_unary_on}
use Rattle.sp_parse_expr_steps.specs.Reading.{first_sort}
use Rattle.sp_parse_expr_ends.proofs.Firsts.{begun_by}
use Rattle.sp_parse_expr_ends.proofs.conversions.measured.Goals as goal

pub returns-in_err-operand : goal.returns-in_err-operand
returns-in_err-operand c =
    let p = err_from_is_err_and c.from_residual.result c.from_residual.ensures.1 in
    let types = c.args.context.types.now in
    let g = there types c.args.context.scope in
    let b = begun_by c.args.tokens.now c.requires.ended in
    let other = sym (ap (λ v. is_mark sorts_there.opening (first_sort types v)) b.whole) ∙ c.requires.begun in
    let y = terminal c.args.word in
    let on = sizeof_unary_on g y c.args.tokens.now b.behind b.first b.whole other in
    rw (p.1, p.2) (stop_part g g g (grammar.behind_sizeof y) (grammar.behind_sizeof y) grammar.unary (λ o. o) (λ v. done (syntax_trees.sizeof_expr y v)) c.args.depth (c.args.depth - 1) c.args.tokens.now c.args.tokens.now on (omega arith) c.in_err-operand.field-0.0 (MatchResult-at_err _ _ _ (c.branch-operand.ensures ∙ ap (λ r. result_from_control_flow r) c.in_err-operand.is) c.requires.read))

pub returns : goal.returns
returns c =
    let types = c.args.context.types.now in
    let g = there types c.args.context.scope in
    let b = begun_by c.args.tokens.now c.requires.ended in
    let other = sym (ap (λ v. is_mark sorts_there.opening (first_sort types v)) b.whole) ∙ c.requires.begun in
    let y = terminal c.args.word in
    let on = sizeof_unary_on g y c.args.tokens.now b.behind b.first b.whole other in
    let h = (MatchResult-at_ok _ _ _ (c.branch-operand.ensures ∙ ap (λ r. result_from_control_flow r) c.in_ok-operand.is) c.requires.read) in
    let e = tree_of c.in_ok-operand.operand.tree in
    built g (grammar.behind_sizeof y) c.args.depth (1 + c.in_ok-operand.operand.depth) c.args.tokens.now c.in_ok-operand.operand.rest.now (syntax_trees.sizeof_expr y e) (tree_of c.in_ok-tree.tree) (finished (got on h.reads)) c.in_ok-tree.ensures (ap (λ n. 1 + n) h.deep) (omega (arith, h.shallow, c.requires.room)) h.ended h.fewer
