use Rattle.std.proofs.Common.{◌≡◌, ◌∷◌, ◌+◌, ◌-◌, refl, ap, ◌∙◌, arith}
use Rattle.std.specs.Result.{result_from_control_flow}
use Rattle.std.proofs.lemmas.Result.{err_from_is_err_and, MatchResult-at_ok, MatchResult-at_err}
use Rattle.sp_parse_trees.specs.Syntax.{expression, unary}
use Rattle.sp_parse_trees.specs.View.{tree_of}
use Rattle.sp_parse_grammar.specs.CTable as grammar
use Rattle.sp_parse_grammar.specs.CTable.{operand}
use Rattle.sp_parse_grammar.specs.Table.{done}
use Rattle.sp_parse_tokens.specs.Sorts.{terminal}
use Rattle.sp_parse_tokens.specs.SyntaxTrees.{syntax_trees}
use Rattle.sp_parse_tokens.specs.Scopes.{there}
use Rattle.sp_parse_expr_steps.proofs.Steps.{got, finished}
use Rattle.sp_parse_expr_steps.proofs.Parts.{stop_part}
use Rattle.sp_parse_expr_steps.proofs.ExpressionSteps.{built}
use Rattle.sp_parse_expr_steps.proofs.Parentheses.{prefix_on, deep_some}
use Rattle.sp_parse_expr_ends.proofs.expressions.prefixed.Goals as goal

pub returns-in_err-operand : goal.returns-in_err-operand
returns-in_err-operand c =
    let p = err_from_is_err_and c.from_residual.result c.from_residual.ensures.1 in
    let types = c.args.context.types.now in
    let g = there types c.args.context.scope in
    let x = c.args.operator in
    let xs = c.args.tokens.now in
    let on = prefix_on g (x ∷ xs) xs x refl c.requires.operator c.requires.no_sizeof c.requires.no_step in
    rw (p.1, p.2) (stop_part g g g grammar.unary grammar.unary (grammar.level 0) (λ a. a) (λ o. done (syntax_trees.prefix (terminal x) o.tree)) c.args.depth (c.args.depth - 1) (x ∷ xs) xs on (omega arith) c.in_err-operand.field-0.0 (MatchResult-at_err _ _ _ (c.branch-operand.ensures ∙ ap (λ r. result_from_control_flow r) c.in_err-operand.is) c.requires.read))

pub returns : goal.returns
returns c =
    let types = c.args.context.types.now in
    let g = there types c.args.context.scope in
    let x = c.args.operator in
    let xs = c.args.tokens.now in
    let on = prefix_on g (x ∷ xs) xs x refl c.requires.operator c.requires.no_sizeof c.requires.no_step in
    let h = MatchResult-at_ok _ _ _ (c.branch-operand.ensures ∙ ap (λ r. result_from_control_flow r) c.in_ok-operand.is) c.requires.read in
    let e = tree_of c.in_ok-operand.operand.tree.tree in
    let made = syntax_trees.prefix (terminal x) e in
    let same : tree_of c.in_ok-tree.tree ≡ made = c.in_ok-tree.ensures ∙ ap (λ o. expression (unary o e) x.place x.place) c.punct_of-punct.ensures in
    built g grammar.unary c.args.depth (1 + c.in_ok-operand.operand.depth) (x ∷ xs) c.in_ok-operand.operand.rest.now made (tree_of c.in_ok-tree.tree) (finished (got on h.reads)) same (ap (λ n. 1 + n) h.deep) (omega (arith, h.shallow, h.deep, deep_some e)) h.ended (omega (arith, h.fewer))
