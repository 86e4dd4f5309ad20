use Rattle.std.proofs.Common.{◌≡◌, ◌∷◌, false, ◌+◌, ◌-◌, refl, ap, ◌∙◌, arith}
use Rattle.std.proofs.lemmas.Result.{err_from_is_err_and, MatchResult-at_ok, MatchResult-at_err}
use Rattle.sp_parse_trees.specs.Syntax.{expression, assign}
use Rattle.sp_parse_trees.specs.View.{tree_of}
use Rattle.sp_parse_trees.specs.Places.{place_of}
use Rattle.sp_parse_trees.specs.Depth.{depth as depth_of}
use Rattle.sp_parse_grammar.specs.CTable as grammar
use Rattle.sp_parse_grammar.specs.CTable.{operand}
use Rattle.sp_parse_grammar.specs.Table.{done}
use Rattle.sp_parse_tokens.specs.Sorts.{terminal, c_tokens}
use Rattle.sp_parse_tokens.specs.SyntaxTrees.{syntax_trees}
use Rattle.sp_parse_tokens.specs.Scopes.{there}
use Rattle.sp_parse_expr_steps.specs.Reading.{operand_seen}
use Rattle.sp_parse_expr_steps.proofs.Steps.{begun, got, finished}
use Rattle.sp_parse_expr_steps.proofs.Parts.{stop_part}
use Rattle.sp_parse_expr_steps.proofs.ExpressionSteps.{built}
use Rattle.sp_parse_expr_steps.proofs.Operators.{after_on, assign_body, assign_plan}
use Rattle.sp_parse_expr_ends.proofs.expressions.assigned.Goals as goal

pub returns-in_err-value : goal.returns-in_err-value
returns-in_err-value c =
    let p = err_from_is_err_and c.from_residual.result c.from_residual.ensures.1 in
    let types = c.args.context.types.now in
    let g = there types c.args.context.scope in
    let l = operand_seen c.args.left in
    let x = c.args.operator in
    let xs = c.args.tokens.now in
    let on = after_on g 12 l l (x ∷ xs) (x ∷ xs) xs x (begun (grammar.at g (grammar.after 12 l)) (c_tokens (x ∷ xs))) refl (assign_body g l (terminal x)) c.requires.operator (assign_plan g l x c.requires.operator) in
    rw (p.1, p.2) (stop_part g g g (grammar.after 12 l) (grammar.after 12 l) (grammar.level 12) (λ o. o) (λ r. done (operand (syntax_trees.assign (terminal x) l.tree r.tree) false)) c.args.depth (c.args.depth - 1) (x ∷ xs) xs on (omega arith) c.in_err-value.field-0.0 (MatchResult-at_err _ _ _ c.in_err-value.ensures c.requires.read))

pub returns : goal.returns
returns c =
    let types = c.args.context.types.now in
    let g = there types c.args.context.scope in
    let l = operand_seen c.args.left in
    let x = c.args.operator in
    let xs = c.args.tokens.now in
    let on = after_on g 12 l l (x ∷ xs) (x ∷ xs) xs x (begun (grammar.at g (grammar.after 12 l)) (c_tokens (x ∷ xs))) refl (assign_body g l (terminal x)) c.requires.operator (assign_plan g l x c.requires.operator) in
    let h = MatchResult-at_ok _ _ _ c.in_ok-value.ensures.0 c.requires.read in
    let r = operand_seen c.in_ok-value.value.tree in
    let made = syntax_trees.assign (terminal x) l.tree r.tree in
    let same : tree_of c.in_ok-tree.tree ≡ made = c.in_ok-tree.ensures ∙ ap (λ v. expression (assign c.punct_of-punct.result (tree_of v) r.tree) (place_of (tree_of v)) x.place) c.in_ok-value.ensures.1 ∙ ap (λ o. expression (assign o l.tree r.tree) (place_of l.tree) x.place) c.punct_of-punct.ensures in
    let deep : 1 + c.max.result ≡ depth_of made = omega (arith, c.max.ensures, c.requires.deep, h.deep) in
    built g (grammar.after 12 l) c.args.depth (1 + c.max.result) (x ∷ xs) c.in_ok-value.value.rest.now (operand made false) (operand (tree_of c.in_ok-tree.tree) false) (finished (got on h.reads)) (ap (λ v. operand v false) same) deep (omega (arith, h.shallow, c.max.ensures, c.requires.shallow)) h.ended (omega (arith, h.fewer))
