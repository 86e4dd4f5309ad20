use Rattle.std.proofs.Common.{◌≡◌, ◌∷◌, false, ◌+◌, ◌-◌, length, refl, ap, ◌∙◌, arith}
use Rattle.std.proofs.lemmas.Result.{err_from_is_err_and, MatchResult-at_ok, MatchResult-at_err}
use Rattle.sp_parse_trees.specs.View.{tree_of}
use Rattle.sp_parse_trees.specs.Depth.{depth as depth_of}
use Rattle.sp_parse_grammar.specs.CTokens as sorts_there
use Rattle.sp_parse_grammar.specs.CTable as grammar
use Rattle.sp_parse_grammar.specs.CTable.{get, operand}
use Rattle.sp_parse_tokens.specs.Sorts.{terminal, c_tokens}
use Rattle.sp_parse_tokens.specs.SyntaxTrees.{syntax_trees}
use Rattle.sp_parse_tokens.specs.declared.scope.AlsoAllowed.TheVariants as also
use Rattle.sp_parse_tokens.specs.Scopes.{there}
use Rattle.sp_parse_expr_steps.specs.Reading.{operand_seen}
use Rattle.sp_parse_expr_steps.proofs.Steps.{begun, got, finished}
use Rattle.sp_parse_expr_steps.proofs.Parts.{stop_part, on_mark}
use Rattle.sp_parse_expr_steps.proofs.ExpressionSteps.{built}
use Rattle.sp_parse_expr_steps.proofs.Operators.{after_on, choice_body, choice_plan, choice_done}
use Rattle.sp_parse_expr_ends.proofs.expressions.chosen.Goals as goal

pub returns-in_err-second : goal.returns-in_err-second
returns-in_err-second c =
    let p = err_from_is_err_and c.from_residual.result c.from_residual.ensures.1 in
    let types = c.args.context.types.now in
    let g = there types c.args.context.scope in
    let l = operand_seen c.args.left in
    let x = c.args.operator in
    let xs = c.args.tokens.now in
    let on = after_on g 11 l l (x ∷ xs) (x ∷ xs) xs x (begun (grammar.at g (grammar.after 11 l)) (c_tokens (x ∷ xs))) refl (choice_body g l (terminal x)) c.requires.operator (choice_plan g l x c.requires.operator) in
    let f = c.requires.first in
    let a = operand_seen c.args.first.tree in
    let behind = on_mark types c.args.context.scope g (grammar.after 11 l) (grammar.after 11 l) (λ o. o) sorts_there.colon also.Nothing (λ z. get g (grammar.level 11) (choice_done g l (terminal x) a)) g (x ∷ xs) f.mid c.args.first.rest.now (got on f.read.reads) f.closes in
    rw (p.1, p.2) (stop_part g g g (grammar.after 11 l) (grammar.after 11 l) (grammar.level 11) (λ o. o) (choice_done g l (terminal x) a) c.args.depth (c.args.depth - 1) (x ∷ xs) c.args.first.rest.now behind (omega arith) c.in_err-second.field-0.0 (MatchResult-at_err _ _ _ c.in_err-second.ensures c.requires.read))

pub returns : goal.returns
returns c =
    let types = c.args.context.types.now in
    let g = there types c.args.context.scope in
    let l = operand_seen c.args.left in
    let x = c.args.operator in
    let xs = c.args.tokens.now in
    let on = after_on g 11 l l (x ∷ xs) (x ∷ xs) xs x (begun (grammar.at g (grammar.after 11 l)) (c_tokens (x ∷ xs))) refl (choice_body g l (terminal x)) c.requires.operator (choice_plan g l x c.requires.operator) in
    let f = c.requires.first in
    let h = f.read in
    let w = MatchResult-at_ok _ _ _ c.in_ok-second.ensures.0 c.requires.read in
    let a = operand_seen c.args.first.tree in
    let b = operand_seen c.in_ok-second.second.tree in
    let made = syntax_trees.choice (terminal x) l.tree a.tree b.tree in
    let behind = on_mark types c.args.context.scope g (grammar.after 11 l) (grammar.after 11 l) (λ o. o) sorts_there.colon also.Nothing (λ z. get g (grammar.level 11) (choice_done g l (terminal x) a)) g (x ∷ xs) f.mid c.args.first.rest.now (got on h.reads) f.closes in
    let same : tree_of c.in_ok-tree.tree ≡ made = c.in_ok-tree.ensures ∙ ap (λ v. syntax_trees.choice (terminal x) (tree_of v.0) (tree_of v.1) b.tree) c.in_ok-second.ensures.1 in
    let less : length f.mid ≡ length (f.closes.first ∷ c.args.first.rest.now) = ap length f.closes.whole in
    let deep : 1 + c.max-2.result ≡ depth_of made = omega (arith, c.max-2.ensures, c.max.ensures, c.requires.deep, h.deep, w.deep) in
    built g (grammar.after 11 l) c.args.depth (1 + c.max-2.result) (x ∷ xs) c.in_ok-second.second.rest.now (operand made false) (operand (tree_of c.in_ok-tree.tree) false) (finished (got behind w.reads)) (ap (λ v. operand v false) same) deep (omega (arith, h.shallow, w.shallow, c.max.ensures, c.max-2.ensures, c.requires.shallow)) w.ended (omega (arith, h.fewer, w.fewer, less))
