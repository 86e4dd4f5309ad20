use Rattle.std.proofs.Common.{◌≡◌, ◌∷◌, ◌+◌, length, sym, ap, ◌∙◌, arith}
use Rattle.std.specs.Result.{result_from_control_flow}
use Rattle.std.proofs.lemmas.Result.{err_from_is_err_and, MatchResult-at_ok, MatchResult-at_err}
use Rattle.sp_parse_trees.specs.View.{tree_of}
use Rattle.sp_parse_trees.specs.Depth.{depth as depth_of}
use Rattle.sp_parse_tokens.specs.Sorts.{terminal}
use Rattle.sp_parse_tokens.specs.SyntaxTrees.{syntax_trees}
use Rattle.sp_parse_expr_steps.specs.Reading.{operand_seen}
use Rattle.sp_parse_expr_steps.proofs.Parentheses.{paren_stop, inner_stop}
use Rattle.sp_parse_expr_ends.proofs.expressions.closed_group.Goals as goal

pub returns-in_err-inner : goal.returns-in_err-inner
returns-in_err-inner c =
    let p = err_from_is_err_and c.from_residual.result c.from_residual.ensures.1 in
    rw (p.1, p.2) (inner_stop c.args.context.types.now c.args.context.scope c.args.opening c.args.depth c.args.tokens.now c.in_err-inner.field-0.0 (MatchResult-at_err _ _ _ (c.branch-inner.ensures ∙ ap (λ r. result_from_control_flow r) c.in_err-inner.is) c.requires.read))

pub returns-in_err-rest : goal.returns-in_err-rest
returns-in_err-rest c =
    let p = err_from_is_err_and c.from_residual-in_err-rest.result c.from_residual-in_err-rest.ensures.1 in
    let h = MatchResult-at_ok _ _ _ (c.branch-inner.ensures ∙ ap (λ r. result_from_control_flow r) c.in_ok-inner.is) c.requires.read in
    rw (p.1, p.2) (paren_stop c.args.context.types.now c.args.context.scope c.args.opening c.args.depth c.args.tokens.now c.in_err-rest.field-0.0 (record {
      inner = operand_seen c.in_ok-inner.inner.tree;
      mid = c.in_ok-inner.inner.rest.now;
      one = h.reads;
      ended = h.ended;
      why = MatchResult-at_err _ _ _ c.in_err-rest.ensures c.expect-next.ensures;
    }))

pub returns : goal.returns
returns c =
    let h = MatchResult-at_ok _ _ _ (c.branch-inner.ensures ∙ ap (λ r. result_from_control_flow r) c.in_ok-inner.is) c.requires.read in
    let inner = c.in_ok-inner.inner in
    let closes = MatchResult-at_ok _ _ _ c.in_ok-rest.ensures.0 c.expect-next.ensures in
    let made = c.in_ok-paren.ensures ∙ ap (λ v. syntax_trees.paren (terminal c.args.opening) (tree_of v)) c.in_ok-rest.ensures.1 in
    let less : length inner.rest.now ≡ length (closes.first ∷ c.in_ok-rest.rest.now) = ap length closes.whole in
    let deep : 1 + inner.depth ≡ depth_of (syntax_trees.paren (terminal c.args.opening) (tree_of inner.tree.tree)) = omega (arith, h.deep) in
    record {
      inner = operand_seen inner.tree;
      mid = inner.rest.now;
      one = h.reads;
      closes = closes;
      makes = made;
      deep = deep ∙ ap depth_of (sym made);
      shallow = omega (arith, h.shallow, c.requires.room);
      ended = closes.ended;
      fewer = omega (arith, h.fewer, less);
    }
