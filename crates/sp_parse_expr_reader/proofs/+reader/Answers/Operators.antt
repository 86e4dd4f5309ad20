-- The goals of the readers of levels of expressions: operators, casts and groups.
use Rattle.std.proofs.Common.{◌≡◌, ◌∷◌, false, ◌-◌, length, refl, sym, ap, ◌∙◌, subst, arith, rules}
use Rattle.std.proofs.lemmas.Result.{err_from_is_err_and, MatchResult-at_ok, MatchResult-at_err}
use Rattle.sp_parse_trees.specs.View.{tree_of}
use Rattle.sp_parse_grammar.specs.CTokens.{is_mark, is_specifier, view}
use Rattle.sp_parse_grammar.specs.CTokens as sorts_there
use Rattle.sp_parse_grammar.specs.CTable as grammar
use Rattle.sp_parse_grammar.specs.CTable.{stands_behind, get, operand}
use Rattle.sp_parse_grammar.specs.Table.{done}
use Rattle.sp_parse_tokens.specs.Sorts.{terminal, sort_of, c_tokens}
use Rattle.sp_parse_tokens.specs.SyntaxTrees.{syntax_trees}
use Rattle.sp_parse_tokens.specs.Scopes.{there}
use Rattle.sp_parse_expr_steps.specs.Reading.{IsStep, joined_tree, operand_seen, Answers, IsStop, first_sort}
use Rattle.sp_parse_expr_steps.proofs.Steps.{begun, got, last}
use Rattle.sp_parse_expr_steps.proofs.Parts.{stop_part}
use Rattle.sp_parse_expr_steps.proofs.Marks.{opening_is}
use Rattle.sp_parse_expr_steps.proofs.ExpressionSteps.{first_deep, level_stop}
use Rattle.sp_parse_expr_steps.proofs.LevelSteps.{level_reached, level_stopped}
use Rattle.sp_parse_expr_steps.proofs.Operators.{after_ends, after_deep, after_on, joined_body, joined_plan, joined_depth, binary_deep}
use Rattle.sp_parse_expr_steps.proofs.Parentheses.{grouped_result}
use Rattle.sp_parse_expr_reader.proofs.+reader.Goals as goal
use Rattle.sp_parse_tokens.specs.Ended.{IsEnded}
use Rattle.sp_parse_expr_ends.proofs.Firsts.{opened}

pub expressions::read_level-returns-in_err-part : goal.expressions::read_level-returns-in_err-part
expressions::read_level-returns-in_err-part t c =
    let p = err_from_is_err_and c.from_residual.result c.from_residual.ensures.1 in
    let g = there c.args.context.types.now c.args.context.scope in
    rw (p.1, p.2) (level_stop g 0 c.args.level c.args.depth c.args.tokens.now c.in_err-part.field-0.0 c.requires.ended (omega arith) c.in_err-part.ensures)

pub expressions::read_level-returns-in_err-part-2 : goal.expressions::read_level-returns-in_err-part-2
expressions::read_level-returns-in_err-part-2 t c =
    let p = err_from_is_err_and c.from_residual-in_err-part-2.result c.from_residual-in_err-part-2.ensures.1 in
    let g = there c.args.context.types.now c.args.context.scope in
    let i = c.levels.invariant in
    let next = c.next_level-reached in
    let at_next = level_stopped g (operand_seen c.levels.part.tree) c.args.tokens.now c.levels.part.rest.now c.levels.reached next.result c.args.depth c.levels.part.depth c.requires.ended next.ensures.looser next.ensures.between i.part c.in_err-part-2.field-0.0 c.in_err-part-2.ensures in
    rw (p.1, p.2) (level_stop g next.result c.args.level c.args.depth c.args.tokens.now c.in_err-part-2.field-0.0 c.requires.ended next.ensures.within at_next)

pub expressions::read_level-levels-preserved : goal.expressions::read_level-levels-preserved
expressions::read_level-levels-preserved t c =
    let g = there c.args.context.types.now c.args.context.scope in
    let i = c.levels.invariant in
    let next = c.next_level-reached in
    record {
      part = level_reached g (operand_seen c.levels.part.tree) c.args.tokens.now c.levels.part.rest.now c.levels.reached next.result c.args.depth c.levels.part.depth c.requires.ended next.ensures.looser next.ensures.between i.part c.in_ok-part-2.part.depth c.in_ok-part-2.part.rest.now (operand_seen c.in_ok-part-2.part.tree) c.in_ok-part-2.ensures;
      below = next.ensures.within;
      same_level = refl;
      same_depth = refl;
      same_types = refl;
      same_scope = refl;
    }

pub expressions::read_operators-returns-then-reached-depth : goal.expressions::read_operators-returns-then-reached-depth
expressions::read_operators-returns-then-reached-depth t c =
    let g = there c.args.context.types.now c.args.context.scope in
    let i = c.operators.invariant in
    let x = c.next_token.result.0 in
    let now : grammar.Operand syntax_trees = record { tree = tree_of c.operators.tree; unary = c.operators.unary } in
    let stands = sym (c.continues_level.ensures ∙ ap (λ s. stands_behind c.args.level c.operators.unary s) c.sort_at.ensures) ∙ c.if-not-continues_level.false in
    (after_deep g c.args.level (operand_seen c.args.left) now c.args.tokens.now c.operators.rest.now c.next_token.result.1.now x i.step c.next_token.ensures c.args.depth c.operators.reached stands i.deep c.if-reached-depth.true, i.ended)

pub expressions::read_operators-returns-in_err-right : goal.expressions::read_operators-returns-in_err-right
expressions::read_operators-returns-in_err-right t c =
    let p = err_from_is_err_and c.from_residual.result c.from_residual.ensures.1 in
    let g = there c.args.context.types.now c.args.context.scope in
    let i = c.operators.invariant in
    let x = c.next_token.result.0 in
    let xs = c.next_token.result.1.now in
    let k = c.args.level in
    let now : grammar.Operand syntax_trees = record { tree = tree_of c.operators.tree; unary = c.operators.unary } in
    let stands = sym (c.continues_level.ensures ∙ ap (λ s. stands_behind k c.operators.unary s) c.sort_at.ensures) ∙ c.if-not-continues_level.false in
    let on = after_on g k (operand_seen c.args.left) now c.args.tokens.now c.operators.rest.now xs x i.step c.next_token.ensures (joined_body g k now (terminal x)) stands (joined_plan g k now x c.requires.tightest c.requires.loosest i.not_assigning i.not_choosing stands) in
    rw (p.1, p.2) (stop_part g g g (grammar.after k (operand_seen c.args.left)) (grammar.after k now) (grammar.level (k - 1)) (λ o. o) (λ r. get g (grammar.after k (operand (joined_tree k (terminal x) now.tree r.tree) false)) (λ o. done o)) c.args.depth (c.args.depth - 1) c.args.tokens.now xs on (omega arith) c.in_err-right.field-0.0 (MatchResult-at_err _ _ _ c.in_err-right.ensures c.read_level-next.ensures))

pub expressions::read_operators-operators-preserved : goal.expressions::read_operators-operators-preserved
expressions::read_operators-operators-preserved t c =
    let g = there c.args.context.types.now c.args.context.scope in
    let i = c.operators.invariant in
    let x = c.next_token.result.0 in
    let xs = c.next_token.result.1.now in
    let k = c.args.level in
    let h = (MatchResult-at_ok _ _ _ c.in_ok-right.ensures.0 c.read_level-next.ensures) in
    let r = operand_seen c.in_ok-right.right.tree in
    let first = operand_seen c.args.left in
    let now : grammar.Operand syntax_trees = record { tree = tree_of c.operators.tree; unary = c.operators.unary } in
    let made = joined_tree k (terminal x) now.tree r.tree in
    let stands = sym (c.continues_level.ensures ∙ ap (λ s. stands_behind k c.operators.unary s) c.sort_at.ensures) ∙ c.if-not-continues_level.false in
    let on = after_on g k first now c.args.tokens.now c.operators.rest.now xs x i.step c.next_token.ensures (joined_body g k now (terminal x)) stands (joined_plan g k now x c.requires.tightest c.requires.loosest i.not_assigning i.not_choosing stands) in
    let same : tree_of c.in_ok-tree.tree ≡ made = c.in_ok-tree.ensures ∙ ap (λ l. joined_tree k (terminal x) (tree_of l) r.tree) c.in_ok-right.ensures.1 in
    let shorter : length c.operators.rest.now ≡ length (x ∷ xs) = ap length c.next_token.ensures in
    record {
      step = subst (λ v. IsStep g (grammar.after k first) (grammar.after k (record { tree = v; unary = false })) (λ a. a) c.args.tokens.now c.in_ok-right.right.rest.now) (sym same) (last (got on h.reads));
      deep = binary_deep now.tree r.tree made (tree_of c.in_ok-tree.tree) c.operators.reached c.in_ok-right.right.depth c.max-reached.result i.deep h.deep c.max-reached.ensures (joined_depth k (terminal x) now.tree r.tree) same;
      shallow = omega (arith, h.shallow, c.max-reached.ensures, c.if-reached-depth.false);
      ended = h.ended;
      fewer = omega (arith, h.fewer, i.fewer, shorter);
      not_assigning = i.not_assigning;
      not_choosing = i.not_choosing;
      same_level = refl;
      same_depth = refl;
      same_types = refl;
      same_scope = refl;
    }

pub expressions::read_operators-returns : goal.expressions::read_operators-returns
expressions::read_operators-returns t c =
    let g = there c.args.context.types.now c.args.context.scope in
    let i = c.operators.invariant in
    let x = c.next_token.result.0 in
    let now : grammar.Operand syntax_trees = record { tree = tree_of c.operators.tree; unary = c.operators.unary } in
    let other = sym (c.continues_level.ensures ∙ ap (λ s. stands_behind c.args.level c.operators.unary s) c.sort_at.ensures) ∙ c.if-not-continues_level.true in
    after_ends g c.args.level (operand_seen c.args.left) now c.args.tokens.now c.operators.rest.now c.next_token.result.1.now x i.step c.next_token.ensures c.args.depth c.operators.reached other i.deep i.shallow i.ended i.fewer

pub expressions::read_cast-returns-then-depth-lt2 : goal.expressions::read_cast-returns-then-depth-lt2
expressions::read_cast-returns-then-depth-lt2 t c =
    let g = there c.args.context.types.now c.args.context.scope in
    let x = c.next_token.result.0 in
    let is = opening_is (view g.types (sort_of x.kind)) (sym (c.is_mark.ensures ∙ ap (λ s. is_mark sorts_there.opening s) c.sort_at.ensures) ∙ c.if-not-is_mark.false) in
    (first_deep g (grammar.level 0) c.args.tokens.now c.next_token.result.1.now x (sorts_there.mark sorts_there.opening) c.next_token.ensures (sym is) c.args.depth _ refl (omega arith), c.requires)

pub expressions::read_cast-unary_operand-requires : goal.expressions::read_cast-unary_operand-requires
expressions::read_cast-unary_operand-requires t c =
    let types = c.args.context.types.now in
    record {
      ended = c.requires;
      begun = ap (λ v. is_mark sorts_there.opening (first_sort types v)) c.next_token.ensures ∙ (sym (c.is_mark.ensures ∙ ap (λ s. is_mark sorts_there.opening s) c.sort_at.ensures) ∙ c.if-not-is_mark.true);
      read = c.read_unary-part.ensures;
    }

pub expressions::read_cast-grouped_operand-requires : goal.expressions::read_cast-grouped_operand-requires
expressions::read_cast-grouped_operand-requires t c =
    let types = c.args.context.types.now in
    let opening = sym (c.is_mark.ensures ∙ ap (λ s. is_mark sorts_there.opening s) c.sort_at.ensures) ∙ c.if-not-is_mark.false in
    let inside = opened types c.next_token.result.0 c.next_token.result.1.now opening (subst IsEnded c.next_token.ensures c.requires) in
    record {
      ended = inside;
      opening = opening;
      begun = ap (λ v. is_specifier (first_sort types v)) c.next_token-2.ensures ∙ (sym (c.is_specifier.ensures ∙ ap (λ s. is_specifier s) c.sort_at-2.ensures) ∙ c.if-not-is_specifier.true);
      read = c.read_grouped-part.ensures;
    }

pub expressions::read_cast-returns-then-not-is_specifier : goal.expressions::read_cast-returns-then-not-is_specifier
expressions::read_cast-returns-then-not-is_specifier t c =
    let types = c.args.context.types.now in
    let g = there types c.args.context.scope in
    subst (λ v. Answers g (grammar.level 0) c.args.depth v operand_seen c.grouped_operand.result) (sym c.next_token.ensures) c.grouped_operand.ensures

pub expressions::read_cast-until_target-requires : goal.expressions::read_cast-until_target-requires
expressions::read_cast-until_target-requires t c =
    let types = c.args.context.types.now in
    let opening = sym (c.is_mark.ensures ∙ ap (λ s. is_mark sorts_there.opening s) c.sort_at.ensures) ∙ c.if-not-is_mark.false in
    let inside = opened types c.next_token.result.0 c.next_token.result.1.now opening (subst IsEnded c.next_token.ensures c.requires) in
    record {
      ended = inside;
      room = omega arith;
      opening = opening;
      begun = ap (λ v. is_specifier (first_sort types v)) c.next_token-2.ensures ∙ (sym (c.is_specifier.ensures ∙ ap (λ s. is_specifier s) c.sort_at-2.ensures) ∙ c.if-not-is_specifier.false);
      read = c.read_type_name-name.ensures;
    }

pub expressions::read_cast-returns-in_err-target : goal.expressions::read_cast-returns-in_err-target
expressions::read_cast-returns-in_err-target t c =
    let p = err_from_is_err_and c.from_residual.result c.from_residual.ensures.1 in
    let types = c.args.context.types.now in
    let g = there types c.args.context.scope in
    rw (p.1, p.2) (subst (λ v. IsStop g (grammar.level 0) c.args.depth v c.in_err-target.field-0.0) (sym c.next_token.ensures) c.in_err-target.ensures)

pub expressions::read_cast-converted-requires : goal.expressions::read_cast-converted-requires
expressions::read_cast-converted-requires t c =
    let types = c.args.context.types.now in
    let opening = sym (c.is_mark.ensures ∙ ap (λ s. is_mark sorts_there.opening s) c.sort_at.ensures) ∙ c.if-not-is_mark.false in
    let inside = opened types c.next_token.result.0 c.next_token.result.1.now opening (subst IsEnded c.next_token.ensures c.requires) in
    record {
      ended = inside;
      room = omega arith;
      opening = opening;
      begun = ap (λ v. is_specifier (first_sort types v)) c.next_token-2.ensures ∙ (sym (c.is_specifier.ensures ∙ ap (λ s. is_specifier s) c.sort_at-2.ensures) ∙ c.if-not-is_specifier.false);
      target = c.in_ok-target.ensures;
      read = c.read_cast-operand.ensures;
    }

pub expressions::read_cast-returns : goal.expressions::read_cast-returns
expressions::read_cast-returns t c =
    let types = c.args.context.types.now in
    let g = there types c.args.context.scope in
    subst (λ v. Answers g (grammar.level 0) c.args.depth v operand_seen c.converted.result) (sym c.next_token.ensures) c.converted.ensures

pub expressions::read_grouped-closed_group-requires : goal.expressions::read_grouped-closed_group-requires
expressions::read_grouped-closed_group-requires t c =
    record {
      room = c.requires.room;
      read = c.read_level-inner.ensures;
    }

pub expressions::read_grouped-returns-in_err-group : goal.expressions::read_grouped-returns-in_err-group
expressions::read_grouped-returns-in_err-group t c =
    let p = err_from_is_err_and c.from_residual.result c.from_residual.ensures.1 in
    rw (p.1, p.2) c.in_err-group.ensures

pub expressions::read_grouped-read_suffixes-requires : goal.expressions::read_grouped-read_suffixes-requires
expressions::read_grouped-read_suffixes-requires t c =
    let w = c.in_ok-group.ensures in
    (first_of (omega (arith, w.fewer), search rules, grind (arith, w.fewer)), (w.ended, (w.deep, w.shallow)))

pub expressions::read_grouped-returns : goal.expressions::read_grouped-returns
expressions::read_grouped-returns t c =
    let w = c.in_ok-group.ensures in
    let group = c.in_ok-group.group in
    grouped_result c.args.context.types.now c.args.context.scope c.args.opening c.args.depth c.args.tokens.now w.mid group.rest.now w.inner (tree_of group.tree) w.one w.closes w.makes (omega (arith, w.fewer)) c.read_suffixes.result c.read_suffixes.ensures

pub expressions::read_right_operand-returns-then-not-continues_level : goal.expressions::read_right_operand-returns-then-not-continues_level
expressions::read_right_operand-returns-then-not-continues_level t c =
    let g = there c.args.context.types.now c.args.context.scope in
    let k = c.args.level in
    let l = operand_seen c.args.left in
    let other = sym (c.continues_level.ensures ∙ ap (λ s. stands_behind k c.args.left.unary s) c.sort_at.ensures) ∙ c.if-not-continues_level.true in
    after_ends g k l l c.args.tokens.now c.args.tokens.now c.next_token.result.1.now c.next_token.result.0 (begun (grammar.at g (grammar.after k l)) (c_tokens c.args.tokens.now)) c.next_token.ensures c.args.depth c.args.inner other c.requires.deep c.requires.shallow c.requires.ended (omega arith)

pub expressions::read_right_operand-returns-then-inner-depth : goal.expressions::read_right_operand-returns-then-inner-depth
expressions::read_right_operand-returns-then-inner-depth t c =
    let g = there c.args.context.types.now c.args.context.scope in
    let k = c.args.level in
    let l = operand_seen c.args.left in
    let stands = sym (c.continues_level.ensures ∙ ap (λ s. stands_behind k c.args.left.unary s) c.sort_at.ensures) ∙ c.if-not-continues_level.false in
    (after_deep g k l l c.args.tokens.now c.args.tokens.now c.next_token.result.1.now c.next_token.result.0 (begun (grammar.at g (grammar.after k l)) (c_tokens c.args.tokens.now)) c.next_token.ensures c.args.depth c.args.inner stands c.requires.deep c.if-inner-depth.true, c.requires.ended)
