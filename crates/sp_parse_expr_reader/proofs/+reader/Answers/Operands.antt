-- The goals of the readers of unary and primary expressions, suffixes and arguments.
use Rattle.std.proofs.Common.{refl, sym, ap, ◌∙◌, subst, arith}
use Rattle.std.specs.Prelude.{◌||◌}
use Rattle.std.proofs.lemmas.Result.{err_from_is_err_and}
use Rattle.sp_parse_trees.specs.View.{tree_of}
use Rattle.sp_parse_grammar.specs.CTokens.{is_mark, is_specifier, view}
use Rattle.sp_parse_grammar.specs.CTokens as sorts_there
use Rattle.sp_parse_grammar.specs.CTable as grammar
use Rattle.sp_parse_grammar.specs.CTable.{get}
use Rattle.sp_parse_grammar.specs.Table.{done}
use Rattle.sp_parse_tokens.specs.Sorts.{terminal, sort_of}
use Rattle.sp_parse_tokens.specs.Scopes.{there}
use Rattle.sp_parse_expr_steps.specs.Reading.{is_suffix, is_prefix, Answers, first_sort}
use Rattle.sp_parse_expr_steps.proofs.Steps.{got, last}
use Rattle.sp_parse_expr_steps.proofs.Parts.{stop_part}
use Rattle.sp_parse_expr_steps.proofs.Marks.{opening_is}
use Rattle.sp_parse_expr_steps.proofs.Prefixes.{sizeof_is}
use Rattle.sp_parse_expr_steps.proofs.Unaries.{unary_sizeof}
use Rattle.sp_parse_expr_steps.proofs.Suffixes.{suffixes_end, suffix_deep}
use Rattle.sp_parse_expr_steps.proofs.Parentheses.{primary_on, nested_deep, unary_grouped}
use Rattle.sp_parse_expr_steps.proofs.Faulting.{result_before}
use Rattle.sp_parse_expr_reader.proofs.+reader.Goals as goal
use Rattle.sp_parse_tokens.specs.Ended.{IsEnded}
use Rattle.sp_parse_expr_ends.proofs.Firsts.{opened}

pub expressions::read_suffixes-returns-then-part-depth : goal.expressions::read_suffixes-returns-then-part-depth
expressions::read_suffixes-returns-then-part-depth t c =
    let g = there c.args.context.types.now c.args.context.scope in
    let i = c.suffixes.invariant in
    let stands = sym (c.is_suffix.ensures ∙ ap (λ s. is_suffix s) c.sort_at.ensures) ∙ c.if-not-is_suffix.false in
    (suffix_deep g (tree_of c.args.inner) (tree_of c.suffixes.part.tree) c.args.tokens.now c.suffixes.part.rest.now c.next_token.result.1.now c.next_token.result.0 i.step c.next_token.ensures c.args.depth c.suffixes.part.depth stands i.deep c.if-part-depth.true, i.ended)

pub expressions::read_suffixes-returns : goal.expressions::read_suffixes-returns
expressions::read_suffixes-returns t c =
    let g = there c.args.context.types.now c.args.context.scope in
    let i = c.suffixes.invariant in
    let other = sym (c.is_suffix.ensures ∙ ap (λ s. is_suffix s) c.sort_at.ensures) ∙ c.if-not-is_suffix.true in
    suffixes_end g (tree_of c.args.inner) (tree_of c.suffixes.part.tree) c.args.tokens.now c.suffixes.part.rest.now c.next_token.result.1.now c.next_token.result.0 i.step c.next_token.ensures c.args.depth c.suffixes.part.depth other i.deep i.shallow i.ended i.fewer

pub expressions::read_suffix-returns : goal.expressions::read_suffix-returns
expressions::read_suffix-returns t c =
    c.read_member_or_step.ensures c.args.depth c.requires.shallow

pub expressions::read_unary-returns-then-begins_nested : goal.expressions::read_unary-returns-then-begins_nested
expressions::read_unary-returns-then-begins_nested t c =
    let g = there c.args.context.types.now c.args.context.scope in
    let x = c.next_token.result.0 in
    let stands = sym (c.begins_nested.ensures ∙ ap (λ v. is_prefix v || is_mark sorts_there.opening v) c.sort_at-sort.ensures) ∙ c.if-begins_nested.true in
    (nested_deep g c.args.depth c.args.tokens.now c.next_token.result.1.now x c.next_token.ensures (omega arith) stands, c.requires)

pub expressions::read_unary-returns-then-is_mark : goal.expressions::read_unary-returns-then-is_mark
expressions::read_unary-returns-then-is_mark t c =
    let types = c.args.context.types.now in
    let x = c.next_token.result.0 in
    let is = opening_is (view types (sort_of x.kind)) (sym (c.is_mark.ensures ∙ ap (λ v. is_mark sorts_there.opening v) c.sort_at-sort.ensures) ∙ c.if-is_mark.true) in
    unary_grouped types c.args.context.scope c.args.depth c.args.tokens.now c.next_token.result.1.now x c.next_token.ensures (sym is) c.read_grouped.result c.read_grouped.ensures

pub expressions::read_unary-returns-then-is_mark-2 : goal.expressions::read_unary-returns-then-is_mark-2
expressions::read_unary-returns-then-is_mark-2 t c =
    let types = c.args.context.types.now in
    let x = c.next_token.result.0 in
    let is = sizeof_is (view types (sort_of x.kind)) (sym (c.is_mark-2.ensures ∙ ap (λ v. is_mark sorts_there.sizeof v) c.sort_at-sort.ensures) ∙ c.if-is_mark-2.true) in
    unary_sizeof types c.args.context.scope c.args.depth c.args.tokens.now c.next_token.result.1.now x c.next_token.ensures (sym is) c.read_after_sizeof.result c.read_after_sizeof.ensures

pub expressions::read_unary-returns-in_err-part : goal.expressions::read_unary-returns-in_err-part
expressions::read_unary-returns-in_err-part t c =
    let p = err_from_is_err_and c.from_residual.result c.from_residual.ensures.1 in
    let g = there c.args.context.types.now c.args.context.scope in
    let x = c.next_token.result.0 in
    let other = sym (c.is_prefix.ensures ∙ ap (λ v. is_prefix v) c.sort_at-sort.ensures) ∙ c.if-is_prefix.false in
    rw (p.1, p.2) (stop_part g g g grammar.unary grammar.unary grammar.primary (λ a. a) (λ v. get g (grammar.suffixes v) (λ f. done f)) c.args.depth c.args.depth c.args.tokens.now c.args.tokens.now (primary_on g c.args.tokens.now c.next_token.result.1.now x c.next_token.ensures other) (omega arith) c.in_err-part.field-0.0 c.in_err-part.ensures)

pub expressions::read_unary-returns : goal.expressions::read_unary-returns
expressions::read_unary-returns t c =
    let g = there c.args.context.types.now c.args.context.scope in
    let x = c.next_token.result.0 in
    let h = c.in_ok-part.ensures in
    let e = tree_of c.in_ok-part.part.tree in
    let other = sym (c.is_prefix.ensures ∙ ap (λ v. is_prefix v) c.sort_at-sort.ensures) ∙ c.if-is_prefix.false in
    let on = primary_on g c.args.tokens.now c.next_token.result.1.now x c.next_token.ensures other in
    result_before g grammar.unary (grammar.suffixes e) (λ v. v) (λ v. tree_of v) c.args.depth c.args.tokens.now c.in_ok-part.part.rest.now (last (got on h.reads)) (λ a. refl) (omega (arith, h.fewer)) c.read_suffixes.result c.read_suffixes.ensures

pub expressions::read_suffix-indexed-requires : goal.expressions::read_suffix-indexed-requires
expressions::read_suffix-indexed-requires t c =
    record {
      opening = sym (c.is_mark.ensures ∙ ap (λ s. is_mark sorts_there.bracket s) c.sort_at-sort.ensures) ∙ c.if-is_mark.true;
      deep = c.requires.deep;
      shallow = c.requires.shallow;
      read = c.read_level-index.ensures;
    }

pub expressions::read_suffix-called-requires : goal.expressions::read_suffix-called-requires
expressions::read_suffix-called-requires t c =
    record {
      opening = sym (c.is_mark-2.ensures ∙ ap (λ s. is_mark sorts_there.opening s) c.sort_at-sort.ensures) ∙ c.if-is_mark-2.true;
      deep = c.requires.deep;
      shallow = c.requires.shallow;
      read = c.read_arguments-arguments.ensures;
    }

pub expressions::read_unary-prefixed_unary-requires : goal.expressions::read_unary-prefixed_unary-requires
expressions::read_unary-prefixed_unary-requires t c =
    record {
      operator = sym (c.is_mark-3.ensures ∙ ap (λ v. is_mark sorts_there.step v) c.sort_at-sort.ensures) ∙ c.if-is_mark-3.true;
      read = c.read_unary-operand.ensures;
    }

pub expressions::read_unary-returns-then-is_mark-3 : goal.expressions::read_unary-returns-then-is_mark-3
expressions::read_unary-returns-then-is_mark-3 t c =
    let types = c.args.context.types.now in
    let g = there types c.args.context.scope in
    subst (λ v. Answers g grammar.unary c.args.depth v tree_of c.prefixed_unary.result) (sym c.next_token.ensures) c.prefixed_unary.ensures

pub expressions::read_unary-prefixed-requires : goal.expressions::read_unary-prefixed-requires
expressions::read_unary-prefixed-requires t c =
    record {
      operator = sym (c.is_prefix.ensures ∙ ap (λ v. is_prefix v) c.sort_at-sort.ensures) ∙ c.if-is_prefix.true;
      no_sizeof = sym (c.is_mark-2.ensures ∙ ap (λ v. is_mark sorts_there.sizeof v) c.sort_at-sort.ensures) ∙ c.if-is_mark-2.false;
      no_step = sym (c.is_mark-3.ensures ∙ ap (λ v. is_mark sorts_there.step v) c.sort_at-sort.ensures) ∙ c.if-is_mark-3.false;
      read = c.read_cast-operand.ensures;
    }

pub expressions::read_unary-returns-then-is_prefix : goal.expressions::read_unary-returns-then-is_prefix
expressions::read_unary-returns-then-is_prefix t c =
    let types = c.args.context.types.now in
    let g = there types c.args.context.scope in
    subst (λ v. Answers g grammar.unary c.args.depth v tree_of c.prefixed.result) (sym c.next_token.ensures) c.prefixed.ensures

pub expressions::read_after_sizeof-measured-requires : goal.expressions::read_after_sizeof-measured-requires
expressions::read_after_sizeof-measured-requires t c =
    let types = c.args.context.types.now in
    record {
      ended = c.requires.ended;
      room = omega (arith, c.requires.room);
      begun = ap (λ v. is_mark sorts_there.opening (first_sort types v)) c.next_token.ensures ∙ (sym (c.is_mark.ensures ∙ ap (λ s. is_mark sorts_there.opening s) c.sort_at.ensures) ∙ c.if-not-is_mark.true);
      read = c.read_unary-operand.ensures;
    }

pub expressions::read_after_sizeof-measured_group-requires : goal.expressions::read_after_sizeof-measured_group-requires
expressions::read_after_sizeof-measured_group-requires t c =
    let types = c.args.context.types.now in
    let opening = sym (c.is_mark.ensures ∙ ap (λ s. is_mark sorts_there.opening s) c.sort_at.ensures) ∙ c.if-not-is_mark.false in
    let inside = opened types c.next_token.result.0 c.next_token.result.1.now opening (subst IsEnded c.next_token.ensures c.requires.ended) in
    record {
      ended = inside;
      room = c.requires.room;
      opening = opening;
      begun = ap (λ v. is_specifier (first_sort types v)) c.next_token-2.ensures ∙ (sym (c.is_specifier.ensures ∙ ap (λ s. is_specifier s) c.sort_at-2.ensures) ∙ c.if-not-is_specifier.true);
      read = c.read_grouped-operand.ensures;
    }

pub expressions::read_after_sizeof-returns-then-not-is_specifier : goal.expressions::read_after_sizeof-returns-then-not-is_specifier
expressions::read_after_sizeof-returns-then-not-is_specifier t c =
    let types = c.args.context.types.now in
    let g = there types c.args.context.scope in
    let y = terminal c.args.word in
    subst (λ v. Answers g (grammar.behind_sizeof y) c.args.depth v tree_of c.measured_group.result) (sym c.next_token.ensures) c.measured_group.ensures

pub expressions::read_after_sizeof-measured_type-requires : goal.expressions::read_after_sizeof-measured_type-requires
expressions::read_after_sizeof-measured_type-requires t c =
    let types = c.args.context.types.now in
    let opening = sym (c.is_mark.ensures ∙ ap (λ s. is_mark sorts_there.opening s) c.sort_at.ensures) ∙ c.if-not-is_mark.false in
    let inside = opened types c.next_token.result.0 c.next_token.result.1.now opening (subst IsEnded c.next_token.ensures c.requires.ended) in
    record {
      ended = inside;
      room = c.requires.room;
      opening = opening;
      begun = ap (λ v. is_specifier (first_sort types v)) c.next_token-2.ensures ∙ (sym (c.is_specifier.ensures ∙ ap (λ s. is_specifier s) c.sort_at-2.ensures) ∙ c.if-not-is_specifier.false);
      read = c.read_type_name-name.ensures;
    }

pub expressions::read_after_sizeof-returns : goal.expressions::read_after_sizeof-returns
expressions::read_after_sizeof-returns t c =
    let types = c.args.context.types.now in
    let g = there types c.args.context.scope in
    let y = terminal c.args.word in
    subst (λ v. Answers g (grammar.behind_sizeof y) c.args.depth v tree_of c.measured_type.result) (sym c.next_token.ensures) c.measured_type.ensures
