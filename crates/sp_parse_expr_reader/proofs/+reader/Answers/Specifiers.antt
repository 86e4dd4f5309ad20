-- The goals of the readers of specifiers, structures and members.
use Rattle.std.proofs.Common.{◌≡◌, ◌==◌, ◌≤◌, ◌∷◌, ◌++◌, [], length, refl, sym, ap, ◌∙◌, subst, arith}
use Rattle.std.proofs.lemmas.Result.{err_from_is_err_and, MatchResult-at_ok, MatchResult-at_err}
use Rattle.sp_parse_grammar.specs.CTokens.{is_mark, view, add}
use Rattle.sp_parse_grammar.specs.CTokens as sorts_there
use Rattle.sp_parse_tokens.specs.Sorts.{sort_of}
use Rattle.sp_parse_tokens.specs.Scopes.{there}
use Rattle.std.specs.Prelude.{max, ◌&&◌, ◌||◌}
use Rattle.sp_parse_trees.specs.declared.tree.Specifier.{Named}
use Rattle.sp_parse_tokens.specs.Codes.{seen_by}
use Rattle.sp_parse_tokens.specs.Expecting.{IsFaultFor}
use Rattle.sp_parse_expr_steps.proofs.Lists.{SpecifiersSoFar}
use Rattle.sp_parse_expr_steps.proofs.SpecifierSteps.{added, not_added, specifiers_end, specifiers_refused, structure_deep, one_more, specifier_stop, specifiers_more, specifiers_more_deep}
use Rattle.sp_parse_expr_reader.proofs.+reader.Goals as goal

pub specifiers::read_specifiers-returns-then-is_too_deep : goal.specifiers::read_specifiers-returns-then-is_too_deep
specifiers::read_specifiers-returns-then-is_too_deep t c =
    let g = there c.args.context.types.now c.args.context.scope in
    let i = c.specifiers.invariant in
    let x = c.next_token.result.0 in
    let s = view g.types (sort_of x.kind) in
    let more = c.in-Some.more in
    let adds = added c.add_specifier.result more (add c.args.stores g.inside (seen_by c.specifiers.seen.0) s) c.in-Some.is (c.add_specifier.ensures ∙ ap (λ v. add c.args.stores g.inside (seen_by c.specifiers.seen.0) v) c.sort_at-sort.ensures) in
    let deep = sym (c.is_too_deep.ensures ∙ ap (λ v. is_mark sorts_there.struct v && (c.args.depth == 0)) c.sort_at-sort.ensures) ∙ c.if-is_too_deep.true in
    (structure_deep g c.args.stores c.specifiers.seen.0 (seen_by more.0) c.args.tokens.now c.specifiers.rest.now c.next_token.result.1.now x c.specifiers.all.items c.specifiers.typedefs c.args.depth i.so_far c.next_token.ensures adds deep, i.ended)

pub specifiers::read_specifiers-returns-in_err-next : goal.specifiers::read_specifiers-returns-in_err-next
specifiers::read_specifiers-returns-in_err-next t c =
    let p = err_from_is_err_and c.from_residual.result c.from_residual.ensures.1 in
    let g = there c.args.context.types.now c.args.context.scope in
    let i = c.specifiers.invariant in
    let x = c.next_token.result.0 in
    let xs = c.next_token.result.1.now in
    let s = view g.types (sort_of x.kind) in
    let more = c.in-Some.more in
    let seen = seen_by c.specifiers.seen.0 in
    let adds = added c.add_specifier.result more (add c.args.stores g.inside seen s) c.in-Some.is (c.add_specifier.ensures ∙ ap (λ v. add c.args.stores g.inside seen v) c.sort_at-sort.ensures) in
    rw (p.1, p.2) (specifier_stop g c.args.stores c.args.tokens.now c.specifiers.rest.now xs x i.so_far.all c.specifiers.typedefs seen (seen_by more.0) (Named 0) c.args.depth 0 xs i.so_far.step c.next_token.ensures i.ended s refl adds c.in_err-next.field-0.0 (MatchResult-at_err _ _ _ c.in_err-next.ensures c.read_specifier.ensures))

pub specifiers::read_specifiers-specifiers-preserved : goal.specifiers::read_specifiers-specifiers-preserved
specifiers::read_specifiers-specifiers-preserved t c =
    let g = there c.args.context.types.now c.args.context.scope in
    let i = c.specifiers.invariant in
    let x = c.next_token.result.0 in
    let xs = c.next_token.result.1.now in
    let s = view g.types (sort_of x.kind) in
    let more = c.in-Some.more in
    let seen = seen_by c.specifiers.seen.0 in
    let next = c.in_ok-next.next in
    let now = c.in_ok-all.all.items in
    let items = c.in_ok-all.ensures ∙ ap (λ v. v.items ++ next.tree ∷ []) c.in_ok-next.ensures.1 in
    let adds = added c.add_specifier.result more (add c.args.stores g.inside seen s) c.in-Some.is (c.add_specifier.ensures ∙ ap (λ v. add c.args.stores g.inside seen v) c.sort_at-sort.ensures) in
    let one = one_more g c.args.stores c.args.tokens.now c.specifiers.rest.now xs x i.so_far.all c.specifiers.typedefs seen (seen_by more.0) next.tree c.args.depth next.depth next.rest.now i.so_far.step c.next_token.ensures i.ended s refl adds (MatchResult-at_ok _ _ _ c.in_ok-next.ensures.0 c.read_specifier.ensures) in
    let typedefs = c.is_either-typedefs.ensures ∙ ap (λ v. c.specifiers.typedefs || v) (c.is_mark.ensures ∙ ap (λ v. is_mark sorts_there.typedef v) c.sort_at-sort.ensures) in
    let shorter : length c.specifiers.rest.now ≡ length (x ∷ xs) = ap length c.next_token.ensures in
    let fewer : length next.rest.now ≤ length xs = one.fewer in
    let top : c.max-reached.result ≡ max c.specifiers.reached next.depth = omega (arith, c.max-reached.ensures) in
    let there_deep : next.depth ≤ c.args.depth = one.shallow in
    let was : c.specifiers.reached ≤ c.args.depth = i.shallow in
    record {
      so_far = subst (λ v. SpecifiersSoFar g c.args.stores c.args.tokens.now now v more.0 next.rest.now) (sym typedefs) (specifiers_more g c.args.stores c.specifiers.seen.0 more c.args.tokens.now c.specifiers.rest.now xs next.rest.now x s c.specifiers.all.items now next.tree c.specifiers.typedefs c.args.depth next.depth i.so_far c.next_token.ensures i.fewer items one);
      deep = specifiers_more_deep c.specifiers.all.items now i.so_far.all next.tree x c.specifiers.reached next.depth c.max-reached.result items i.so_far.same i.deep one.deep top;
      shallow = omega (arith, top, was, there_deep);
      ended = one.ended;
      fewer = omega (arith, fewer, shorter, i.fewer);
      same_stores = refl;
      same_depth = refl;
      same_types = refl;
      same_scope = refl;
    }

pub specifiers::read_specifiers-returns-then-not-is_typed : goal.specifiers::read_specifiers-returns-then-not-is_typed
specifiers::read_specifiers-returns-then-not-is_typed t c =
    let types = c.args.context.types.now in
    let g = there types c.args.context.scope in
    let i = c.specifiers.invariant in
    let x = c.next_token.result.0 in
    let s = view types (sort_of x.kind) in
    let seen = seen_by c.specifiers.seen.0 in
    let none = not_added c.add_specifier.result (add c.args.stores g.inside seen s) c.in_default.not-Some (c.add_specifier.ensures ∙ ap (λ v. add c.args.stores g.inside seen v) c.sort_at-sort.ensures) in
    specifiers_refused types c.args.context.scope c.args.stores c.specifiers.seen.0 c.args.tokens.now c.specifiers.rest.now c.next_token.result.1.now x c.specifiers.all.items c.specifiers.all.items c.specifiers.typedefs c.args.depth i.so_far c.next_token.ensures none (sym c.is_typed.ensures ∙ c.if-not-is_typed.true) refl i.ended c.fault.result (subst (λ v. IsFaultFor types c.args.context.scope v c.specifiers.rest.now c.fault.result) c.type_allowed-also_allowed.ensures c.fault.ensures)

pub specifiers::read_specifiers-returns : goal.specifiers::read_specifiers-returns
specifiers::read_specifiers-returns t c =
    let types = c.args.context.types.now in
    let g = there types c.args.context.scope in
    let i = c.specifiers.invariant in
    let x = c.next_token.result.0 in
    let s = view types (sort_of x.kind) in
    let seen = seen_by c.specifiers.seen.0 in
    let none = not_added c.add_specifier.result (add c.args.stores g.inside seen s) c.in_default.not-Some (c.add_specifier.ensures ∙ ap (λ v. add c.args.stores g.inside seen v) c.sort_at-sort.ensures) in
    specifiers_end g c.args.stores c.specifiers.seen.0 c.args.tokens.now c.specifiers.rest.now c.next_token.result.1.now x c.specifiers.all.items c.specifiers.typedefs c.args.depth c.specifiers.reached _ i.so_far c.next_token.ensures none (sym c.is_typed.ensures ∙ c.if-not-is_typed.false) refl refl i.deep i.shallow i.ended
