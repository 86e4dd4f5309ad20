use Rattle.std.proofs.Common.{◌≡◌, true, false, [], ◌∷◌, ◌++◌, sym, ap, ◌∙◌, subst, arith}
use Rattle.std.specs.Prelude.{◌||◌}
use Rattle.std.proofs.lemmas.Result.{err_from_is_err_and}
use Rattle.sp_parse_trees.specs.View.{external_of, externals_of}
use Rattle.sp_parse_trees.specs.Depth.{unit_depth}
use Rattle.sp_parse_grammar.specs.CTokens.{is_mark}
use Rattle.sp_parse_grammar.specs.CTokens as sorts_there
use Rattle.sp_parse_grammar.specs.CTable.{begins_specifiers}
use Rattle.sp_parse_tokens.specs.Scopes.{context_of}
use Rattle.sp_parse_expr_steps.proofs.ListSteps.{map_more}
use Rattle.sp_decl_parser.specs.Seen.{external_part}
use Rattle.sp_decl_parser.proofs.UnitSteps as steps
use Rattle.sp_decl_parser.proofs.units.read_externals.Goals as goal

pub externals-init : goal.externals-init
externals-init c =
    let none : externals_of c.new-all.result.items ≡ [] = ap (λ v. externals_of v) c.new-all.ensures.items in
    record {
      so_far = steps.unit_begun c.args.types.now (externals_of c.new-all.result.items) c.args.tokens.now c.requires.no_types none;
      deep = sym (ap (λ v. unit_depth v) none);
      shallow = omega arith;
      ended = c.requires.ended;
    }

pub returns-in_err-next : goal.returns-in_err-next
returns-in_err-next c =
    let p = err_from_is_err_and c.from_residual.result c.from_residual.ensures.1 in
    let s = c.in_err-next.field-0.0 in
    rw (p.1, p.2) (steps.external_stop c.externals.types (externals_of c.externals.all.items) c.args.tokens.now c.externals.rest.now c.next_token.result.1.now c.next_token.result.0 c.next_token.ensures c.externals.invariant.so_far (sym (c.begins_external.ensures ∙ ap (λ s. is_mark sorts_there.semicolon s || begins_specifiers true false s) c.sort_at.ensures) ∙ c.if-not-begins_external.false) c.requires.ended c.args.depth s (steps.outside_stop (context_of c.outside.result) c.externals.types c.args.depth c.externals.rest.now s (c.outside.ensures.types, c.outside.ensures.function, c.outside.ensures.structure) c.in_err-next.ensures))

pub externals-preserved : goal.externals-preserved
externals-preserved c =
    let i = c.externals.invariant in
    let e = c.in_ok-next.next.tree in
    let h = steps.outside_read (context_of c.outside.result) c.externals.types c.args.depth c.in_ok-next.next.depth c.externals.rest.now c.in_ok-next.next.rest.now (external_part e) (c.outside.ensures.types, c.outside.ensures.function, c.outside.ensures.structure) c.in_ok-next.ensures in
    let es = externals_of c.externals.all.items in
    let same : externals_of c.push.new.self.items ≡ es ++ external_of e.tree ∷ [] = ap (λ w. externals_of w) c.in_ok-push.ensures.items ∙ map_more (λ w. external_of w) c.externals.all.items e.tree in
    record {
      so_far = subst (λ w. steps.UnitSoFar c.add_all.new.types w c.args.tokens.now c.in_ok-next.next.rest.now) (sym same) (steps.unit_more c.externals.types (externals_of c.externals.all.items) c.args.tokens.now c.externals.rest.now c.next_token.result.1.now c.next_token.result.0 c.next_token.ensures c.externals.invariant.so_far (external_part e) c.add_all.new.types c.in_ok-next.next.rest.now (sym (c.begins_external.ensures ∙ ap (λ s. is_mark sorts_there.semicolon s || begins_specifiers true false s) c.sort_at.ensures) ∙ c.if-not-begins_external.false) h.read.reads (c.in_ok-add_all.ensures ∙ ap (λ v. c.externals.types ++ v) c.as_slice.ensures.value));
      deep = subst (λ w. c.max-reached.result ≡ unit_depth w) (sym same) (omega (arith, c.max-reached.ensures, i.deep, h.read.deep, steps.depth_behind es (external_of e.tree)));
      shallow = omega (arith, c.max-reached.ensures, i.shallow, h.read.shallow);
      ended = h.read.ended;
    }

pub returns-then-not-is_mark : goal.returns-then-not-is_mark
returns-then-not-is_mark c =
    let i = c.externals.invariant in
    let no_end = sym (c.is_mark.ensures ∙ ap (λ s. is_mark sorts_there.end s) c.sort_at-2.ensures) ∙ c.if-not-is_mark.true in
    let h = rw c.outside-then-not-is_mark.ensures.types at c.fault.ensures in
    steps.end_stop c.externals.types c.outside-then-not-is_mark.result.scope (externals_of c.externals.all.items) c.args.tokens.now c.externals.rest.now c.next_token.result.1.now c.next_token.result.0 c.next_token.ensures i.so_far c.outside-then-not-is_mark.ensures.function c.outside-then-not-is_mark.ensures.structure (sym (c.begins_external.ensures ∙ ap (λ s. is_mark sorts_there.semicolon s || begins_specifiers true false s) c.sort_at.ensures) ∙ c.if-not-begins_external.true) c.next_token-2.result.0 c.next_token-2.result.1.now c.next_token-2.ensures no_end c.requires.ended i.ended c.args.depth c.fault.result h

pub returns : goal.returns
returns c =
    let i = c.externals.invariant in
    let ends = sym (c.is_mark.ensures ∙ ap (λ s. is_mark sorts_there.end s) c.sort_at-2.ensures) ∙ c.if-not-is_mark.false in
    steps.unit_read c.externals.types (externals_of c.externals.all.items) c.args.tokens.now c.externals.rest.now c.next_token.result.1.now c.next_token.result.0 c.next_token.ensures c.externals.invariant.so_far (sym (c.begins_external.ensures ∙ ap (λ s. is_mark sorts_there.semicolon s || begins_specifiers true false s) c.sort_at.ensures) ∙ c.if-not-begins_external.true) c.args.depth c.externals.reached c.next_token-2.result.0 c.next_token-2.result.1.now c.next_token-2.ensures ends i.ended i.deep i.shallow
