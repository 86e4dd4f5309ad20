use Rattle.std.proofs.Common.{refl, sym, ap, ◌∙◌}
use Rattle.std.specs.Prelude.{is_some}
use Rattle.std.proofs.lemmas.Result.{err_from_is_err_and, MatchResult-at_ok, MatchResult-at_err}
use Rattle.sp_parse_trees.specs.View.{declarator_of}
use Rattle.sp_parse_grammar.specs.CTable as grammar
use Rattle.sp_parse_tokens.specs.Sorts.{terminal}
use Rattle.sp_parse_tokens.specs.Scopes.{there, allowed_seen}
use Rattle.sp_parse_expr_steps.specs.Declaring.{form_seen, declared_seen}
use Rattle.sp_parse_expr_steps.proofs.DeclaratorSteps.{behind_qualifiers, declared_same}
use Rattle.sp_parse_expr_steps.proofs.Qualifiers.{words_of}
use Rattle.sp_parse_trees.specs.Syntax.{declarator, pointer}
use Rattle.sp_parse_expr_ends.proofs.declarators.pointing.Goals as goal

pub returns-in_err-inner : goal.returns-in_err-inner
returns-in_err-inner c =
    let p = err_from_is_err_and c.from_residual.result c.from_residual.ensures.1 in
    let g = there c.args.context.types.now c.args.context.scope in
    let q = c.requires.qualified in
    rw (p.1, p.2) (behind_qualifiers g (form_seen c.args.form) c.args.depth c.args.tokens.now c.args.behind.now q.all q.reads c.in_err-inner.field-0.0 (MatchResult-at_err _ _ _ c.in_err-inner.ensures c.requires.read))

pub returns : goal.returns
returns c =
    let q = c.requires.qualified in
    let h = MatchResult-at_ok _ _ _ c.in_ok-inner.ensures.0 c.requires.read in
    let p = c.in_ok-pointed.ensures in
    let d = c.in_ok-pointed.field-0 in
    let star = c.args.star in
    let behind = c.in_ok-inner.inner.tree in
    let inner = declared_seen behind h.pending in
    let made = grammar.pointed (terminal star) q.all inner in
    let ks = words_of q.all in
    let words = ap (λ v. declarator (pointer v.items (declarator_of behind.tree)) star.place) c.in_ok-inner.ensures.1 ∙ ap (λ v. declarator (pointer v (declarator_of behind.tree)) star.place) (sym q.same) in
    record {
      all = q.all;
      mid = c.args.behind.now;
      qualifiers = q.reads;
      inner = inner;
      inner_depth = c.in_ok-inner.inner.depth;
      read = h.read;
      seen = declared_same (declared_seen d made.tree) made refl p.1 p.2 (ap allowed_seen p.3);
      settled = p.0 ∙ (words ∙ ap (λ v. declarator (pointer ks v) star.place) h.settled);
      named = λ e. sym (p.0 ∙ (words ∙ ap (λ v. declarator (pointer ks v) star.place) (sym (h.named (ap is_some (sym p.1) ∙ e)))));
      deeper = refl;
      fewer = q.fewer;
    }
