use Rattle.std.proofs.Common.{◌≡◌, ◌++◌, ◌∷◌, [], length, sym, ap, ◌∙◌, subst, arith}
use Rattle.sp_parse_trees.specs.Syntax.{expression, text}
use Rattle.sp_parse_tokens.specs.Ended.{IsEnded}
use Rattle.sp_parse_tokens.specs.Sorts.{terminal}
use Rattle.sp_parse_tokens.specs.Codes.{sort_seen}
use Rattle.sp_parse_tokens.specs.Scopes.{there}
use Rattle.sp_parse_tokens.proofs.Viewing.{ended_text}
use Rattle.sp_parse_expr_steps.proofs.Texts.{TextsSoFar, text_more, texts_read}
use Rattle.sp_parse_expr_steps.proofs.primaries.read_texts.Goals as goal

pub texts-preserved : goal.texts-preserved
texts-preserved c =
    let i = c.texts.invariant in
    let g = there c.args.context.types.now c.args.context.scope in
    let x = c.next_token.result.0 in
    let xs = c.next_token.result.1.now in
    let is = ap sort_seen (sym c.in-Text.is) ∙ c.sort_at.ensures in
    let more = text_more g c.args.first x c.args.tokens.now c.texts.rest.now xs c.texts.texts.items i.so_far c.next_token.ensures is in
    let items = c.in_ok-push-in-Text.ensures.items ∙ ap (λ v. c.texts.texts.items ++ v ∷ []) c.number_of-in-Text.ensures in
    let shorter : length c.texts.rest.now ≡ length (x ∷ xs) = ap length c.next_token.ensures in
    record {
      so_far = subst (λ v. TextsSoFar g c.args.first c.args.tokens.now v xs) (sym items) more;
      ended = ended_text c.args.context.types.now x xs is (subst IsEnded c.next_token.ensures i.ended);
      fewer = omega (arith, i.fewer);
    }

pub returns : goal.returns
returns c =
    let i = c.texts.invariant in
    let g = there c.args.context.types.now c.args.context.scope in
    let x = c.next_token.result.0 in
    let all = terminal c.args.first ∷ i.so_far.behind in
    record {
      all = all;
      reads = texts_read g c.args.first x c.args.tokens.now c.texts.rest.now c.next_token.result.1.now c.texts.texts.items c.sort_at.result i.so_far c.next_token.ensures c.sort_at.ensures c.in_default.not-Text;
      makes = c.text.ensures ∙ ap (λ v. expression (text v) c.args.first.place c.args.first.place) (sym i.so_far.same);
      ended = i.ended;
      fewer = i.fewer;
    }
