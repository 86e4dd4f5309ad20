use Rattle.std.proofs.Common.{◌≡◌, ◌∷◌, length, sym, ap, ◌∙◌, subst, arith}
use Rattle.sp_parse_tokens.specs.Ended.{IsEnded}
use Rattle.sp_parse_tokens.specs.Scopes.{there}
use Rattle.sp_parse_expr_steps.proofs.Qualifiers.{QualifiersSoFar, qualifier_more, qualifiers_read, ended_qualifier}
use Rattle.sp_parse_expr_steps.proofs.declarators.read_qualifiers.Goals as goal

pub qualifiers-preserved : goal.qualifiers-preserved
qualifiers-preserved c =
    let i = c.qualifiers.invariant in
    let g = there c.args.context.types.now c.args.context.scope in
    let x = c.next_token.result.0 in
    let xs = c.next_token.result.1.now in
    let is = sym c.qualifier_of.ensures ∙ c.in-Some.is in
    let more = qualifier_more g x c.args.tokens.now c.qualifiers.rest.now xs c.qualifiers.all.items c.in-Some.word i.so_far c.next_token.ensures is in
    let shorter : length c.qualifiers.rest.now ≡ length (x ∷ xs) = ap length c.next_token.ensures in
    record {
      so_far = subst (λ v. QualifiersSoFar g c.args.tokens.now v xs) (sym c.in_ok-push.ensures.items) more;
      ended = ended_qualifier c.args.context.types.now x xs c.in-Some.word is (subst IsEnded c.next_token.ensures i.ended);
      fewer = omega (arith, i.fewer);
    }

pub returns : goal.returns
returns c =
    let i = c.qualifiers.invariant in
    let g = there c.args.context.types.now c.args.context.scope in
    record {
      all = i.so_far.all;
      reads = qualifiers_read g c.next_token.result.0 c.args.tokens.now c.qualifiers.rest.now c.next_token.result.1.now c.qualifiers.all.items i.so_far c.next_token.ensures (sym c.qualifier_of.ensures ∙ c.in_default.is);
      same = i.so_far.same;
      ended = i.ended;
      fewer = i.fewer;
    }
