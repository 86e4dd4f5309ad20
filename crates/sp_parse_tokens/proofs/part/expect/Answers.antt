use Rattle.std.proofs.Common.{◌≡◌, sym, ap, ◌∙◌, subst}
use Rattle.sp_parse_grammar.specs.CTokens.{is_mark}
use Rattle.sp_parse_tokens.specs.Ended.{IsEnded}
use Rattle.sp_parse_tokens.specs.Sorts.{sort_of}
use Rattle.sp_parse_tokens.specs.Codes.{mark_seen}
use Rattle.sp_parse_tokens.proofs.Viewing.{mark_viewed, ended_mark}
use Rattle.sp_parse_tokens.proofs.part.expect.Goals as goal

pub returns-then-is_mark : goal.returns-then-is_mark
returns-then-is_mark c =
    let m = mark_seen c.args.mark in
    let x = c.next_token.result.0 in
    let same : c.is_mark.result ≡ is_mark m (sort_of x.kind) = c.is_mark.ensures ∙ ap (λ s. is_mark m s) c.sort_at.ensures ∙ mark_viewed c.args.context.types.now m (sort_of x.kind) in
    let stands = sym same ∙ c.if-is_mark.true in
    record {
      first = x;
      whole = c.next_token.ensures;
      stands = stands;
      ended = ended_mark m x c.next_token.result.1.now c.requires.mark stands (subst IsEnded c.next_token.ensures c.requires.ended);
    }

pub returns-else-is_mark : goal.returns-else-is_mark
returns-else-is_mark c =
    let m = mark_seen c.args.mark in
    let x = c.next_token.result.0 in
    let same : c.is_mark.result ≡ is_mark m (sort_of x.kind) = c.is_mark.ensures ∙ ap (λ s. is_mark m s) c.sort_at.ensures ∙ mark_viewed c.args.context.types.now m (sort_of x.kind) in
    record {
      first = x;
      behind = c.next_token.result.1.now;
      whole = c.next_token.ensures;
      missing = sym same ∙ c.if-is_mark.false;
      fault = c.fault.ensures;
    }
