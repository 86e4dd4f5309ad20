-- A sort that is told to be a mark is that mark.
use Rattle.std.proofs.Common.{◌≡◌, true, refl}
use Rattle.sp_parse_grammar.specs.CTokens as tokens
use Rattle.sp_parse_grammar.specs.CTokens.{Sort, is_mark}

pub opening_is : (s : Sort) → is_mark tokens.opening s ≡ true → s ≡ tokens.mark tokens.opening
opening_is (tokens.mark tokens.opening) e = refl
opening_is _ e = absurd cc

pub bracket_is : (s : Sort) → is_mark tokens.bracket s ≡ true → s ≡ tokens.mark tokens.bracket
bracket_is (tokens.mark tokens.bracket) e = refl
bracket_is _ e = absurd cc

pub member_is : (s : Sort) → is_mark tokens.member s ≡ true → s ≡ tokens.mark tokens.member
member_is (tokens.mark tokens.member) e = refl
member_is _ e = absurd cc

pub star_is : (s : Sort) → is_mark tokens.star s ≡ true → s ≡ tokens.mark tokens.star
star_is (tokens.mark tokens.star) e = refl
star_is _ e = absurd cc

pub brace_is : (s : Sort) → is_mark tokens.brace s ≡ true → s ≡ tokens.mark tokens.brace
brace_is (tokens.mark tokens.brace) e = refl
brace_is _ e = absurd cc
