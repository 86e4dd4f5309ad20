use Rattle.std.proofs.Common.{◌≡◌, Bool, bit_or, Some, None, sym, ap, ◌∙◌}
use Rattle.std.specs.Prelude.{Option, option_map}
use Rattle.sp_parse_grammar.specs.CTokens.{TypeWord, Length, Base}
use Rattle.sp_parse_tokens.specs.Codes.{word_seen, seen_by, Bit, bit_seen, number_of_bit, beside}
use Rattle.sp_parse_tokens.proofs.SeenWords.{adds_word}
use Rattle.sp_parse_tokens.proofs.words.add_word.Goals as goal

same_word : (o : Option Bit) (w : TypeWord) {a b : Bool} {l m : Length} {p q : Base} → o ≡ beside w a l p → a ≡ b → l ≡ m → p ≡ q → o ≡ beside w b m q
same_word o w e f g h = cc

pub returns-in-Some : goal.returns-in-Some
returns-in-Some c =
    let n = c.args.seen.0 in
    let w = word_seen c.args.word in
    let told = ap (option_map bit_seen) (sym c.in-Some.is) ∙ c.beside.ensures in
    let same = same_word (Some (bit_seen c.in-Some.bit)) w told (c.contains-signed.ensures tt) c.length_of.ensures c.base_of.ensures in
    ap (λ v. Some (seen_by v)) c.with_bit.ensures ∙ ap (option_map (λ b. seen_by (bit_or n (number_of_bit b)))) same ∙ adds_word n w

pub returns-in-None : goal.returns-in-None
returns-in-None c =
    let n = c.args.seen.0 in
    let w = word_seen c.args.word in
    let told = ap (option_map bit_seen) (sym c.in-None.is) ∙ c.beside.ensures in
    let same = same_word None w told (c.contains-signed.ensures tt) c.length_of.ensures c.base_of.ensures in
    ap (option_map (λ b. seen_by (bit_or n (number_of_bit b)))) same ∙ adds_word n w
