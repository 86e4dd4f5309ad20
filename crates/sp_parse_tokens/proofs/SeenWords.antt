-- The words that were seen in a list of specifiers, as bits, and as the grammar has them.
use Rattle.std.proofs.Common.{◌≡◌, ℕ, Bool, true, false, ◌==◌, bit_and, bit_or, Some, refl, ap, ◌∙◌}
use Rattle.std.specs.Prelude.{option_map}
use Rattle.std.proofs.lemmas.Nat.{and_or_self, and_or_apart}
use Rattle.sp_parse_grammar.specs.CTokens as tokens
use Rattle.sp_parse_grammar.specs.CTokens.{Seen, Length, Base, TypeWord, add_word, is_typed, whole_seen}
use Rattle.sp_parse_tokens.specs.Codes.{has, length_by, base_by, seen_by, Bit, signed_bit, short_bit, long_bit, char_bit, int_bit, double_bit, whole_bit, number_of_bit, beside}

same_bit : (n b : ℕ) → (b == b) ≡ true → has (bit_or n b) b ≡ true
same_bit n b e = ap (λ v. v == b) (and_or_self b n) ∙ e

other_bit : (n b k : ℕ) → bit_and b k ≡ 0 → has (bit_or n b) k ≡ has n k
other_bit n b k e = ap (λ v. v == k) (and_or_apart k n b e)

abbrev pub flags : Bool → Bool → Length → Base → Seen
flags stored signed length base = record { stored = stored; signed = signed; length = length; base = base }

flags_same : {a b : Bool} {c d : Bool} {l m : Length} {p q : Base} → a ≡ b → c ≡ d → l ≡ m → p ≡ q → flags a c l p ≡ flags b d m q
flags_same e f g h = cc

lengths_same : {a b c d : Bool} → a ≡ b → c ≡ d → length_by a c ≡ length_by b d
lengths_same e f = cc

bases_same : {a b c d e f g h : Bool} → a ≡ b → c ≡ d → e ≡ f → g ≡ h → base_by a c e g ≡ base_by b d f h
bases_same p q r s = cc

module _ (n : ℕ) where
  old_length : (b : ℕ) → bit_and b 4 ≡ 0 → bit_and b 8 ≡ 0 → length_by (has (bit_or n b) 4) (has (bit_or n b) 8) ≡ length_by (has n 4) (has n 8)
  old_length b e f = lengths_same (other_bit n b 4 e) (other_bit n b 8 f)

  old_base : (b : ℕ) → bit_and b 16 ≡ 0 → bit_and b 32 ≡ 0 → bit_and b 64 ≡ 0 → bit_and b 128 ≡ 0 → base_by (has (bit_or n b) 16) (has (bit_or n b) 32) (has (bit_or n b) 64) (has (bit_or n b) 128) ≡ base_by (has n 16) (has n 32) (has n 64) (has n 128)
  old_base b e f g h = bases_same (other_bit n b 16 e) (other_bit n b 32 f) (other_bit n b 64 g) (other_bit n b 128 h)

  with_signed : seen_by (bit_or n 2) ≡ record (seen_by n) { signed = true }
  with_signed = flags_same (other_bit n 2 1 refl) (same_bit n 2 refl) (old_length 2 refl refl) (old_base 2 refl refl refl refl)

  with_short : seen_by (bit_or n 4) ≡ record (seen_by n) { length = tokens.short_length }
  with_short = flags_same (other_bit n 4 1 refl) (other_bit n 4 2 refl) (lengths_same (same_bit n 4 refl) (other_bit n 4 8 refl)) (old_base 4 refl refl refl refl)

  -- a length or a base that isn't there has none of its bits
  not_short : (a b : Bool) → length_by a b ≡ tokens.plain_length → a ≡ false
  not_short true b e = absurd cc
  not_short false b e = refl

  no_char : (a b c d : Bool) → base_by a b c d ≡ tokens.no_base → a ≡ false
  no_char true b c d e = absurd cc
  no_char false b c d e = refl

  no_int : (a b c d : Bool) → base_by a b c d ≡ tokens.no_base → b ≡ false
  no_int true b c d e = absurd cc
  no_int false true c d e = absurd cc
  no_int false false c d e = refl

  no_double : (a b c d : Bool) → base_by a b c d ≡ tokens.no_base → c ≡ false
  no_double true b c d e = absurd cc
  no_double false true c d e = absurd cc
  no_double false false true d e = absurd cc
  no_double false false false d e = refl

  with_long : length_by (has n 4) (has n 8) ≡ tokens.plain_length → seen_by (bit_or n 8) ≡ record (seen_by n) { length = tokens.long_length }
  with_long e = flags_same (other_bit n 8 1 refl) (other_bit n 8 2 refl) (lengths_same (other_bit n 8 4 refl ∙ not_short (has n 4) (has n 8) e) (same_bit n 8 refl)) (old_base 8 refl refl refl refl)

  abbrev base_now : Base
  base_now = base_by (has n 16) (has n 32) (has n 64) (has n 128)

  with_char : seen_by (bit_or n 16) ≡ record (seen_by n) { base = tokens.char_base }
  with_char = flags_same (other_bit n 16 1 refl) (other_bit n 16 2 refl) (old_length 16 refl refl) (bases_same (same_bit n 16 refl) (other_bit n 16 32 refl) (other_bit n 16 64 refl) (other_bit n 16 128 refl))

  with_int : base_now ≡ tokens.no_base → seen_by (bit_or n 32) ≡ record (seen_by n) { base = tokens.int_base }
  with_int e = flags_same (other_bit n 32 1 refl) (other_bit n 32 2 refl) (old_length 32 refl refl) (bases_same (other_bit n 32 16 refl ∙ no_char (has n 16) (has n 32) (has n 64) (has n 128) e) (same_bit n 32 refl) (other_bit n 32 64 refl) (other_bit n 32 128 refl))

  with_double : base_now ≡ tokens.no_base → seen_by (bit_or n 64) ≡ record (seen_by n) { base = tokens.double_base }
  with_double e = flags_same (other_bit n 64 1 refl) (other_bit n 64 2 refl) (old_length 64 refl refl) (bases_same (other_bit n 64 16 refl ∙ no_char (has n 16) (has n 32) (has n 64) (has n 128) e) (other_bit n 64 32 refl ∙ no_int (has n 16) (has n 32) (has n 64) (has n 128) e) (same_bit n 64 refl) (other_bit n 64 128 refl))

  pub with_whole : base_now ≡ tokens.no_base → seen_by (bit_or n 128) ≡ record (seen_by n) { base = tokens.whole_base }
  with_whole e = flags_same (other_bit n 128 1 refl) (other_bit n 128 2 refl) (old_length 128 refl refl) (bases_same (other_bit n 128 16 refl ∙ no_char (has n 16) (has n 32) (has n 64) (has n 128) e) (other_bit n 128 32 refl ∙ no_int (has n 16) (has n 32) (has n 64) (has n 128) e) (other_bit n 128 64 refl ∙ no_double (has n 16) (has n 32) (has n 64) (has n 128) e) (same_bit n 128 refl))

-- one bit more, as the grammar adds a word
record Sets (set : Bit → Seen) (stored signed : Bool) (length : Length) (base : Base) : Type 0 where
  sets_signed : set signed_bit ≡ flags stored true length base
  sets_short : set short_bit ≡ flags stored signed tokens.short_length base
  sets_long : length ≡ tokens.plain_length → set long_bit ≡ flags stored signed tokens.long_length base
  sets_char : set char_bit ≡ flags stored signed length tokens.char_base
  sets_int : base ≡ tokens.no_base → set int_bit ≡ flags stored signed length tokens.int_base
  sets_double : base ≡ tokens.no_base → set double_bit ≡ flags stored signed length tokens.double_base
  sets_whole : base ≡ tokens.no_base → set whole_bit ≡ flags stored signed length tokens.whole_base

adds : (set : Bit → Seen) (w : TypeWord) (stored signed : Bool) (length : Length) (base : Base) → Sets set stored signed length base → option_map set (beside w signed length base) ≡ add_word stored w signed length base
adds set tokens.void stored false tokens.plain_length tokens.no_base h = ap Some (h.sets_whole refl)
adds set tokens.float stored false tokens.plain_length tokens.no_base h = ap Some (h.sets_whole refl)
adds set tokens.char stored signed tokens.plain_length tokens.no_base h = ap Some h.sets_char
adds set tokens.short stored signed tokens.plain_length tokens.no_base h = ap Some h.sets_short
adds set tokens.short stored signed tokens.plain_length tokens.int_base h = ap Some h.sets_short
adds set tokens.long stored signed tokens.plain_length tokens.no_base h = ap Some (h.sets_long refl)
adds set tokens.long stored signed tokens.plain_length tokens.int_base h = ap Some (h.sets_long refl)
adds set tokens.long stored false tokens.plain_length tokens.double_base h = ap Some (h.sets_long refl)
adds set tokens.int stored signed length tokens.no_base h = ap Some (h.sets_int refl)
adds set tokens.double stored false tokens.plain_length tokens.no_base h = ap Some (h.sets_double refl)
adds set tokens.double stored false tokens.long_length tokens.no_base h = ap Some (h.sets_double refl)
adds set tokens.sign stored false length tokens.no_base h = ap Some h.sets_signed
adds set tokens.sign stored false tokens.plain_length tokens.char_base h = ap Some h.sets_signed
adds set tokens.sign stored false length tokens.int_base h = ap Some h.sets_signed
adds set _ stored _ _ _ h = refl

pub adds_word : (n : ℕ) (w : TypeWord) → option_map (λ b. seen_by (bit_or n (number_of_bit b))) (beside w (has n 2) (length_by (has n 4) (has n 8)) (base_by (has n 16) (has n 32) (has n 64) (has n 128))) ≡ add_word (has n 1) w (has n 2) (length_by (has n 4) (has n 8)) (base_by (has n 16) (has n 32) (has n 64) (has n 128))
adds_word n w = adds (λ b. seen_by (bit_or n (number_of_bit b))) w (has n 1) (has n 2) (length_by (has n 4) (has n 8)) (base_by (has n 16) (has n 32) (has n 64) (has n 128)) (record {
  sets_signed = with_signed n;
  sets_short = with_short n;
  sets_long = with_long n;
  sets_char = with_char n;
  sets_int = with_int n;
  sets_double = with_double n;
  sets_whole = with_whole n;
})
