-- What a spelling of bytes stands for is in range.
use Rattle.std.proofs.Common.{◌≡◌, ℕ, ◌<◌, ◌^◌, Bool, true, false, cond, ◌||◌, ◌==◌, List, [], ◌∷◌, ◌++◌, length, drop, Option, Some, None, Result, Ok, Err, refl, sym, subst, pos, ◌-ℤ◌, ltb-true, arith}
use Rattle.std.proofs.lemmas.Int.{ints}
use Rattle.std.proofs.lemmas.List.Elements.{All-cons}
use Rattle.std.specs.Prelude.{⊤, nat_lt}
use Rattle.sp_tree.specs.declared.token.Number.{Number}
use Rattle.sp_tree.specs.declared.fault.FaultKind.{FaultKind}
use Rattle.sp_tree.specs.declared.token.Keyword.{Keyword}
use Rattle.sp_types.specs.declared.ctype.IntKind.TheVariants.{Int}
use Rattle.sp_lexer.specs.declared.numbers.Suffix.{Suffix}
use Rattle.sp_lexer.specs.Numerals.{is_floating, base_of, body_of, suffix_of, is_digit_in, value_of, integer_of, number_of}
use Rattle.sp_lexer.specs.Bytes.{is_octal, is_hexadecimal, begins, front, after}
use Rattle.sp_lexer.specs.Literals.{simple_escape, byte_value, before, octal_digits, escape_at, byte_at, StandsFor, nothing, byte, signed_char}
use Rattle.sp_lexer.specs.Words.{keyword_of, refused_word}
use Rattle.sp_lexer.specs.Scan.{Lexeme, identifier, string, integer, character, is_wide, unless_refused, unless_keyword, word_of, as_number, Reads, reads_word, reads_number, reads_text, bad_text, reads_character, bad_character, reads_mark}
use Rattle.sp_ir.specs.Formed.{InKind}
use Rattle.sp_check_written_laws.proofs.Bytes.{AreBytes, choose, byte_first, bytes_rest, bytes_drop, bytes_after, first_bytes}

-- ---- numbers

abbrev IsLow : Result Number FaultKind → Type 0
IsLow (Ok n) = n.value < 2 ^ 64
IsLow (Err k) = ⊤

low_where : (n : Number) (k : FaultKind) (yes : Bool) → nat_lt n.value (2 ^ 64) ≡ yes → IsLow (cond yes (Ok n) (Err k))
low_where n k true e = ltb-true n.value (2 ^ 64) e
low_where n k false e = tt

integer_low : (base : ℕ) (ds : List ℕ) (s : Option Suffix) → IsLow (integer_of base ds s)
integer_low base ds None = tt
integer_low base [] (Some s) = tt
integer_low base (d ∷ ds) (Some s) = choose IsLow s.long_long _ _ tt (low_where _ _ (nat_lt (value_of base (d ∷ ds)) (2 ^ 64)) refl)

number_low : (run : List ℕ) → IsLow (number_of run)
number_low run = choose IsLow (is_floating run) _ _ tt
    (integer_low (base_of run) (front (is_digit_in (base_of run)) (body_of run)) (suffix_of (after (is_digit_in (base_of run)) (body_of run))))

-- ---- characters

abbrev IsLowMaybe : Option ℕ → Type 0
IsLowMaybe None = ⊤
IsLowMaybe (Some b) = b < 256

abbrev IsLowFirst : Option (ℕ × List ℕ) → Type 0
IsLowFirst None = ⊤
IsLowFirst (Some v) = (v.0 < 256) × AreBytes v.1

before_low : (o : Option ℕ) (rest : List ℕ) → IsLowMaybe o → AreBytes rest → IsLowFirst (before o rest)
before_low None rest h hs = tt
before_low (Some b) rest h hs = (h, hs)

some_where : (b : ℕ) (yes : Bool) → nat_lt b 256 ≡ yes → IsLowMaybe (cond yes (Some b) None)
some_where b true e = ltb-true b 256 e
some_where b false e = tt

value_low : (base : ℕ) (ds : List ℕ) → IsLowMaybe (byte_value base ds)
value_low base ds = some_where (value_of base ds) (nat_lt (value_of base ds) 256) refl

simple_low : (b : ℕ) → b < 256 → IsLowMaybe (simple_escape b)
unfolding simple_escape
simple_low b h =
    choose IsLowMaybe (b == 97) _ _ (omega arith) (choose IsLowMaybe (b == 98) _ _ (omega arith)
    (choose IsLowMaybe (b == 102) _ _ (omega arith) (choose IsLowMaybe (b == 110) _ _ (omega arith)
    (choose IsLowMaybe (b == 114) _ _ (omega arith) (choose IsLowMaybe (b == 116) _ _ (omega arith)
    (choose IsLowMaybe (b == 118) _ _ (omega arith) (choose IsLowMaybe (b == 92 || b == 39 || b == 34 || b == 63) _ _ h tt)))))))

escape_low : (bs : List ℕ) → AreBytes bs → IsLowFirst (escape_at bs)
escape_low [] h = tt
escape_low (b ∷ bs) h = choose IsLowFirst (is_octal b) _ _
    (before_low (byte_value 8 (octal_digits (b ∷ bs))) (drop (length (octal_digits (b ∷ bs))) (b ∷ bs)) (value_low 8 (octal_digits (b ∷ bs)))
    (bytes_drop (length (octal_digits (b ∷ bs))) (b ∷ bs) h))
    (choose IsLowFirst (b == 120) _ _
    (choose IsLowFirst (begins is_hexadecimal bs) _ _
    (before_low (byte_value 16 (front is_hexadecimal bs)) (after is_hexadecimal bs) (value_low 16 (front is_hexadecimal bs))
    (bytes_after is_hexadecimal bs (bytes_rest b bs h))) tt)
    (before_low (simple_escape b) bs (simple_low b (byte_first b bs h)) (bytes_rest b bs h)))

first_low : (bs : List ℕ) → AreBytes bs → IsLowFirst (byte_at bs)
first_low [] h = tt
first_low (b ∷ bs) h = choose IsLowFirst (b == 92) _ _ (escape_low bs (bytes_rest b bs h)) (byte_first b bs h, bytes_rest b bs h)

one_low : (body : List ℕ) (value : ℕ) → AreBytes body → StandsFor body (value ∷ []) → value < 256
one_low body value h (byte at rest) = (subst IsLowFirst at (first_low body h)).0

all_low : (body values : List ℕ) → AreBytes body → StandsFor body values → AreBytes values
all_low body [] h nothing = h
all_low body (value ∷ values) h (byte {rest = rest} at on) =
    let first : IsLowFirst (Some (value, rest)) = subst IsLowFirst at (first_low body h) in
    All-cons (λ b. b < 256) value values first.0 (all_low rest values first.1 on)

char_low : (b : ℕ) → b < 256 → InKind Int (signed_char b)
unfolding signed_char
char_low b low = by (nat_lt b 128) refl
  where
    by : (yes : Bool) → nat_lt b 128 ≡ yes → InKind Int (cond yes (pos b) (pos b -ℤ pos 256))
    by true e = (omega (arith, ints), let small : b < 128 = ltb-true b 128 e in omega (arith, ints, small))
    by false e = (omega (arith, ints), omega (arith, ints, low))

-- ---- spellings

abbrev pub IsInReach : Lexeme → Type 0
IsInReach (integer n) = n.value < 2 ^ 64
IsInReach (character z) = InKind Int z
IsInReach (identifier bytes) = AreBytes bytes
IsInReach (string bytes) = AreBytes bytes
IsInReach x = ⊤

abbrev AreInReach : Result Lexeme FaultKind → Type 0
AreInReach (Ok x) = IsInReach x
AreInReach (Err k) = ⊤

word_reach : (text next : List ℕ) → AreBytes text → AreInReach (word_of text next)
word_reach text next h = by (keyword_of text)
  where
    inner : (o : Option FaultKind) → AreInReach (unless_refused o (is_wide text next) text)
    inner None = choose AreInReach (is_wide text next) _ _ tt h
    inner (Some k) = tt

    by : (o : Option Keyword) → AreInReach (unless_keyword o (unless_refused (refused_word text) (is_wide text next) text))
    by None = inner (refused_word text)
    by (Some k) = tt

number_reach : (n : Result Number FaultKind) → IsLow n → AreInReach (as_number n)
number_reach (Ok n) h = h
number_reach (Err k) h = tt

pub in_reach : (text next : List ℕ) (verdict : Result Lexeme FaultKind) → AreBytes text → Reads text next verdict → AreInReach verdict
in_reach text next verdict h (reads_word w is) = subst AreInReach (sym is) (word_reach text next h)
in_reach text next verdict h (reads_number r is) = subst AreInReach (sym is) (number_reach (number_of text) (number_low text))
in_reach text next verdict h (reads_text body values f s is) = subst AreInReach (sym is)
    (all_low body values (first_bytes (34 ∷ []) body (bytes_rest 34 (body ++ 34 ∷ []) (subst AreBytes f h))) s)
in_reach text next verdict h (bad_text body f s is) = subst AreInReach (sym is) tt
in_reach text next verdict h (reads_character body value f s is) = subst AreInReach (sym is)
    (char_low value (one_low body value (first_bytes (39 ∷ []) body (bytes_rest 39 (body ++ 39 ∷ []) (subst AreBytes f h))) s))
in_reach text next verdict h (bad_character body f s is) = subst AreInReach (sym is) tt
in_reach text next verdict h (reads_mark punct f is) = subst AreInReach (sym is) tt
