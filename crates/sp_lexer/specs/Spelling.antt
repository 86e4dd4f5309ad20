-- Spellings: which bytes are a word, a number run, a closed literal, an operator or a punctuator (C90 6.1).
use Rattle.std.specs.Prelude.{◌≡◌, ℕ, ◌≤◌, Bool, true, false, not, ◌&&◌, ◌||◌, ◌==◌, List, [], ◌∷◌, ◌++◌, length, if◌then◌else◌}
use Rattle.std.specs.List.{list_all}
use Rattle.sp_tree.specs.declared.token.Punct.{Punct}
use Rattle.sp_tree.specs.Spellings.{mark_spelling}
use Rattle.sp_lexer.specs.Bytes.{is_digit, is_letter, is_word_byte, is_sign, is_exponent_letter, begins, is_empty}

-- a letter, then letters and digits
abbrev pub is_word : List ℕ → Bool
is_word [] = false
is_word (b ∷ bs) = is_letter b && list_all is_word_byte bs

-- whether a number run goes on with a byte after another one: a sign only directly after e or E
abbrev pub goes_on : ℕ → ℕ → Bool
goes_on last b = is_word_byte b || b == 46 || (is_sign b && is_exponent_letter last)

abbrev pub runs_on : ℕ → List ℕ → Bool
runs_on last [] = true
runs_on last (b ∷ bs) = goes_on last b && runs_on b bs

-- a number run begins with a digit, or with a point and a digit
abbrev pub is_run : List ℕ → Bool
is_run [] = false
is_run (b ∷ bs) = (is_digit b || (b == 46 && begins is_digit bs)) && runs_on b bs

-- bytes on one line that end with this quote, and have no other one; a backslash before a byte keeps it from ending them.
-- The first argument says whether a backslash stands before.
abbrev pub closes : Bool → ℕ → List ℕ → Bool
closes kept quote [] = false
closes kept quote (b ∷ bs) = if b == quote && not kept then is_empty bs else not (b == 10) && closes (b == 92 && not kept) quote bs

-- a closed literal: a quote, a body on one line, and the same quote
abbrev pub is_literal : ℕ → List ℕ → Bool
is_literal quote [] = false
is_literal quote (b ∷ bs) = b == quote && closes false quote bs

pub data IsSpelling (bytes : List ℕ) : Type 0 where
  spells_word : is_word bytes ≡ true → IsSpelling bytes
  spells_run : is_run bytes ≡ true → IsSpelling bytes
  spells_string : is_literal 34 bytes ≡ true → IsSpelling bytes
  spells_character : is_literal 39 bytes ≡ true → IsSpelling bytes
  spells_mark : (mark : Punct) → bytes ≡ mark_spelling mark → IsSpelling bytes

-- the text begins with this spelling, and with no longer one
pub record BeginsWith (text front next : List ℕ) : Type 0 where
  pub whole : text ≡ front ++ next
  pub spelled : IsSpelling front
  pub longest : (other rest : List ℕ) → text ≡ other ++ rest → IsSpelling other → length other ≤ length front

-- the text begins with no spelling
abbrev pub BeginsWithNone : List ℕ → Type 0
BeginsWithNone text = (front next : List ℕ) → text ≡ front ++ next → IsSpelling front → ⊥
