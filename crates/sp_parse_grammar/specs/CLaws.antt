-- The laws of C90's grammar, over any trees: any tokens are read or fail, and not both; what is read is the longest; and where an
-- ask fails stands the failing token.
use Rattle.std.specs.Prelude.{◌≡◌, ◌≤◌, Bool, List, [], ◌∷◌, ◌++◌, ⊤}
use Rattle.sp_parse_grammar.specs.Table.{ask, Reads, Want, Fails}
use Rattle.sp_parse_grammar.specs.Whole.{IsWhole, BeginsWhole, IsFailing}
use Rattle.sp_parse_grammar.specs.Checked.{Checked}
use Rattle.sp_parse_grammar.specs.Totality.{AreEnded, HasOneOutcome}
use Rattle.sp_parse_grammar.specs.CTokens as tokens
use Rattle.sp_parse_grammar.specs.CTokens.{Token, Sort, is_mark}
use Rattle.sp_parse_grammar.specs.CTrees.{Trees, TokenOf}
use Rattle.sp_parse_grammar.specs.CTable.{Item, level, after, Ask, Answer, at, unit, whole, c_symbols, c90, a_mark}

-- the token is the end of the text
abbrev pub is_end : {P : Type 0} {f : P → Sort} → Token P f → Bool
is_end x = is_mark tokens.end x.sort

-- The levels of expressions end with 13: 14 is the looseness of a token that is no operator, as the end of the text.
abbrev pub HasLevel : {t : Trees} → Item t → Type 0
HasLevel (level k) = k ≤ 13
HasLevel (after k l) = k ≤ 13
HasLevel _ = ⊤

-- C90 has this to be asked for.
abbrev pub IsAsk : {t : Trees} → Ask t → Type 0
IsAsk (at g i) = HasLevel i
IsAsk _ = ⊤

-- Of these asks no production takes the end of the text.
abbrev pub LeavesEnd : {t : Trees} → Ask t → Type 0
LeavesEnd (at g i) = HasLevel i
LeavesEnd (unit types) = ⊤
LeavesEnd whole = ⊥

-- What is left behind a reading: nothing behind a unit with the end, and else tokens with the end last, and there alone.
abbrev pub IsLeft : {t : Trees} → Ask t → List (TokenOf t) → Type 0
IsLeft whole = λ ys. ys ≡ []
IsLeft _ = λ ys. AreEnded is_end ys

-- Any tokens with the end last, and there alone, are read or fail, and not both, with one answer or one failing token.
abbrev pub AreSettled : Trees → Type 0
AreSettled t = (n : Ask t) (xs : List (TokenOf t)) → IsAsk n → AreEnded is_end xs → HasOneOutcome (c90 t) (IsLeft n) n xs

-- The table keeps what is checked of a table.
abbrev pub IsChecked : Trees → Type 0
IsChecked t = Checked (c90 t)

-- What is read is a whole, and the longest: none begins with it and the next token.
abbrev pub AreLongest : Trees → Type 0
AreLongest t = (n : Ask t) (front more : List (TokenOf t)) (x : TokenOf t) (a : Answer n) → Reads (c90 t) n (ask n) (front ++ x ∷ more) a (x ∷ more)
    → IsWhole (c90 t) n front a x × ((z : TokenOf t) → ¬ BeginsWhole (c90 t) n (front ++ x ∷ []) z)

-- Where an ask fails stands the failing token: some whole before the end of the text goes on up to it, none with it, and none ends there.
-- And it fails there, wanting the same, whatever stands behind that token.
abbrev pub AreFailing : Trees → Type 0
AreFailing t = (n : Ask t) (front more : List (TokenOf t)) (x : TokenOf t) (f : Want (c_symbols t)) → IsAsk n → Fails (c90 t) n (ask n) (front ++ x ∷ more) f (x ∷ more)
    → IsFailing (c90 t) n front x (a_mark t tokens.end) × ((others : List (TokenOf t)) → Fails (c90 t) n (ask n) (front ++ x ∷ others) f (x ∷ others))
