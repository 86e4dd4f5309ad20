-- Classes of bytes.
use Rattle.std.specs.Prelude.{ℕ, Bool, true, false, not, ◌&&◌, ◌||◌, ◌==◌, nat_le, List, [], ◌∷◌, if◌then◌else◌}

unfoldable pub is_between : ℕ → ℕ → ℕ → Bool
is_between low high b = nat_le low b && nat_le b high

unfoldable pub is_digit : ℕ → Bool
is_digit b = is_between 48 57 b

unfoldable pub is_octal : ℕ → Bool
is_octal b = is_between 48 55 b

unfoldable pub is_hexadecimal : ℕ → Bool
is_hexadecimal b = is_digit b || is_between 97 102 b || is_between 65 70 b

-- a letter, or the underscore
unfoldable pub is_letter : ℕ → Bool
is_letter b = is_between 97 122 b || is_between 65 90 b || b == 95

unfoldable pub is_word_byte : ℕ → Bool
is_word_byte b = is_letter b || is_digit b

-- tab, newline, vertical tab, form feed, carriage return, and space
unfoldable pub is_blank : ℕ → Bool
is_blank b = is_between 9 13 b || b == 32

-- a blank within a line
unfoldable pub is_gap : ℕ → Bool
is_gap b = is_blank b && not (b == 10)

unfoldable pub is_not_newline : ℕ → Bool
is_not_newline b = not (b == 10)

-- a double or a single quote
unfoldable pub is_quote : ℕ → Bool
is_quote b = b == 34 || b == 39

-- e or E, before an exponent
unfoldable pub is_exponent_letter : ℕ → Bool
is_exponent_letter b = b == 101 || b == 69

unfoldable pub is_sign : ℕ → Bool
is_sign b = b == 43 || b == 45

-- whether the bytes begin with one of a class
abbrev pub begins : (ℕ → Bool) → List ℕ → Bool
begins p [] = false
begins p (b ∷ bs) = p b

-- the first bytes of a class, as many as there are
abbrev pub front : (ℕ → Bool) → List ℕ → List ℕ
front p [] = []
front p (b ∷ bs) = if p b then b ∷ front p bs else []

-- what stands after them
abbrev pub after : (ℕ → Bool) → List ℕ → List ℕ
after p [] = []
after p (b ∷ bs) = if p b then after p bs else b ∷ bs

abbrev pub is_empty : List ℕ → Bool
is_empty [] = true
is_empty (b ∷ bs) = false
