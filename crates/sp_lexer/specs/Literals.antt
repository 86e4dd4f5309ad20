-- What the body of a literal stands for (C90 6.1.3.4 and 6.1.4).
use Rattle.std.specs.Prelude.{◌≡◌, ℕ, ◌||◌, ◌==◌, nat_lt, List, [], ◌∷◌, ℤ, pos, ◌-ℤ◌, take, drop, length, Option, Some, None, if◌then◌else◌}
use Rattle.sp_lexer.specs.Bytes.{is_octal, is_hexadecimal, begins, front, after}
use Rattle.sp_lexer.specs.Numerals.{value_of}

-- the value of a simple escape, by the byte after its backslash
unfoldable pub simple_escape : ℕ → Option ℕ
simple_escape b =
    if b == 97 then Some 7
    else if b == 98 then Some 8
    else if b == 102 then Some 12
    else if b == 110 then Some 10
    else if b == 114 then Some 13
    else if b == 116 then Some 9
    else if b == 118 then Some 11
    else if b == 92 || b == 39 || b == 34 || b == 63 then Some b
    else None

-- the value of digits, where it is a byte
abbrev pub byte_value : ℕ → List ℕ → Option ℕ
byte_value base digits = if nat_lt (value_of base digits) 256 then Some (value_of base digits) else None

-- a value with what follows it
abbrev pub before : Option ℕ → List ℕ → Option (ℕ × List ℕ)
before None rest = None
before (Some value) rest = Some (value, rest)

-- the octal digits that the bytes begin with, three at most
abbrev pub octal_digits : List ℕ → List ℕ
octal_digits bytes = front is_octal (take 3 bytes)

-- the escape behind a backslash, and what follows it: one to three octal digits, x and hexadecimal digits, or a simple one
abbrev pub escape_at : List ℕ → Option (ℕ × List ℕ)
escape_at [] = None
escape_at (b ∷ bs) =
    if is_octal b then before (byte_value 8 (octal_digits (b ∷ bs))) (drop (length (octal_digits (b ∷ bs))) (b ∷ bs))
    else if b == 120 then (if begins is_hexadecimal bs then before (byte_value 16 (front is_hexadecimal bs)) (after is_hexadecimal bs) else None)
    else before (simple_escape b) bs

-- the first byte that a body stands for, and the rest of the body
abbrev pub byte_at : List ℕ → Option (ℕ × List ℕ)
byte_at [] = None
byte_at (b ∷ bs) = if b == 92 then escape_at bs else Some (b, bs)

-- a body stands for these bytes
pub data StandsFor : List ℕ → List ℕ → Type 0 where
  nothing : StandsFor [] []
  byte : {body rest : List ℕ} {value : ℕ} {values : List ℕ} → byte_at body ≡ Some (value, rest) → StandsFor rest values → StandsFor body (value ∷ values)

-- the value of a byte as a signed char
unfoldable pub signed_char : ℕ → ℤ
signed_char b = if nat_lt b 128 then pos b else pos b -ℤ pos 256
