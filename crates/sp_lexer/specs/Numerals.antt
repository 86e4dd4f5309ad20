-- What a number run stands for (C90 6.1.3.1 and 6.1.3.2).
use Rattle.std.specs.Prelude.{ℕ, ◌+◌, ◌-◌, ◌*◌, ◌^◌, Bool, true, false, ◌&&◌, ◌||◌, ◌==◌, nat_lt, nat_le, List, [], ◌∷◌, Option, Some, None, Result, Ok, Err, if◌then◌else◌}
use Rattle.sp_tree.specs.declared.token.Number.{Number}
use Rattle.sp_tree.specs.declared.fault.FaultKind.{FaultKind}
use Rattle.sp_tree.specs.declared.fault.FaultKind.TheVariants.{MalformedLiteral, LiteralPast64Bits, FloatingType, LongLong}
use Rattle.sp_lexer.specs.declared.numbers.Suffix.{Suffix}
use Rattle.sp_lexer.specs.Bytes.{is_digit, is_octal, is_hexadecimal, is_sign, is_exponent_letter, begins, front, after}

-- the value of a digit, up to f
unfoldable pub digit_value : ℕ → ℕ
digit_value b = if nat_le b 57 then b - 48 else if nat_le 97 b then b - 87 else b - 55

-- the value of digits after others of this value
abbrev pub value_after : ℕ → ℕ → List ℕ → ℕ
value_after base value [] = value
value_after base value (d ∷ ds) = value_after base (value * base + digit_value d) ds

abbrev pub value_of : ℕ → List ℕ → ℕ
value_of base digits = value_after base 0 digits

unfoldable pub is_floating_letter : ℕ → Bool
is_floating_letter b = b == 102 || b == 70 || b == 108 || b == 76

-- nothing, or the suffix of a floating constant
abbrev pub ends_floating : List ℕ → Bool
ends_floating [] = true
ends_floating (b ∷ []) = is_floating_letter b
ends_floating (b ∷ c ∷ bs) = false

abbrev pub after_sign : List ℕ → List ℕ
after_sign [] = []
after_sign (b ∷ bs) = if is_sign b then bs else b ∷ bs

-- an exponent, and the end
abbrev pub is_exponent : List ℕ → Bool
is_exponent [] = false
is_exponent (b ∷ bs) = is_exponent_letter b && begins is_digit (after_sign bs) && ends_floating (after is_digit (after_sign bs))

-- what may follow the digits of a floating constant: a point with digits and perhaps an exponent, or an exponent. The flag
-- says whether there are digits.
abbrev pub is_floating_after : Bool → List ℕ → Bool
is_floating_after digits [] = false
is_floating_after digits (b ∷ bs) =
    if b == 46
    then (digits || begins is_digit bs) && (ends_floating (after is_digit bs) || is_exponent (after is_digit bs))
    else digits && is_exponent (b ∷ bs)

-- a floating constant
abbrev pub is_floating : List ℕ → Bool
is_floating run = is_floating_after (begins is_digit run) (after is_digit run)

unfoldable pub is_u : ℕ → Bool
is_u b = b == 117 || b == 85

unfoldable pub is_l : ℕ → Bool
is_l b = b == 108 || b == 76

-- ll or LL
abbrev pub is_ll : ℕ → ℕ → Bool
is_ll a b = is_l a && a == b

abbrev pub suffix : Bool → Bool → Bool → Suffix
suffix unsigned long long_long = record { unsigned = unsigned; long = long; long_long = long_long }

-- the suffix of an integer constant
abbrev pub suffix_of : List ℕ → Option Suffix
suffix_of [] = Some (suffix false false false)
suffix_of (a ∷ []) = if is_u a then Some (suffix true false false) else if is_l a then Some (suffix false true false) else None
suffix_of (a ∷ b ∷ []) =
    if is_ll a b then Some (suffix false false true)
    else if (is_u a && is_l b) || (is_l a && is_u b) then Some (suffix true true false)
    else None
suffix_of (a ∷ b ∷ c ∷ []) = if (is_u a && is_ll b c) || (is_ll a b && is_u c) then Some (suffix true false true) else None
suffix_of (a ∷ b ∷ c ∷ d ∷ bs) = None

unfoldable pub is_x : ℕ → Bool
is_x b = b == 120 || b == 88

-- 16 after 0x or 0X, 8 after another 0, else 10
abbrev pub base_of : List ℕ → ℕ
base_of [] = 10
base_of (a ∷ []) = if a == 48 then 8 else 10
base_of (a ∷ b ∷ bs) = if a == 48 then (if is_x b then 16 else 8) else 10

-- the run without 0x or 0X
abbrev pub body_of : List ℕ → List ℕ
body_of [] = []
body_of (a ∷ []) = a ∷ []
body_of (a ∷ b ∷ bs) = if a == 48 && is_x b then bs else a ∷ b ∷ bs

unfoldable pub is_digit_in : ℕ → ℕ → Bool
is_digit_in base b = if base == 16 then is_hexadecimal b else if base == 8 then is_octal b else is_digit b

-- what digits with a suffix stand for
abbrev pub integer_of : ℕ → List ℕ → Option Suffix → Result Number FaultKind
integer_of base digits None = Err MalformedLiteral
integer_of base [] (Some s) = Err MalformedLiteral
integer_of base (d ∷ ds) (Some s) =
    if s.long_long then Err LongLong
    else if nat_lt (value_of base (d ∷ ds)) (2 ^ 64)
    then Ok (record { value = value_of base (d ∷ ds); decimal = base == 10; unsigned = s.unsigned; long = s.long })
    else Err LiteralPast64Bits

-- what a number run stands for, or the fault that it is
abbrev pub number_of : List ℕ → Result Number FaultKind
number_of run =
    if is_floating run then Err FloatingType
    else integer_of (base_of run) (front (is_digit_in (base_of run)) (body_of run)) (suffix_of (after (is_digit_in (base_of run)) (body_of run)))
