-- Which words and marks may stand where: operators with their levels, and the words of a list of specifiers (C90 6.3, 6.5.1 to 6.5.3).
use Rattle.std.specs.Prelude.{ℕ, ◌==◌, suc, zero, Bool, true, false, List, [], ◌∷◌, Option, Some, None, if◌then◌else◌, option_map}
use Rattle.std.specs.List.{list_any}
use Rattle.sp_tree.specs.declared.token.Keyword.{Keyword}
use Rattle.sp_tree.specs.declared.token.Keyword.TheVariants.{Auto, Char, Const, Double, Extern, Float, Int, Long, Register, Short, Signed, Static, Typedef, Unsigned, Void, Volatile}
use Rattle.sp_tree.specs.declared.token.Punct.{Punct}
use Rattle.sp_tree.specs.declared.token.Punct.TheVariants.{Increment, Decrement, Ampersand, Star, Plus, Minus, Tilde, Exclamation, Slash, Percent, ShiftLeft, ShiftRight, Less, Greater, LessEqual, GreaterEqual, EqualEqual, NotEqual, Caret, Bar, AndAnd, OrOr, Assign, StarAssign, SlashAssign, PercentAssign, PlusAssign, MinusAssign, ShiftLeftAssign, ShiftRightAssign, AmpersandAssign, CaretAssign, BarAssign}

-- ---- operators

-- the level of an operator between two operands, from 3 for `||` to 12 for `*`; 0 for any other mark (C90 6.3.5 to 6.3.14)
abbrev pub binary_level : Punct → ℕ
binary_level OrOr = 3
binary_level AndAnd = 4
binary_level Bar = 5
binary_level Caret = 6
binary_level Ampersand = 7
binary_level EqualEqual = 8
binary_level NotEqual = 8
binary_level Less = 9
binary_level Greater = 9
binary_level LessEqual = 9
binary_level GreaterEqual = 9
binary_level ShiftLeft = 10
binary_level ShiftRight = 10
binary_level Plus = 11
binary_level Minus = 11
binary_level Star = 12
binary_level Slash = 12
binary_level Percent = 12
binary_level _ = 0

-- `++` and `--`
abbrev pub is_step : Punct → Bool
is_step Increment = true
is_step Decrement = true
is_step _ = false

-- the operators that stand before one operand, besides `++` and `--` (C90 6.3.3)
abbrev pub is_unary : Punct → Bool
is_unary Ampersand = true
is_unary Star = true
is_unary Plus = true
is_unary Minus = true
is_unary Tilde = true
is_unary Exclamation = true
is_unary _ = false

-- the assignments (C90 6.3.16)
abbrev pub is_assignment : Punct → Bool
is_assignment Assign = true
is_assignment StarAssign = true
is_assignment SlashAssign = true
is_assignment PercentAssign = true
is_assignment PlusAssign = true
is_assignment MinusAssign = true
is_assignment ShiftLeftAssign = true
is_assignment ShiftRightAssign = true
is_assignment AmpersandAssign = true
is_assignment CaretAssign = true
is_assignment BarAssign = true
is_assignment _ = false

-- ---- words of a list of specifiers

abbrev pub is_storage : Keyword → Bool
is_storage Typedef = true
is_storage Extern = true
is_storage Static = true
is_storage Auto = true
is_storage Register = true
is_storage _ = false

abbrev pub is_typedef : Keyword → Bool
is_typedef Typedef = true
is_typedef _ = false

abbrev pub is_qualifier : Keyword → Bool
is_qualifier Const = true
is_qualifier Volatile = true
is_qualifier _ = false

-- the number of a word of a type, by which two are compared; all other words have the last
abbrev pub basic_number : Keyword → ℕ
basic_number Void = 0
basic_number Char = 1
basic_number Short = 2
basic_number Int = 3
basic_number Long = 4
basic_number Signed = 5
basic_number Unsigned = 6
basic_number Float = 7
basic_number Double = 8
basic_number _ = 9

-- the words without the first that is this one; none where it isn't among them
abbrev pub without : Keyword → List Keyword → Option (List Keyword)
without k [] = None
without k (w ∷ ws) = if basic_number k == basic_number w then Some ws else option_map (λ rest. w ∷ rest) (without k ws)

-- each of the words is among those others, as often as it is written
abbrev pub are_among : List Keyword → List Keyword → Bool
are_among [] others = true
are_among (k ∷ ks) others = elim (without k others) [ None ↦ false | Some rest ↦ are_among ks rest ]

-- the most words that a type is written with; fewer of them, in any order, are a type too (C90 6.5.2)
abbrev pub whole_types : List (List Keyword)
whole_types = (Void ∷ []) ∷ (Char ∷ Signed ∷ []) ∷ (Char ∷ Unsigned ∷ []) ∷ (Short ∷ Int ∷ Signed ∷ []) ∷ (Short ∷ Int ∷ Unsigned ∷ []) ∷ (Long ∷ Int ∷ Signed ∷ []) ∷ (Long ∷ Int ∷ Unsigned ∷ []) ∷ (Float ∷ []) ∷ (Long ∷ Double ∷ []) ∷ []

-- so many whole specifiers of a type (the name of a type, a struct, a union, an enum) and these words are one type
abbrev pub is_one_type : ℕ → List Keyword → Bool
is_one_type zero [] = false
is_one_type zero (k ∷ ks) = list_any (are_among (k ∷ ks)) whole_types
is_one_type (suc zero) [] = true
is_one_type (suc n) ks = false
