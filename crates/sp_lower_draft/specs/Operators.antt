-- What operators do, as lowering tells them apart.
use Rattle.std.specs.Prelude.{Bool, true, false, Option, Some, None}
use Rattle.sp_tree.specs.declared.token.Punct.{Punct}
use Rattle.sp_tree.specs.declared.token.Punct.TheVariants.{Increment, Decrement, Ampersand, Star, Plus, Minus, Exclamation, Slash, Percent, ShiftLeft, ShiftRight, Less, LessEqual, Greater, GreaterEqual, EqualEqual, NotEqual, Caret, Bar, AndAnd, OrOr, Assign, StarAssign, SlashAssign, PercentAssign, PlusAssign, MinusAssign, ShiftLeftAssign, ShiftRightAssign, AmpersandAssign, CaretAssign, BarAssign}
use Rattle.sp_types.specs.declared.ctype.IntKind.{IntKind}
use Rattle.sp_types.specs.declared.ctype.IntKind.TheVariants.{Char, SChar, UChar, Short, UShort, Int, UInt, Long, ULong}
use Rattle.sp_lower_draft.specs.declared.operators.Prefix.{Prefix}
use Rattle.sp_lower_draft.specs.declared.operators.Prefix.TheVariants.{Address, Pointee, Negation, Step, Sign}
use Rattle.sp_lower_draft.specs.declared.operators.Circuit.{Circuit}
use Rattle.sp_lower_draft.specs.declared.operators.Circuit.TheVariants.{And, Or}

-- an operator before its operand (C90 6.3.3)
abbrev pub prefix_of : Punct → Prefix
prefix_of Ampersand = Address
prefix_of Star = Pointee
prefix_of Exclamation = Negation
prefix_of Increment = Step
prefix_of Decrement = Step
prefix_of p = Sign

-- the operators that may leave their second operand out (C90 6.3.13, 6.3.14)
abbrev pub circuit_of : Punct → Option Circuit
circuit_of AndAnd = Some And
circuit_of OrOr = Some Or
circuit_of p = None

abbrev pub is_plain_assign : Punct → Bool
is_plain_assign Assign = true
is_plain_assign p = false

abbrev pub is_shift : Punct → Bool
is_shift ShiftLeft = true
is_shift ShiftRight = true
is_shift p = false

abbrev pub is_minus : Punct → Bool
is_minus Minus = true
is_minus p = false

-- the operator of `op=`, `++` and `--` (C90 6.3.16.2)
abbrev pub operator_of : Punct → Punct
operator_of StarAssign = Star
operator_of SlashAssign = Slash
operator_of PercentAssign = Percent
operator_of PlusAssign = Plus
operator_of ShiftLeftAssign = ShiftLeft
operator_of ShiftRightAssign = ShiftRight
operator_of AmpersandAssign = Ampersand
operator_of CaretAssign = Caret
operator_of BarAssign = Bar
operator_of Increment = Plus
operator_of p = Minus

abbrev pub same_kind : IntKind → IntKind → Bool
same_kind Char Char = true
same_kind SChar SChar = true
same_kind UChar UChar = true
same_kind Short Short = true
same_kind UShort UShort = true
same_kind Int Int = true
same_kind UInt UInt = true
same_kind Long Long = true
same_kind ULong ULong = true
same_kind k j = false
