-- What the operators take, and to which types they convert their operands (C90 6.3).
use Rattle.std.specs.Prelude.{Bool, true, false, not, ◌&&◌, ◌||◌, ◌==◌, List, Option, Some, None, if◌then◌else◌}
use Rattle.sp_tree.specs.declared.token.Punct.{Punct}
use Rattle.sp_tree.specs.declared.token.Punct.TheVariants.{Plus, Minus, ShiftLeft, ShiftRight, Less, Greater, LessEqual, GreaterEqual, EqualEqual, NotEqual, AndAnd, OrOr, PlusAssign, MinusAssign, ShiftLeftAssign, ShiftRightAssign}
use Rattle.sp_types.specs.declared.ctype.IntKind.TheVariants.{Int, Long}
use Rattle.sp_types.specs.Types.{CType, void, integer, pointer, structure, Struct}
use Rattle.sp_types.specs.Arithmetic.{promoted_kind, common_kind}
use Rattle.sp_types.specs.Compatible.{compatible}
use Rattle.sp_check_operands.specs.Conversions.{is_scalar, is_object, is_void, is_complete}

-- the types that two operands are converted to, and the type of the whole
pub record Balance : Type 0 where
  pub left : CType
  pub right : CType
  pub result : CType

abbrev pub balance : CType → CType → CType → Option Balance
balance l r t = Some (record { left = l; right = r; result = t })

abbrev pub int : CType
int = integer Int

-- 6.3.5, 6.3.10 to 6.3.12: two integers, by the usual arithmetic conversions
abbrev pub integers : CType → CType → Option Balance
integers (integer a) (integer b) = balance (integer (common_kind a b)) (integer (common_kind a b)) (integer (common_kind a b))
integers _ _ = None

-- 6.3.6: two integers, or a pointer to an object type and an integer
abbrev pub sum : CType → CType → Option Balance
sum (pointer t) (integer k) = if is_object t then balance (pointer t) (integer k) (pointer t) else None
sum (integer k) (pointer t) = if is_object t then balance (integer k) (pointer t) (pointer t) else None
sum a b = integers a b

-- 6.3.6: besides, two pointers to compatible object types
abbrev pub difference : CType → CType → Option Balance
difference (pointer t) (integer k) = if is_object t then balance (pointer t) (integer k) (pointer t) else None
difference (pointer t) (pointer u) = if is_object t && compatible t u then balance (pointer t) (pointer u) (integer Long) else None
difference a b = integers a b

-- 6.3.7: two integers, each promoted; the left one gives the type
abbrev pub shift : CType → CType → Option Balance
shift (integer a) (integer b) = balance (integer (promoted_kind a)) (integer (promoted_kind b)) (integer (promoted_kind a))
shift _ _ = None

-- 6.3.8: two integers or two pointers
abbrev pub relation : CType → CType → Option Balance
relation (integer a) (integer b) = balance (integer (common_kind a b)) (integer (common_kind a b)) int
relation (pointer t) (pointer u) = balance (pointer t) (pointer u) int
relation _ _ = None

-- 6.3.9: besides, a pointer and an integer, which takes the pointer's type; where one of two pointers points to void, the other is
-- converted to it
abbrev pub equality : CType → CType → Option Balance
equality (pointer void) (pointer u) = balance (pointer void) (pointer void) int
equality (pointer t) (pointer void) = balance (pointer void) (pointer void) int
equality (pointer t) (integer k) = balance (pointer t) (pointer t) int
equality (integer k) (pointer t) = balance (pointer t) (pointer t) int
equality a b = relation a b

-- 6.3.13, 6.3.14: two scalars
abbrev pub logical : CType → CType → Option Balance
logical a b = if is_scalar a && is_scalar b then balance a b int else None

abbrev pub binary_balance : Punct → CType → CType → Option Balance
binary_balance Plus a b = sum a b
binary_balance Minus a b = difference a b
binary_balance ShiftLeft a b = shift a b
binary_balance ShiftRight a b = shift a b
binary_balance Less a b = relation a b
binary_balance Greater a b = relation a b
binary_balance LessEqual a b = relation a b
binary_balance GreaterEqual a b = relation a b
binary_balance EqualEqual a b = equality a b
binary_balance NotEqual a b = equality a b
binary_balance AndAnd a b = logical a b
binary_balance OrOr a b = logical a b
binary_balance _ a b = integers a b

-- a pointer that is moved points to a complete type
abbrev pub can_move : List Struct → CType → Bool
can_move ss (pointer t) = is_complete ss t
can_move ss _ = true

abbrev pub moves : Punct → Bool
moves Plus = true
moves Minus = true
moves PlusAssign = true
moves MinusAssign = true
moves _ = false

abbrev pub are_moved_whole : List Struct → Punct → CType → CType → Bool
are_moved_whole ss op a b = not (moves op) || can_move ss a && can_move ss b

-- 6.3.15, the type of the whole: two integers; a pointer and an integer; two pointers, of which a null pointer constant takes the
-- type of the other, else one to void gives it, else the first; one struct twice; void twice
abbrev pub pointers_type : Bool → Bool → CType → CType → CType
pointers_type true false t u = pointer u
pointers_type false true t u = pointer t
pointers_type _ _ t u = if is_void t || is_void u then pointer void else pointer t

abbrev pub choice_type : Bool → Bool → CType → CType → Option CType
choice_type left_null right_null (integer a) (integer b) = Some (integer (common_kind a b))
choice_type left_null right_null (pointer t) (integer k) = Some (pointer t)
choice_type left_null right_null (integer k) (pointer t) = Some (pointer t)
choice_type left_null right_null (pointer t) (pointer u) = Some (pointers_type left_null right_null t u)
choice_type left_null right_null (structure a) (structure b) = if a == b then Some (structure a) else None
choice_type left_null right_null void void = Some void
choice_type left_null right_null _ _ = None

-- 6.3.2.1: a pointer and an integer
abbrev pub element_type : CType → CType → Option CType
element_type (pointer t) (integer k) = Some t
element_type (integer k) (pointer t) = Some t
element_type _ _ = None

-- 6.3.16.2: to which type the right side of an assignment with an operator is converted
abbrev pub compound_type : Punct → CType → CType → Option CType
compound_type ShiftLeftAssign (integer a) (integer b) = Some (integer (promoted_kind b))
compound_type ShiftRightAssign (integer a) (integer b) = Some (integer (promoted_kind b))
compound_type PlusAssign (pointer t) (integer b) = if is_object t then Some (integer b) else None
compound_type MinusAssign (pointer t) (integer b) = if is_object t then Some (integer b) else None
compound_type _ (integer a) (integer b) = Some (integer (common_kind a b))
compound_type _ _ _ = None
