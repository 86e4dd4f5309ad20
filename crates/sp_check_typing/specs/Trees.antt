-- Which typed trees are well typed (C90 6.3): each operand has a type of the sort that its operator
-- takes, conversions are written out, and what is named is there. The checks give more than this:
-- it is what lowering asks.
use Rattle.std.specs.Prelude.{◌≡◌, ℕ, ◌<◌, ◌≤◌, ◌==◌, ◌||◌, ◌⊎◌, Bool, true, false, pos, ℤ, List, [], ◌∷◌, Some, slice_get, ⊤}
use Rattle.sp_tree.specs.declared.token.Punct.{Punct}
use Rattle.sp_tree.specs.declared.token.Punct.TheVariants.{Ampersand, Star, Exclamation, Increment, Decrement, Plus, Minus, Tilde, Less, LessEqual, Greater, GreaterEqual, EqualEqual, NotEqual, AndAnd, OrOr, Assign}
use Rattle.sp_types.specs.Types.{CType, void, integer, pointer, structure, Struct}
use Rattle.sp_types.specs.Structs.{IsFormed}
use Rattle.sp_types.specs.Compatible.{convertible}
use Rattle.sp_types.specs.Typed.{Typed, typed, TypedForm, TypedList, no_typed, next_typed, of}
use Rattle.sp_types.specs.Typed as tree
use Rattle.sp_types.specs.Programs.{Object}
use Rattle.sp_ir.specs.Formed.{InKind, is_integer, is_pointer, is_array, is_struct, is_scalar, is_floating, is_operator}
use Rattle.sp_ir.specs.Terrain.{size_of}
use Rattle.sp_check_typing.specs.Refines.{Tells}
use Rattle.sp_check_typing.specs.Sorts.{is_function, agrees, same_value, IsExact, IsSized, IsStored, IsStepped, IsKnown}

-- What a tree may name: objects, of which a local one is visible in its own function alone, and
-- functions, of which there are so many.
pub record Scene : Type 0 where
  pub structs : List Struct
  pub objects : List Object
  pub functions : ℕ
  pub is_visible : ℕ → Bool

-- the object of this number, which may be named with the tree's type
pub record Names (s : Scene) (n : ℕ) (t : CType) : Type 0 where
  pub object : Object
  pub there : slice_get s.objects n ≡ Some object
  pub visible : s.is_visible n ≡ true
  pub told : Tells object.of t

-- ---- lvalues

-- it designates an object or a function, or it is a struct, which has a place too (C90 6.2.2.1)
abbrev mutual
  pub has_place : Typed → Bool
  has_place (typed f t p m) = form_has_place t f

  pub form_has_place : CType → TypedForm → Bool
  form_has_place t (tree.object n) = true
  form_has_place t (tree.function n) = true
  form_has_place t (tree.index a b) = true
  form_has_place t (tree.member a n) = true
  form_has_place t (tree.arrow a n) = true
  form_has_place t (tree.unary Star a) = true
  form_has_place t (tree.comma a b) = has_place b
  form_has_place t f = is_struct t

-- ---- members (C90 6.3.2.3)

-- the first member of this name has a type of this sort
abbrev pub HasMemberIn : List (ℕ × CType) → ℕ → CType → Type 0
HasMemberIn [] name t = ⊥
HasMemberIn (m ∷ ms) name t =
    (((m.0 == name) ≡ true) × (agrees m.1 t ≡ true)) ⊎ (((m.0 == name) ≡ false) × HasMemberIn ms name t)

abbrev pub HasMember : List Struct → CType → ℕ → CType → Type 0
HasMember ss (structure k) name t = (1 ≤ size_of ss (structure k))
    × ((s : Struct) × (ms : List (ℕ × CType)) × (slice_get ss k ≡ Some s) × (s.members ≡ Some ms) × HasMemberIn ms name t)
HasMember ss of name t = ⊥

abbrev pub PointsToMember : List Struct → CType → ℕ → CType → Type 0
PointsToMember ss (pointer u) name t = HasMember ss u name t
PointsToMember ss of name t = ⊥

-- ---- operators

-- a pointer and an integer (C90 6.3.2.1)
abbrev pub IsIndex : List Struct → CType → CType → Type 0
IsIndex ss (pointer u) (integer k) = IsSized ss u
IsIndex ss (integer k) (pointer u) = IsSized ss u
IsIndex ss a b = ⊥

-- C90 6.3.6
abbrev pub IsSum : List Struct → CType → CType → CType → Type 0
IsSum ss (integer j) (integer k) t = is_integer t ≡ true
IsSum ss (pointer u) (integer k) t = IsSized ss u × (is_pointer t ≡ true)
IsSum ss (integer k) (pointer u) t = IsSized ss u × (is_pointer t ≡ true)
IsSum ss a b t = ⊥

abbrev pub IsDifference : List Struct → CType → CType → CType → Type 0
IsDifference ss (integer j) (integer k) t = is_integer t ≡ true
IsDifference ss (pointer u) (integer k) t = IsSized ss u × (is_pointer t ≡ true)
IsDifference ss (pointer u) (pointer v) t = IsSized ss u × (is_integer t ≡ true)
IsDifference ss a b t = ⊥

-- two integers or pointers give an integer
abbrev pub AreCompared : CType → CType → CType → Type 0
AreCompared a b t = (is_scalar a ≡ true) × (is_scalar b ≡ true) × (is_integer t ≡ true)

-- two integers give one
abbrev pub AreIntegers : CType → CType → CType → Type 0
AreIntegers a b t = (is_integer a ≡ true) × (is_integer b ≡ true) × (is_integer t ≡ true)

-- C90 6.3.5 to 6.3.14
abbrev pub IsBinary : List Struct → Punct → CType → CType → CType → Type 0
IsBinary ss Plus a b t = IsSum ss a b t
IsBinary ss Minus a b t = IsDifference ss a b t
IsBinary ss Less a b t = AreCompared a b t
IsBinary ss LessEqual a b t = AreCompared a b t
IsBinary ss Greater a b t = AreCompared a b t
IsBinary ss GreaterEqual a b t = AreCompared a b t
IsBinary ss EqualEqual a b t = AreCompared a b t
IsBinary ss NotEqual a b t = AreCompared a b t
IsBinary ss AndAnd a b t = AreCompared a b t
IsBinary ss OrOr a b t = AreCompared a b t
IsBinary ss op a b t = (is_operator op ≡ true) × AreIntegers a b t

-- a step of the object a (C90 6.3.2.4, 6.3.3.1)
abbrev pub IsStep : List Struct → Typed → CType → Type 0
IsStep ss a t = (has_place a ≡ true) × (same_value (of a) t ≡ true) × IsStepped ss t

-- the operand is promoted to the type of the whole (C90 6.3.3.3)
abbrev pub IsSigned : CType → CType → Type 0
IsSigned a t = (is_integer a ≡ true) × (is_integer t ≡ true) × (a ≡ t)

-- C90 6.3.3
abbrev pub IsUnary : List Struct → Punct → Typed → CType → Type 0
IsUnary ss Ampersand a t = (has_place a ≡ true) × (is_pointer t ≡ true)
IsUnary ss Star a t = is_pointer (of a) ≡ true
IsUnary ss Exclamation a t = (is_scalar (of a) ≡ true) × (is_integer t ≡ true)
IsUnary ss Increment a t = IsStep ss a t
IsUnary ss Decrement a t = IsStep ss a t
IsUnary ss Plus a t = IsSigned (of a) t
IsUnary ss Minus a t = IsSigned (of a) t
IsUnary ss Tilde a t = IsSigned (of a) t
IsUnary ss op a t = ⊥

-- anything to void, else the values convert (C90 6.3.4)
abbrev pub Converts : CType → CType → Type 0
Converts a void = ⊤
Converts a t = convertible a t ≡ true

-- the second and third operand go to an object of the type of the whole; integers are converted to
-- it (C90 6.3.15)
abbrev pub IsChoice : List Struct → CType → CType → CType → Type 0
IsChoice ss void a b = ⊤
IsChoice ss t a b = IsStored ss t × (same_value a t ≡ true) × (same_value b t ≡ true) × IsExact t a × IsExact t b

-- the right side of an assignment to an object of the type t (C90 6.3.16)
abbrev pub IsAssigned : List Struct → Punct → CType → CType → Type 0
IsAssigned ss Assign t b = same_value b t ≡ true
IsAssigned ss op t b = IsStepped ss t × (is_integer b ≡ true)

-- what a call gives (C90 6.3.2.2)
abbrev pub IsCalled : List Struct → CType → Type 0
IsCalled ss void = ⊤
IsCalled ss t = IsStored ss t

-- the number is one of the type
abbrev pub IsNumber : CType → ℤ → Type 0
IsNumber (integer k) z = InKind k z
IsNumber t z = ⊥

-- ---- trees

abbrev mutual
  pub IsTyped : Scene → Typed → Type 0
  IsTyped s (typed f t p m) = (is_floating t ≡ false) × IsFormed s.structs t × IsForm s t f

  -- a form of an expression of the type t
  pub IsForm : Scene → CType → TypedForm → Type 0
  IsForm s t (tree.number n) = IsNumber t (pos n.value)
  IsForm s t (tree.character z) = IsNumber t z
  IsForm s t (tree.constant z) = IsNumber t z
  IsForm s t (tree.object n) = Names s n t
  IsForm s t (tree.function n) = (is_function t ≡ true) × (n < s.functions)
  IsForm s t (tree.convert a) = IsTyped s a × Converts (of a) t × IsKnown s.structs t
  IsForm s t (tree.decay a) = IsTyped s a × (has_place a ≡ true)
      × ((is_array (of a) || is_function (of a)) ≡ true) × (is_pointer t ≡ true)
  IsForm s t (tree.index a b) = IsTyped s a × IsTyped s b × IsIndex s.structs (of a) (of b)
      × (1 ≤ size_of s.structs t)
  IsForm s t (tree.call f es) = IsTyped s f × (is_pointer (of f) ≡ true) × AreArguments s es
      × IsCalled s.structs t
  IsForm s t (tree.member a n) = IsTyped s a × HasMember s.structs (of a) n t
  IsForm s t (tree.arrow a n) = IsTyped s a × PointsToMember s.structs (of a) n t
  IsForm s t (tree.after op a) = IsTyped s a × IsStep s.structs a t
  IsForm s t (tree.unary op a) = IsTyped s a × IsUnary s.structs op a t
  IsForm s t (tree.cast a) = IsTyped s a × Converts (of a) t × IsKnown s.structs t
  IsForm s t (tree.binary op a b) = IsTyped s a × IsTyped s b × IsBinary s.structs op (of a) (of b) t
  IsForm s t (tree.choice a b d) = IsTyped s a × IsTyped s b × IsTyped s d
      × (is_scalar (of a) ≡ true) × IsChoice s.structs t (of b) (of d)
  IsForm s t (tree.assign op a b) = IsTyped s a × IsTyped s b × (has_place a ≡ true)
      × IsStored s.structs t × (same_value (of a) t ≡ true) × IsAssigned s.structs op t (of b)
  IsForm s t (tree.comma a b) = IsTyped s a × IsTyped s b × (agrees (of b) t ≡ true)
      × IsKnown s.structs t

  -- arguments are values
  pub AreArguments : Scene → TypedList → Type 0
  AreArguments s no_typed = ⊤
  AreArguments s (next_typed e es) = IsTyped s e × IsStored s.structs (of e) × AreArguments s es
