-- Which start values of an object are well typed (C90 6.5.7).
use Rattle.std.specs.Prelude.{◌≡◌, ℕ, ◌<◌, ◌≤◌, ◌-◌, ◌%◌, ◌||◌, ◌⊎◌, nat_lt, true, List, [], ◌∷◌, Option, Some, None, slice_get, All, ⊤, if◌then◌else◌}
use Rattle.sp_types.specs.Types.{CType}
use Rattle.sp_types.specs.Typed.{Typed, of}
use Rattle.sp_types.specs.Programs.{Object}
use Rattle.sp_ir.specs.Shapes.{Shape, Shapes, scalar, floating_shape, union_of, array_of, struct_of, no_shapes, next_shape, HasShape, leaf_count}
use Rattle.sp_ir.specs.Formed.{is_array, is_struct, is_scalar}
use Rattle.sp_ir.specs.Terrain.{size_of}
use Rattle.sp_check_typing.specs.Sorts.{same_value, IsStored}
use Rattle.sp_check_typing.specs.Trees.{Scene, IsTyped}
use Rattle.sp_check_typing.specs.Constants.{is_stored}

-- the type of the scalar leaf of a number; those of a union are its first member's
abbrev mutual
  pub leaf_type : Shape → ℕ → Option CType
  leaf_type (scalar t size) k = Some t
  leaf_type (floating_shape t size) k = Some t
  leaf_type (union_of size first) k = leaf_type first k
  leaf_type (array_of t size inner n) k = leaf_type inner (k % leaf_count inner)
  leaf_type (struct_of t size ms) k = member_leaf_type ms k

  pub member_leaf_type : Shapes → ℕ → Option CType
  member_leaf_type no_shapes k = None
  member_leaf_type (next_shape m ms) k =
      if nat_lt k (leaf_count m) then leaf_type m k else member_leaf_type ms (k - leaf_count m)

-- the value of a leaf of an object of this shape
pub record IsLeafValue (s : Scene) (shape : Shape) (e : ℕ × Typed) : Type 0 where
  pub low : e.0 < leaf_count shape
  pub typed : IsTyped s e.1
  pub leaf : CType
  pub there : leaf_type shape e.0 ≡ Some leaf
  pub scalar : is_scalar leaf ≡ true
  pub same : same_value (of e.1) leaf ≡ true

-- no leaf has two values
abbrev pub AreApart : List (ℕ × Typed) → Type 0
AreApart es = (i j : ℕ) (d e : ℕ × Typed) → slice_get es i ≡ Some d → slice_get es j ≡ Some e → d.0 ≡ e.0 → i ≡ j

pub record AreLeafValues (s : Scene) (t : CType) (es : List (ℕ × Typed)) : Type 0 where
  pub shape : Shape
  pub shaped : HasShape s.structs (size_of s.structs) t shape
  pub values : All (IsLeafValue s shape) es
  pub apart : AreApart es

-- one value for an object as a whole
abbrev pub IsWholeValue : Scene → CType → List (ℕ × Typed) → Type 0
IsWholeValue s t [] = ⊥
IsWholeValue s t (e ∷ es) = (es ≡ []) × IsTyped s e.1 × IsStored s.structs t × (same_value (of e.1) t ≡ true)

-- the start values of an automatic object
abbrev pub IsStarted : Scene → CType → List (ℕ × Typed) → Type 0
IsStarted s t [] = ⊤
IsStarted s t (e ∷ es) = IsWholeValue s t (e ∷ es) ⊎ (((is_array t || is_struct t) ≡ true) × AreLeafValues s t (e ∷ es))

-- start values that are known before the program runs
pub record AreKnown (s : Scene) (t : CType) (es : List (ℕ × Typed)) : Type 0 where
  pub values : AreLeafValues s t es
  pub constants : All (λ e. is_stored e.1 ≡ true) es

-- those of an object that lasts; only what is complete has them
pub record IsStaticStart (s : Scene) (o : Object) : Type 0 where
  pub sized : 1 ≤ size_of s.structs o.of
  pub known : AreKnown s o.of o.start
