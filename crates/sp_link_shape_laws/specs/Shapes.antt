-- A type of a unit has the same leaves in the program (C90 6.1.2.6, 6.5.7).
use Rattle.std.specs.Prelude.{◌≡◌, ℕ, true, List, [], Some, slice_get, slice_index_or}
use Rattle.sp_types.specs.Types.{CType, Struct}
use Rattle.sp_link_structs.specs.Matching.{Matching}
use Rattle.sp_link_structs.specs.Matched.{AreMatched}
use Rattle.sp_link_renaming.specs.Renaming.{renamed_type}
use Rattle.sp_ir.specs.Shapes.{Shape, HasShape, leaf_count}
use Rattle.sp_ir.specs.Formed.{is_scalar}
use Rattle.sp_ir.specs.Terrain.{size_of}
use Rattle.sp_check_typing.specs.Sorts.{same_value}
use Rattle.sp_check_typing.specs.Starts.{leaf_type}
use Rattle.sp_link_structs_laws.specs.Tables.{program_structs, AreTables}

-- Over these structs the type has a shape with the leaves of another one: as many, and where one is
-- an integer or a pointer, so is the one of its number.
pub record HasLeaves (structs : List Struct) (t : CType) (other : Shape) : Type 0 where
  pub shape : Shape
  pub shaped : HasShape structs (size_of structs) t shape
  pub count : leaf_count shape ≡ leaf_count other
  pub leaves : (k : ℕ) (a : CType) → leaf_type other k ≡ Some a → is_scalar a ≡ true
      → (b : CType) × (leaf_type shape k ≡ Some b) × (same_value a b ≡ true)

-- A unit's type with a shape has its leaves in the program. Of the structs that are one, the program
-- has the first; what their members point to may differ, their leaves don't.
abbrev pub LinkedTypesKeepLeaves : Type 0
LinkedTypesKeepLeaves =
    (us : List (List Struct)) (m : Matching) (u : ℕ) (ss : List Struct) (t : CType) (s : Shape)
    → AreMatched us m → AreTables us → slice_get us u ≡ Some ss → HasShape ss (size_of ss) t s
    → HasLeaves (program_structs us m) (renamed_type (slice_index_or m.numbers u []) t) s
