-- When a program has what a unit of it names (C90 6.1.2.6, 6.7).
use Rattle.std.specs.Prelude.{◌≡◌, ℕ, ◌<◌, Bool, true, is_none, List, [], ◌∷◌, length, Some, slice_get, ⊤, false}
use Rattle.sp_types.specs.declared.extents.Extent.{Extent}
use Rattle.sp_types.specs.Types.{CType, structure, Struct}
use Rattle.sp_types.specs.Layout.{layout}
use Rattle.sp_types.specs.Structs.{IsFormed}
use Rattle.sp_types.specs.Programs.{Object}
use Rattle.sp_ir.specs.Formed.{is_floating}
use Rattle.sp_link_renaming.specs.Renaming.{Renaming, number_in, renamed_type}
use Rattle.sp_check_typing.specs.Sorts.{agrees}
use Rattle.sp_check_typing.specs.Trees.{Scene}
use Rattle.sp_check_typing.specs.Refines.{MayName}

-- the same names in the same order, with types of the sorts that those of the unit have
abbrev pub AreMembers : List ℕ → List (ℕ × CType) → List (ℕ × CType) → Type 0
AreMembers ns [] [] = ⊤
AreMembers ns [] (w ∷ ws) = ⊥
AreMembers ns (m ∷ ms) [] = ⊥
AreMembers ns (m ∷ ms) (w ∷ ws) = (w.0 ≡ m.0)
    × (is_floating m.1 ≡ false → agrees w.1 (renamed_type ns m.1) ≡ true) × AreMembers ns ms ws

-- the struct of this number has them
pub record HasMembers (ns : List ℕ) (ss : List Struct) (k : ℕ) (ms : List (ℕ × CType)) : Type 0 where
  pub struct : Struct
  pub members : List (ℕ × CType)
  pub there : slice_get ss k ≡ Some struct
  pub told : struct.members ≡ Some members
  pub same : AreMembers ns ms members

-- the structs of a unit that are incomplete there; a further unit may have another for one of them
abbrev pub lacks_layout : List Struct → ℕ → Bool
lacks_layout ss k = is_none (layout ss (structure k))

-- an object of the unit, whose structs are `ss`, of the type t there, is one of the program
pub record IsObjectIn (r : Renaming) (ss : List Struct) (p : Scene) (n : ℕ) (t : CType) : Type 0 where
  pub object : Object
  pub there : slice_get p.objects (number_in r.objects n) ≡ Some object
  pub visible : p.is_visible (number_in r.objects n) ≡ true
  pub told : slice_get r.types n ≡ Some object.of
  pub named : MayName (lacks_layout ss) (number_in r.structs) t object.of
  pub formed : IsFormed p.structs object.of

-- the structs `ps` have what the unit's structs `ss` have, under the numbers `ns`
pub record StructsFollow (ns : List ℕ) (ss ps : List Struct) : Type 0 where
  pub structs : (k : ℕ) → k < length ss → number_in ns k < length ps
  pub layouts : (k : ℕ) (e : Extent) → layout ss (structure k) ≡ Some e
      → layout ps (structure (number_in ns k)) ≡ Some e
  pub members : (k : ℕ) (x : Struct) (ms : List (ℕ × CType)) → slice_get ss k ≡ Some x → x.members ≡ Some ms
      → HasMembers ns ps (number_in ns k) ms

-- the program `p` has what may be named in the unit's scene `s`
pub record Follows (r : Renaming) (s p : Scene) : Type 0 where
  pub table : StructsFollow r.structs s.structs p.structs
  pub objects : (n : ℕ) (o : Object) → slice_get s.objects n ≡ Some o → s.is_visible n ≡ true → IsObjectIn r s.structs p n o.of
  pub functions : (n : ℕ) → n < s.functions → number_in r.functions n < p.functions
