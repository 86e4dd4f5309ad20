-- Towards the law that a lowered program is formed: its regions, and its structs with pointers.
use Rattle.std.specs.Prelude.{◌≡◌, ℕ, true, List, Some, slice_get}
use Rattle.sp_types.specs.Types.{CType, function, Signature, Struct}
use Rattle.sp_types.specs.Layout.{layout}
use Rattle.sp_types.specs.Structs.{IsTable}
use Rattle.sp_types.specs.declared.extents.Extent.{Extent}
use Rattle.sp_types.specs.Programs.{Program}
use Rattle.sp_ir.specs.Programs.{Object, Lowered}
use Rattle.sp_ir.specs.Formed.{Table, table_of, HaveRegions, HasPointer}
use Rattle.sp_base_layouts.specs.Layouts.{pointers_of}
use Rattle.sp_base_layout_laws.specs.Laws.{HaveMembers}
use Rattle.sp_lower_draft.specs.Context.{has_pointer}
use Rattle.sp_lower_objects.specs.Regions.{is_function, all_regions}
use Rattle.sp_lower.specs.Programs.{IsLowering}

abbrev pub table_with : List Struct → List Object → Table
table_with ss os = record { structs = ss; objects = os }

-- functions have function type
abbrev pub HasFunctionType : Object → Type 0
HasFunctionType o = (t : CType) → is_function o.kind ≡ true → o.of ≡ Some t → (s : Signature) × (t ≡ function s)

abbrev pub HaveFunctionTypes : List Object → Type 0
HaveFunctionTypes os = (n : ℕ) (o : Object) → slice_get os n ≡ Some o → HasFunctionType o

-- the objects have the regions that they are given
abbrev pub RegionsHold : List Struct → List Object → Type 0
RegionsHold ss os = IsTable ss → HaveMembers ss → HaveFunctionTypes os
    → HaveRegions (table_with ss os) 0 os (all_regions ss 0 os)

-- what the table of structs with pointers says of a type with a layout is so
abbrev pub PointersHold : List Struct → CType → Type 0
PointersHold ss t = (os : List Object) → IsTable ss → HaveMembers ss → (e : Extent) → layout ss t ≡ Some e
    → HasPointer (table_with ss os) t (has_pointer (pointers_of ss) t)

-- a program has no two lowerings
abbrev pub LoweringsEqual : Program → List (List ℕ) → Lowered → Lowered → Type 0
LoweringsEqual p names l m = IsLowering p names l → IsLowering p names m → l ≡ m

-- those of a lowered program are those that a formed one has
abbrev pub LoweredRegionsHold : Program → List (List ℕ) → Lowered → Type 0
LoweredRegionsHold p names l = IsLowering p names l → IsTable p.structs → HaveMembers p.structs
    → HaveRegions (table_of l) 0 l.objects l.regions
