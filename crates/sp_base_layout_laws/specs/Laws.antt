-- What the shape of a type is, in the words of formed programs.
use Rattle.std.specs.Prelude.{◌≡◌, ◌≢◌, ℕ, List, [], Some, slice_get}
use Rattle.sp_types.specs.Types.{CType, Struct}
use Rattle.sp_types.specs.Layout.{layout}
use Rattle.sp_types.specs.Structs.{IsTable}
use Rattle.sp_types.specs.declared.extents.Extent.{Extent}
use Rattle.sp_ir.specs.Shapes.{HasShape}
use Rattle.sp_ir.specs.Terrain.{size_of}
use Rattle.sp_base_layouts.specs.Layouts.{layout_of}

-- a struct or union that is complete has a member (C90 6.5.2.1)
abbrev pub HaveMembers : List Struct → Type 0
HaveMembers ss = (k : ℕ) (s : Struct) → slice_get ss k ≡ Some s → s.members ≢ Some []

-- a type with a layout has its shape
abbrev pub IsShaped : List Struct → CType → Type 0
IsShaped ss t = IsTable ss → HaveMembers ss → (e : Extent) → layout ss t ≡ Some e
    → HasShape ss (size_of ss) t (layout_of ss t)
