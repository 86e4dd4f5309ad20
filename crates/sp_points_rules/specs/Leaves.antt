-- Which regions have a leaf that is a pointer. A union's leaves are those of its first member.
use Rattle.std.specs.Prelude.{ℕ, Bool, false, List, Option, Some, None, slice_get}
use Rattle.sp_types.specs.Types.{CType, Struct}
use Rattle.sp_ir.specs.Regions.{Region}
use Rattle.sp_ir.specs.Programs.{Lowered, Object}
use Rattle.sp_ir.specs.Formed.{points}
use Rattle.sp_base_layouts.specs.Layouts.{layout_of}
use Rattle.sp_base_region_laws.specs.Parts.{type_along}

abbrev pub type_in : Option Object → Option CType
type_in None = None
type_in (Some o) = o.of

abbrev pub type_from : Lowered → Option Region → Option CType
type_from p None = None
type_from p (Some r) = type_along p.structs (type_in (slice_get p.objects r.object)) r.path

-- the type that stands at a region: that of its object, followed along its path
abbrev pub type_at : Lowered → ℕ → Option CType
type_at p r = type_from p (slice_get p.regions r)

abbrev pub any_points : List Struct → Option CType → Bool
any_points ss None = false
any_points ss (Some t) = points (layout_of ss t)

-- a leaf of the type that stands at a region is a pointer
abbrev pub leaf_points : Lowered → ℕ → Bool
leaf_points p r = any_points p.structs (type_at p r)
