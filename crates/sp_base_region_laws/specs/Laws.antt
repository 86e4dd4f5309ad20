-- The regions of a formed program are all there: no step that its commands make falls back on
-- another region.
use Rattle.std.specs.Prelude.{◌≡◌, ◌⊎◌, ℕ, true, List, [], Option, Some, None, slice_get, ⊤}
use Rattle.sp_types.specs.Types.{CType, array, structure}
use Rattle.sp_ir.specs.declared.region.Step.{Step}
use Rattle.sp_ir.specs.declared.region.Step.TheVariants.{Field, Element}
use Rattle.sp_ir.specs.Regions.{Region, number_at}
use Rattle.sp_ir.specs.Programs.{Lowered, Object}
use Rattle.sp_ir.specs.Commands.{Lvalue, field, lvalue_type}
use Rattle.sp_ir.specs.Terrain.{terrain_of}
use Rattle.sp_ir.specs.Denoted.{PointsTo, cells_of}
use Rattle.sp_ir.specs.Formed.{table_of, IsFormed, IsLvalue, is_array}
use Rattle.sp_base_sets.specs.Sets.{has}
use Rattle.sp_base_region_laws.specs.Parts.{part_type, has_region, Holds, HasPart}

-- an object's own region
pub record HasRoot (p : Lowered) (n : ℕ) (o : Object) : Type 0 where
  pub root : ℕ
  pub leads : number_at p.regions n [] ≡ Some root
  pub region : Region
  pub there : slice_get p.regions root ≡ Some region
  pub holds : (t : CType) → o.of ≡ Some t → Holds region.element t

-- elements of the second type have the parts of the first: both are one struct, or both are arrays
abbrev pub Alike : CType → CType → Type 0
Alike (structure n) u = u ≡ structure n
Alike (array t n) u = is_array u ≡ true
Alike t u = ⊤

abbrev pub StandsFor : Option CType → CType → Type 0
StandsFor None t = ⊤
StandsFor (Some u) t = Alike t u

-- the region is there, and is kept as bytes or has the parts of the type
pub record Stands (rs : List Region) (r : ℕ) (t : CType) : Type 0 where
  pub region : Region
  pub there : slice_get rs r ≡ Some region
  pub stands : StandsFor region.element t

pub record RegionsAreThere (p : Lowered) : Type 0 where
  -- each object has its own region
  pub roots : (n : ℕ) (o : Object) → slice_get p.objects n ≡ Some o → HasRoot p n o
  -- each part of what a region holds has one, but a member of floating type
  pub parts : (r : ℕ) (q : Region) (t u : CType) (s : Step) → slice_get p.regions r ≡ Some q
      → q.element ≡ Some t → part_type p.structs t s ≡ Some u → has_region s u ≡ true
      → HasPart p.regions r s u
  -- so does wherever an lvalue may be
  pub lvalues : (f : Option ℕ) (l : Lvalue) → IsLvalue (table_of p) f l
      → (points : PointsTo) (r : ℕ) → has r (cells_of (terrain_of p) points l) ≡ true
      → Stands p.regions r (lvalue_type l)
  -- and each step from there, to a member and to an element
  pub members : (f : Option ℕ) (l : Lvalue) (k : ℕ) (t : CType)
      → IsLvalue (table_of p) f (field l k t) → (points : PointsTo) (r : ℕ)
      → has r (cells_of (terrain_of p) points l) ≡ true
      → (q : Region) → slice_get p.regions r ≡ Some q
      → (q.element ≡ None) ⊎ HasPart p.regions r (Field k) t
  pub elements : (f : Option ℕ) (l : Lvalue) → IsLvalue (table_of p) f l
      → is_array (lvalue_type l) ≡ true → (points : PointsTo) (r : ℕ)
      → has r (cells_of (terrain_of p) points l) ≡ true
      → (q : Region) → slice_get p.regions r ≡ Some q
      → (q.element ≡ None) ⊎ ((t : CType) × HasPart p.regions r Element t)

abbrev pub RegionLaws : Type 0
RegionLaws = (p : Lowered) → IsFormed p → RegionsAreThere p
