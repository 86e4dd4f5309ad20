-- The types of the parts of an object (C90 6.1.2.5), and what stands in a region.
use Rattle.std.specs.Prelude.{◌≡◌, ℕ, Bool, true, false, List, [], ◌∷◌, Option, Some, None, option_map, slice_get, ⊤}
use Rattle.sp_types.specs.Types.{CType, floating, array, structure, Struct}
use Rattle.sp_ir.specs.declared.region.Step.{Step}
use Rattle.sp_ir.specs.declared.region.Step.TheVariants.{Field, Element}
use Rattle.sp_ir.specs.Regions.{Region, child_at}

abbrev pub member_type_in : Option (List (ℕ × CType)) → ℕ → Option CType
member_type_in None k = None
member_type_in (Some ms) k = option_map (λ m. m.1) (slice_get ms k)

abbrev pub member_type : Option Struct → ℕ → Option CType
member_type None k = None
member_type (Some s) k = member_type_in s.members k

-- the type of the element of an array, or of the member of a struct or union
abbrev pub part_type : List Struct → CType → Step → Option CType
part_type ss (array t n) Element = Some t
part_type ss (structure n) (Field k) = member_type (slice_get ss n) k
part_type ss t s = None

abbrev pub part_of : List Struct → Option CType → Step → Option CType
part_of ss None s = None
part_of ss (Some t) s = part_type ss t s

-- the type to which a path leads
abbrev pub type_along : List Struct → Option CType → List Step → Option CType
type_along ss o [] = o
type_along ss o (s ∷ path) = type_along ss (part_of ss o s) path

-- every part has a region but a member of floating type
abbrev pub has_region : Step → CType → Bool
has_region (Field k) (floating f) = false
has_region s t = true

-- a region has elements of this type, or it is kept as bytes
abbrev pub Holds : Option CType → CType → Type 0
Holds None t = ⊤
Holds (Some u) t = u ≡ t

-- the region one step under this one is there, and holds the part
pub record HasPart (rs : List Region) (r : ℕ) (s : Step) (t : CType) : Type 0 where
  pub child : ℕ
  pub leads : child_at rs r s ≡ Some child
  pub region : Region
  pub there : slice_get rs child ≡ Some region
  pub holds : Holds region.element t
