-- How a report names regions and locations: an object's name, then a step for each member and for
-- the elements of an array.
use Rattle.std.specs.Prelude.{ℕ, List, [], ◌∷◌, ◌++◌, codes, Option, Some, None, option_map, slice_get}
use Rattle.sp_types.specs.Types.{CType, array, structure, Struct}
use Rattle.sp_ir.specs.declared.region.Step.{Step}
use Rattle.sp_ir.specs.declared.region.Step.TheVariants.{Field, Element}
use Rattle.sp_ir.specs.Regions.{Region}
use Rattle.sp_ir.specs.Programs.{Object, Lowered}
use Rattle.sp_report.specs.Texts.{name_of}

-- ---- types below types (C90 6.5.2.1, 6.5.4.2)

-- a member of a struct that may be there: the number of its name, and its type
abbrev pub member_among : Option (List (ℕ × CType)) → ℕ → Option (ℕ × CType)
member_among None k = None
member_among (Some members) k = slice_get members k

abbrev pub member_in : Option Struct → ℕ → Option (ℕ × CType)
member_in None k = None
member_in (Some d) k = member_among d.members k

abbrev pub member_at : List Struct → Option CType → ℕ → Option (ℕ × CType)
member_at structs (Some (structure n)) k = member_in (slice_get structs n) k
member_at structs t k = None

abbrev pub element_of : Option CType → Option CType
element_of (Some (array t n)) = Some t
element_of t = None

abbrev pub type_below : List Struct → Option CType → Step → Option CType
type_below structs t (Field k) = option_map (λ m. m.1) (member_at structs t k)
type_below structs t Element = element_of t

-- ---- texts

module _ (names : List (List ℕ)) where
  abbrev pub member_name : Option (ℕ × CType) → List ℕ
  member_name None = []
  member_name (Some m) = name_of (slice_get names m.0)

  abbrev pub step_text : List Struct → Option CType → Step → List ℕ
  step_text structs t (Field k) = codes "." ++ member_name (member_at structs t k)
  step_text structs t Element = codes "[]"

  -- the steps from a part of this type on
  abbrev pub path_text : List Struct → Option CType → List Step → List ℕ
  path_text structs t [] = []
  path_text structs t (s ∷ ss) =
      step_text structs t s ++ path_text structs (type_below structs t s) ss

  abbrev pub object_text : List Struct → Option Object → List Step → List ℕ
  object_text structs None path = []
  object_text structs (Some o) path = o.name ++ path_text structs o.of path

  abbrev pub region_text : Lowered → Option Region → List ℕ
  region_text p None = []
  region_text p (Some r) = object_text p.structs (slice_get p.objects r.object) r.path

  abbrev pub region_name : Lowered → ℕ → List ℕ
  region_name p r = region_text p (slice_get p.regions r)

  -- the region of a location
  abbrev pub cell_text : Lowered → Option ℕ → List ℕ
  cell_text p None = []
  cell_text p (Some r) = region_name p r

  abbrev pub location_name : Lowered → List ℕ → ℕ → List ℕ
  location_name p cells l = cell_text p (slice_get cells l)
