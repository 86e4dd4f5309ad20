-- The regions of objects.
use Rattle.std.specs.Prelude.{ℕ, ◌+◌, ◌==◌, ◌||◌, Bool, true, false, List, [], ◌∷◌, ◌++◌, Option, Some, None, if◌then◌else◌}
use Rattle.sp_types.specs.Types.{CType, Struct}
use Rattle.sp_ir.specs.declared.program.ObjectKind.{ObjectKind}
use Rattle.sp_ir.specs.declared.program.ObjectKind.TheVariants.{Function}
use Rattle.sp_ir.specs.Programs.{Object}
use Rattle.sp_ir.specs.Regions.{Region}
use Rattle.sp_ir.specs.Shapes.{region, regions, region_count}
use Rattle.sp_ir.specs.Formed.{root_count}
use Rattle.sp_ir.specs.Terrain.{size_of}
use Rattle.sp_base_layouts.specs.Layouts.{layout_of}

-- of the object n of this type, which isn't a function; without a layout it is kept as bytes
abbrev pub typed_regions : List Struct → ℕ → Option ℕ → CType → List Region
typed_regions ss n count t =
    if size_of ss t == 0 then region n [] None 1 (Some 0) ∷ []
    else regions n [] count (layout_of ss t)

abbrev pub is_function : ObjectKind → Bool
is_function (Function k) = true
is_function kind = false

-- a function is one region
abbrev pub kind_regions : List Struct → ℕ → ObjectKind → CType → List Region
kind_regions ss n kind t =
    if is_function kind then region n [] (Some t) 1 (Some 1) ∷ []
    else typed_regions ss n (root_count kind) t

-- a site without a type is kept as bytes
abbrev pub object_regions : List Struct → ℕ → ObjectKind → Option CType → List Region
object_regions ss n kind None = region n [] None 1 None ∷ []
object_regions ss n kind (Some t) = kind_regions ss n kind t

-- of the objects from the number n on
abbrev pub all_regions : List Struct → ℕ → List Object → List Region
all_regions ss n [] = []
all_regions ss n (o ∷ os) = object_regions ss n o.kind o.of ++ all_regions ss (n + 1) os

-- ---- how many there are

-- the most that a program may have
abbrev pub most_regions : ℕ
most_regions = 200000

abbrev pub kind_count : List Struct → ObjectKind → Option CType → ℕ
kind_count ss kind None = 1
kind_count ss kind (Some t) =
    if is_function kind || (size_of ss t == 0) then 1 else region_count (layout_of ss t)

abbrev pub all_counts : List Struct → List Object → ℕ
all_counts ss [] = 0
all_counts ss (o ∷ os) = kind_count ss o.kind o.of + all_counts ss os
