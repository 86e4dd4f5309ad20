-- Where the start values of the objects of a program go. Their regions stand before those of
-- functions and of all that lowering makes.
use Rattle.std.specs.Prelude.{ℕ, ◌+◌, ◌==◌, ◌||◌, nat_lt, Bool, List, [], ◌∷◌, if◌then◌else◌}
use Rattle.sp_types.specs.Types.{CType, Struct}
use Rattle.sp_types.specs.Programs.{Object}
use Rattle.sp_ir.specs.Shapes.{region_count}
use Rattle.sp_ir.specs.Terrain.{size_of}
use Rattle.sp_base_layouts.specs.Layouts.{layout_of}
use Rattle.sp_base_layouts.specs.Leaves.{start_cells, zero_cells}
use Rattle.sp_lower_body.specs.Frames.{Initial}
use Rattle.sp_lower_objects.specs.Regions.{most_regions}

-- how many regions an object of the program has; one without a layout has one
abbrev pub object_region_count : List Struct → CType → ℕ
object_region_count ss t = if size_of ss t == 0 then 1 else region_count (layout_of ss t)

-- an object of this type has a region past the limit, where its root is this region
abbrev pub is_past : List Struct → ℕ → CType → Bool
is_past ss root t = nat_lt most_regions (root + object_region_count ss t)

abbrev pub no_cells : Initial
no_cells = record { cells = []; zero = [] }

abbrev pub all_cells : List Struct → ℕ → Object → Initial
all_cells ss root o = record {
  cells = start_cells (layout_of ss o.of) root o.start;
  zero = zero_cells (layout_of ss o.of) root o.start;
}

-- Of an object whose root is this region. A program with an object past the limit is refused, so
-- that object's values go nowhere.
abbrev pub initial_at : List Struct → ℕ → Object → Initial
initial_at ss root o =
    if (size_of ss o.of == 0) || is_past ss root o.of then no_cells else all_cells ss root o

-- of objects whose first root is this region
abbrev pub initials_from : List Struct → ℕ → List Object → List Initial
initials_from ss root [] = []
initials_from ss root (o ∷ os) =
    initial_at ss root o ∷ initials_from ss (root + object_region_count ss o.of) os
