-- Definitions and uses by parts: sets that grow, the regions that a command reads, and what it may
-- keep of what it defines.
use Rattle.std.specs.Prelude.{◌≡◌, ℕ, nat_eq, Bool, true, false, not, ◌&&◌, ◌||◌, List, [], ◌++◌, Option, Some, None, flat_map}
use Rattle.std.specs.List.{list_any}
use Rattle.sp_lattice.specs.System.{has}
use Rattle.sp_ir.specs.Commands.{Expression, Lvalue, Command, start, entry, exit, skip, assign, copy, init, assume, eval, call, return, library, outside}
use Rattle.sp_ir.specs.Terrain.{terrain_of}
use Rattle.sp_ir.specs.Denoted.{cells_of, uses_of, pointer_uses}
use Rattle.sp_effect_rows.specs.Setting.{cell_of}
use Rattle.sp_effect_rows.specs.Storing.{may_hit}
use Rattle.sp_effect_assign.specs.Destinations.{assigned_reads, is_direct, bottom_regions, bottom_accepts, region_under}
use Rattle.sp_effect_assume.specs.Conditions.{assumed_reads}
use Rattle.sp_effect_scene.specs.Analysed.{Analysed, setting_of, scene_of, is_summary}
use Rattle.sp_effect_entry.specs.Initials.{is_shared, leaf_reads}
use Rattle.sp_effect_call.specs.Copies.{struct_reads, arguments_read, result_found}
use Rattle.sp_effect_call.specs.Returns.{result_reads}
use Rattle.sp_effect_library.specs.declared.written.Written.{Written}
use Rattle.sp_effect_library.specs.Written.{written_by, argument_regions, aim_regions}
use Rattle.sp_effect_library.specs.Effects.{written_to, library_reads}

-- a set gained exactly the numbers that pass a test
abbrev pub Adds : (ℕ → Bool) → List ℕ → List ℕ → Type 0
Adds test old new = (r : ℕ) → has r new ≡ (has r old || test r)

abbrev pub among : List ℕ → ℕ → Bool
among xs r = has r xs

-- where an lvalue stands, and what is read to find a value and an lvalue
abbrev pub stands_at : Analysed → Lvalue → List ℕ
stands_at a l = cells_of (terrain_of a.program) (setting_of a).points_to l

abbrev pub read_by : Analysed → Expression → List ℕ
read_by a e = uses_of (terrain_of a.program) (setting_of a).points_to e

abbrev pub found_by : Analysed → Lvalue → List ℕ
found_by a l = pointer_uses (terrain_of a.program) (setting_of a).points_to l

-- ---- definitions

-- seen from locations, a set gained exactly those that pass a test
abbrev pub AddsAt : Analysed → (ℕ → Bool) → List ℕ → List ℕ → Type 0
AddsAt a test old new = (l : ℕ) →
    has (cell_of (setting_of a) l) new ≡ (has (cell_of (setting_of a) l) old || test l)

-- the regions that the bottom of an lvalue may have, and those at which it may be stored to
abbrev pub bottoms : Analysed → Lvalue → List ℕ
bottoms a to = bottom_regions (terrain_of a.program) (setting_of a).points_to to

abbrev pub assigned_at : Analysed → Lvalue → ℕ → Bool
assigned_at a to q = list_any (λ r. bottom_accepts (terrain_of a.program) to r
    && nat_eq q (region_under (terrain_of a.program) to r)) (bottoms a to)

-- the regions to which an argument may point, and those at which a routine of the library may write
abbrev pub argument_points : Analysed → List Expression → ℕ → List ℕ
argument_points a args k = argument_regions (terrain_of a.program) (setting_of a).points_to args k

abbrev pub aimed_at : Analysed → Written → List Expression → Option ℕ → List ℕ
aimed_at a w args site = aim_regions (terrain_of a.program) (setting_of a).points_to w args site

-- ---- uses

-- the lvalue of a struct that is read
abbrev pub struct_of : Option (ℕ × Lvalue) → Option Lvalue
struct_of None = None
struct_of (Some s) = Some s.1

-- what a command reads
abbrev pub reads_of : Analysed → ℕ → Command → List ℕ
reads_of a n start = flat_map (λ o. leaf_reads (scene_of a) o.start) a.program.objects
reads_of a n (entry f) = []
reads_of a n (exit f) = []
reads_of a n skip = []
reads_of a n (assign to e) = assigned_reads (scene_of a) to e
reads_of a n (copy to from) = struct_reads a from ++ found_by a to
reads_of a n (init o values zeros) = leaf_reads (scene_of a) values
reads_of a n (assume e op f) = assumed_reads (scene_of a) e f
reads_of a n (eval e) = read_by a e
reads_of a n (call callee args) = arguments_read a args ++ read_by a callee
reads_of a n (return c to) = result_reads a c to ++ result_found a to
reads_of a n (library which to args site) = library_reads a args which to
reads_of a n (outside to args site) = arguments_read a args ++ result_found a to

-- whether a location that is stored to may keep what it holds
abbrev pub may_keep : Analysed → Lvalue → ℕ → Bool
may_keep a to l = not (is_direct to) || is_summary a.program a.told (cell_of (setting_of a) l)

abbrev pub result_may_keep : Analysed → Option Lvalue → ℕ → Bool
result_may_keep a None l = false
result_may_keep a (Some to) l = may_keep a to l

-- whether a command may keep what a location holds that it defines, or looks at it
abbrev pub keeps_at : Analysed → Command → ℕ → Bool
keeps_at a start l = false
keeps_at a (entry f) l = false
keeps_at a (exit f) l = false
keeps_at a skip l = false
keeps_at a (assign to e) l = may_keep a to l
keeps_at a (copy to from) l = may_keep a to l
keeps_at a (init o values zeros) l = is_shared a o
keeps_at a (assume e op f) l = true
keeps_at a (eval e) l = false
keeps_at a (call callee args) l = is_summary a.program a.told (cell_of (setting_of a) l)
keeps_at a (return c to) l = result_may_keep a to l
keeps_at a (library which to args site) l = result_may_keep a to l
keeps_at a (outside to args site) l = result_may_keep a to l

-- whether a command joins something to what a location holds, and so keeps that whatever it stores
abbrev pub joins_at : Analysed → Command → ℕ → Bool
joins_at a start l = false
joins_at a (entry f) l = false
joins_at a (exit f) l = false
joins_at a skip l = false
joins_at a (assign to e) l = false
joins_at a (copy to from) l = false
joins_at a (init o values zeros) l = false
joins_at a (assume e op f) l = false
joins_at a (eval e) l = false
joins_at a (call callee args) l = false
joins_at a (return c to) l = false
joins_at a (library which to args site) l = may_hit (written_to a args site (written_by which)) l
joins_at a (outside to args site) l = false

-- ---- cuts

-- whether a command is a condition, which writes nothing
abbrev pub is_condition : Command → Bool
is_condition start = false
is_condition (entry f) = false
is_condition (exit f) = false
is_condition skip = false
is_condition (assign to e) = false
is_condition (copy to from) = false
is_condition (init o values zeros) = false
is_condition (assume e op f) = true
is_condition (eval e) = false
is_condition (call callee args) = false
is_condition (return c to) = false
is_condition (library which to args site) = false
is_condition (outside to args site) = false
