-- Slots that are stored at the cells of an lvalue: what the code writes.
use Rattle.std.specs.Prelude.{ℕ, nat_eq, cond, ◌&&◌, List, Option}
use Rattle.sp_types.specs.Types.{CType}
use Rattle.sp_ir.specs.Commands.{Lvalue}
use Rattle.sp_ir.specs.Terrain.{terrain_of}
use Rattle.sp_value.specs.declared.targets.Target.{Target}
use Rattle.sp_value.specs.declared.slots.Slot.{Slot}
use Rattle.sp_value.specs.declared.slots.Slot.TheVariants.{Nothing}
use Rattle.sp_effect_rows.specs.Rows.{Row, joins}
use Rattle.sp_effect_rows.specs.Setting.{cell_of}
use Rattle.sp_effect_rows.specs.Storing.{kept_by}
use Rattle.sp_effect_assign.specs.Destinations.{region_under}
use Rattle.sp_effect_scene.specs.Analysed.{Analysed, setting_of}
use Rattle.sp_effect_call.specs.Copied.{has_cell}
use Rattle.sp_effect_call.specs.Copies.{leaf_destination}

-- what one cell gets, as a location sees it, where a value of the type stands at the region
abbrev pub cell_slot : Analysed → Option CType → (ℕ → ℕ → Slot) → ℕ → ℕ → ℕ → Slot
cell_slot a of slots q l c = cond (has_cell a.program of q c && nat_eq c (cell_of (setting_of a) l))
    (slots q c) Nothing

-- what a location gets from a region of the lvalue's bottom
abbrev pub bottom_slot : Analysed → Lvalue → (ℕ → ℕ → Slot) → ℕ → ℕ → Slot
bottom_slot a to slots l r = cond ((leaf_destination a to).hits r l)
    (slots (region_under (terrain_of a.program) to r) (cell_of (setting_of a) l)) Nothing

-- slots stored at targets, by the rule of strong and weak updates
abbrev pub stored_leaves : Analysed → Lvalue → (ℕ → ℕ → Slot) → List Target → Row
stored_leaves a to slots xs = record {
  keeps = λ l. kept_by (leaf_destination a to) xs l;
  puts = λ l. joins (λ x. bottom_slot a to slots l x.region) xs;
}
