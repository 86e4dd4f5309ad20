-- What the code joins to a row, target after target.
use Rattle.std.specs.Prelude.{ℕ, cond}
use Rattle.sp_value.specs.declared.slots.Slot.{Slot}
use Rattle.sp_value.specs.declared.slots.Slot.TheVariants.{Nothing}
use Rattle.sp_effect_rows.specs.Setting.{cell_of}
use Rattle.sp_effect_scene.specs.Analysed.{Analysed, setting_of}
use Rattle.sp_effect_library.specs.declared.written.Written.{Written}
use Rattle.sp_effect_library.specs.Written.{lands}

-- what a location gets from a target of the region
abbrev pub landed_slot : Analysed → Written → (ℕ → ℕ → Slot) → ℕ → ℕ → Slot
landed_slot a w slots l r = cond (lands a.program w r (cell_of (setting_of a) l))
    (slots r (cell_of (setting_of a) l)) Nothing
