use Rattle.std.proofs.Common.{◌≡◌, ℕ, true, take}
use Rattle.sp_lattice.specs.System.{has}
use Rattle.sp_value.specs.Slots.{slot_join}
use Rattle.sp_effect_rows.specs.Rows.{joins}
use Rattle.sp_effect_rows.specs.Updates.{store_of}
use Rattle.sp_effect_scene.specs.View.{analysed_of}
use Rattle.sp_effect_entry.specs.Slots.{slot_at}
use Rattle.sp_effect_entry.proofs.initials.join_each.Given as goal

-- the slot is joined at the first cells
abbrev pub invariant-loop-cell : goal.invariant-loop-cell
invariant-loop-cell l = (k : ℕ) → has k l.places ≡ true → store_of l.places l.row k
    ≡ slot_join (store_of l.places l.fn.row k) (joins (slot_at (analysed_of l.analysis) l.slot k) (take l.cell-index l.cells))
