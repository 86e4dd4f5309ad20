use Rattle.std.proofs.Common.{◌≡◌, ℕ, take, cond}
use Rattle.sp_lattice.specs.System.{has}
use Rattle.sp_value.specs.declared.slots.Slot.TheVariants.{Nothing}
use Rattle.sp_value.specs.Slots.{slot_join}
use Rattle.sp_effect_rows.specs.Updates.{slots_at}
use Rattle.sp_effect_rows.specs.Updates.{store_of}
use Rattle.sp_effect_rows.proofs.placing.place.Given as goal

-- the first slots are there
abbrev pub invariant-loop-place : goal.invariant-loop-place
invariant-loop-place l = (k : ℕ) → store_of l.places l.row k ≡ slot_join (cond (has k l.strong) Nothing (store_of l.places l.fn.row k)) (slots_at (take l.place l.locations) (take l.place l.slots) k)
