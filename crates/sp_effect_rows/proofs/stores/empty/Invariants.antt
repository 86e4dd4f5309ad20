use Rattle.std.proofs.Common.{◌≡◌, ℕ, cond, take}
use Rattle.sp_lattice.specs.System.{has}
use Rattle.sp_value.specs.declared.slots.Slot.TheVariants.{Nothing}
use Rattle.sp_effect_rows.specs.Updates.{store_of}
use Rattle.sp_effect_rows.proofs.stores.empty.Given as goal

-- the first ones are empty
abbrev pub invariant-loop-place : goal.invariant-loop-place
invariant-loop-place l = (k : ℕ) → store_of l.places l.row k ≡ cond (has k (take l.place-index l.these)) Nothing (store_of l.places l.fn.row k)
