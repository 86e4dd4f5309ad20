use Rattle.std.proofs.Common.{◌≡◌, ℕ, take}
use Rattle.sp_value.specs.Slots.{slot_join}
use Rattle.sp_effect_rows.specs.Updates.{store_of, where_hit}
use Rattle.sp_effect_rows.proofs.updates.join_where_hit.Given as goal

-- joined so far as the loop has run
abbrev pub invariant-loop-target : goal.invariant-loop-target
invariant-loop-target g l = (k : ℕ) → store_of l.places l.row k ≡ slot_join (store_of l.places l.fn.row k) (where_hit (g.H.Stores.reach l.to).hits (g.H.Stores.slots l.to) (take l.target-index l.targets) k)
