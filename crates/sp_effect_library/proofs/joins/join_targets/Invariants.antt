use Rattle.std.proofs.Common.{◌≡◌, ℕ, true, take}
use Rattle.sp_lattice.specs.System.{has}
use Rattle.sp_value.specs.Slots.{slot_join}
use Rattle.sp_effect_rows.specs.Rows.{joins}
use Rattle.sp_effect_rows.specs.Updates.{store_of}
use Rattle.sp_effect_scene.specs.View.{analysed_of}
use Rattle.sp_effect_library.specs.Slots.{landed_slot}
use Rattle.sp_effect_library.proofs.joins.join_targets.Given as goal

-- what is written at the first targets is joined
abbrev pub invariant-loop-target : goal.invariant-loop-target
invariant-loop-target g l = (k : ℕ) → has k l.places ≡ true → store_of l.places l.row k
    ≡ slot_join (store_of l.places l.fn.row k) (joins (λ x. landed_slot (analysed_of l.analysis) l.written (g.G.Gives.slots l.gives) k x.region) (take l.target-index l.targets))
