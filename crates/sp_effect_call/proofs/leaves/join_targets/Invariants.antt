use Rattle.std.proofs.Common.{◌≡◌, ℕ, true, take}
use Rattle.sp_lattice.specs.System.{has}
use Rattle.sp_ir.specs.View.{lvalue_of}
use Rattle.sp_value.specs.Slots.{slot_join}
use Rattle.sp_effect_rows.specs.Rows.{joins}
use Rattle.sp_effect_rows.specs.Updates.{store_of}
use Rattle.sp_effect_scene.specs.View.{analysed_of}
use Rattle.sp_effect_call.specs.Slots.{bottom_slot}
use Rattle.sp_effect_call.proofs.leaves.join_targets.Given as goal

-- what comes from the first targets is joined
abbrev pub invariant-loop-target : goal.invariant-loop-target
invariant-loop-target g l = (k : ℕ) → has k l.places ≡ true → store_of l.places l.row k
    ≡ slot_join (store_of l.places l.fn.row k) (joins (λ x. bottom_slot (analysed_of l.analysis) (lvalue_of l.to) (g.G.Gives.slots l.gives) k x.region) (take l.target-index l.targets))
