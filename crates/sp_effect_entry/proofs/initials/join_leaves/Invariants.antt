use Rattle.std.proofs.Common.{◌≡◌, ℕ, true, take}
use Rattle.sp_lattice.specs.System.{has}
use Rattle.sp_ir.specs.View.{leaf_of}
use Rattle.sp_value.specs.Slots.{slot_join}
use Rattle.sp_effect_rows.specs.Rows.{joins}
use Rattle.sp_effect_rows.specs.Updates.{store_of}
use Rattle.sp_effect_scene.specs.View.{analysed_of}
use Rattle.sp_effect_entry.proofs.Steps.{leaf_slot}
use Rattle.sp_effect_entry.proofs.initials.join_leaves.Given as goal

-- the first leaves are joined
abbrev pub invariant-loop-leaf : goal.invariant-loop-leaf
invariant-loop-leaf g l = (k : ℕ) → has k l.places ≡ true → store_of l.places l.row k
    ≡ slot_join (store_of l.places l.fn.row k) (joins (λ x. leaf_slot (analysed_of l.analysis) (λ n. g.V.View.store l.view n) k (leaf_of x)) (take l.leaf-index l.leaves))
