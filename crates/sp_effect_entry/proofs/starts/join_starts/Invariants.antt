use Rattle.std.proofs.Common.{◌≡◌, ℕ, true, take}
use Rattle.sp_lattice.specs.System.{has}
use Rattle.sp_ir.specs.Programs.{object_of}
use Rattle.sp_value.specs.Slots.{slot_join}
use Rattle.sp_effect_rows.specs.Rows.{joins}
use Rattle.sp_effect_rows.specs.Updates.{store_of}
use Rattle.sp_effect_scene.specs.View.{analysed_of}
use Rattle.sp_effect_entry.proofs.Steps.{object_slot}
use Rattle.sp_effect_entry.proofs.starts.join_starts.Given as goal

-- the start values of the first objects are joined
abbrev pub invariant-loop-object : goal.invariant-loop-object
invariant-loop-object g l = (k : ℕ) → has k l.places ≡ true → store_of l.places l.row k
    ≡ slot_join (store_of l.places l.fn.row k) (joins (λ x. object_slot (analysed_of l.analysis) (λ n. g.V.View.store l.view n) k (object_of x)) (take l.object-index l.objects))
