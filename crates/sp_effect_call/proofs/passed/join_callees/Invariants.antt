use Rattle.std.proofs.Common.{◌≡◌, ℕ, true, take, map}
use Rattle.sp_lattice.specs.System.{has}
use Rattle.sp_value.specs.Slots.{slot_join}
use Rattle.sp_effect_rows.specs.Rows.{joins}
use Rattle.sp_effect_rows.specs.Updates.{store_of}
use Rattle.sp_effect_assign.specs.Scene.{known_in_regions}
use Rattle.sp_effect_scene.specs.Analysed.{scene_of}
use Rattle.sp_effect_scene.specs.View.{analysed_of}
use Rattle.sp_effect_call.specs.Arguments.{callee_slot}
use Rattle.sp_effect_call.specs.ArgumentView.{evaluated_of}
use Rattle.sp_effect_call.proofs.passed.join_callees.Given as goal

-- what the formals of the first functions get is joined
abbrev pub invariant-loop-function : goal.invariant-loop-function
invariant-loop-function g l = (k : ℕ) → has k l.places ≡ true → store_of l.places l.row k
    ≡ slot_join (store_of l.places l.fn.row k) (joins (callee_slot (analysed_of l.analysis) (known_in_regions (scene_of (analysed_of l.analysis)) (λ n. g.V.View.store l.view n)) (map evaluated_of l.arguments) k) (take l.function-index l.functions))
