use Rattle.std.proofs.Common.{◌≡◌, take}
use Rattle.sp_types.specs.View.{type_of}
use Rattle.sp_ir.specs.Programs.{lowered_of}
use Rattle.sp_ir.specs.Terrain.{terrain_of}
use Rattle.sp_value.specs.Known.{of_numbers, gathered}
use Rattle.sp_effect_checks.specs.Cuts.{steps_from}
use Rattle.sp_effect_checks.proofs.cuts.Step.steps.Given as goal

-- those from the first targets
abbrev pub invariant-loop-target : goal.invariant-loop-target
invariant-loop-target l = l.steps ≡ (gathered (λ x. of_numbers (steps_from (terrain_of (lowered_of l.self.lowered.now)) (type_of l.self.of.now) l.self.back l.self.size x))
    (take l.target-index l.targets)).numbers
