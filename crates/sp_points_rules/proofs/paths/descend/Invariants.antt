use Rattle.std.proofs.Common.{◌≡◌, Some, take}
use Rattle.sp_ir.specs.Programs.{lowered_of}
use Rattle.sp_points_rules.specs.Paths.{descend}
use Rattle.sp_points_rules.proofs.paths.descend.Given as goal

abbrev pub invariant-loop-step : goal.invariant-loop-step
invariant-loop-step l = l.at ≡ descend (lowered_of l.lowered) (Some l.region) (take l.step-index l.steps)
