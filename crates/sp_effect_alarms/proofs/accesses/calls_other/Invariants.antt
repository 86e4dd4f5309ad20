use Rattle.std.proofs.Common.{◌≡◌, false, take}
use Rattle.sp_ir.specs.Programs.{lowered_of}
use Rattle.sp_effect_alarms.specs.Commands.{calls_other}
use Rattle.sp_effect_alarms.proofs.accesses.calls_other.Given as goal

abbrev pub invariant-loop-target : goal.invariant-loop-target
invariant-loop-target l = calls_other (lowered_of l.lowered) l.count (take l.target-index l.targets) ≡ false
