use Rattle.std.proofs.Common.{◌≡◌, take}
use Rattle.sp_interval.specs.Interval.{IsFormed}
use Rattle.sp_ir.specs.Programs.{lowered_of}
use Rattle.sp_ir.specs.Terrain.{terrain_of}
use Rattle.sp_effect_alarms.specs.Library.{text_length}
use Rattle.sp_effect_alarms.proofs.text.text_length.Given as goal

abbrev pub invariant-loop-target : goal.invariant-loop-target
invariant-loop-target l = record {
  value : l.length ≡ text_length (terrain_of (lowered_of l.lowered)) (take l.target-index l.targets);
  formed : IsFormed l.length;
}
