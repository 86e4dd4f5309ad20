use Rattle.std.proofs.Common.{◌≡◌, ◌++◌, take}
use Rattle.std.specs.List.{flat_map}
use Rattle.sp_ir.specs.Programs.{lowered_of}
use Rattle.sp_ir.specs.Terrain.{terrain_of}
use Rattle.sp_effect_alarms.specs.Alarms.{check}
use Rattle.sp_effect_alarms.specs.Library.{counted}
use Rattle.sp_effect_alarms.proofs.bytes.add_counted.Given as goal

abbrev pub invariant-loop-target : goal.invariant-loop-target
invariant-loop-target l = l.alarms.items ≡ l.initial.alarms.items
    ++ flat_map (λ x. check l.place (counted (terrain_of (lowered_of l.lowered)) l.bytes x.region) x) (take l.target-index l.targets)
