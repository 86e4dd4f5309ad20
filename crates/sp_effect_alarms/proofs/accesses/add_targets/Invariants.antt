use Rattle.std.proofs.Common.{◌≡◌, ◌++◌, take}
use Rattle.std.specs.List.{flat_map}
use Rattle.sp_types.specs.View.{type_of}
use Rattle.sp_ir.specs.Programs.{lowered_of}
use Rattle.sp_ir.specs.Terrain.{terrain_of}
use Rattle.sp_effect_alarms.specs.Alarms.{target_alarms}
use Rattle.sp_effect_alarms.proofs.accesses.add_targets.Given as goal

abbrev pub invariant-loop-target : goal.invariant-loop-target
invariant-loop-target l = l.alarms.items ≡ l.initial.alarms.items
    ++ flat_map (target_alarms (terrain_of (lowered_of l.lowered)) (type_of l.access) l.place) (take l.target-index l.targets)
