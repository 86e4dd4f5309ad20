use Rattle.std.proofs.Common.{◌≡◌, ◌++◌, map, take}
use Rattle.std.specs.List.{flat_map}
use Rattle.sp_ir.specs.Programs.{lowered_of}
use Rattle.sp_ir.specs.Terrain.{terrain_of}
use Rattle.sp_effect_alarms.specs.Alarms.{reaching_alarms}
use Rattle.sp_effect_alarms.specs.Library.{character, end_target}
use Rattle.sp_effect_alarms.proofs.text.add_characters_behind.Given as goal

abbrev pub invariant-loop-target : goal.invariant-loop-target
invariant-loop-target l = l.alarms.items ≡ l.initial.alarms.items
    ++ flat_map (reaching_alarms (terrain_of (lowered_of l.lowered)) character l.place l.count) (map end_target (take l.target-index l.targets))
