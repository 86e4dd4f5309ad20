use Rattle.std.proofs.Common.{◌≡◌, ◌++◌, take}
use Rattle.std.specs.List.{flat_map}
use Rattle.sp_ir.specs.Programs.{lowered_of}
use Rattle.sp_effect_alarms.specs.Library.{pair_alarms}
use Rattle.sp_effect_alarms.proofs.bytes.add_pairs.Given as goal

abbrev pub invariant-loop-to : goal.invariant-loop-to
invariant-loop-to l = l.alarms.items ≡ l.initial.alarms.items
    ++ flat_map (λ x. flat_map (pair_alarms (lowered_of l.lowered) l.place x) l.sources) (take l.to-index l.targets)
