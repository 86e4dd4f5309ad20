use Rattle.sp_value.proofs.GatherLaws.{formed_item}
use Rattle.sp_effect_alarms.proofs.accesses.add_targets.Goals as goal

pub add_target-requires : goal.add_target-requires
add_target-requires c = (formed_item c.args.targets.now c.loop-target.target-index _ c.loop-target-test.true c.requires).offset
