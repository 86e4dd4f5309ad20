use Rattle.sp_value.proofs.GatherLaws.{formed_item}
use Rattle.sp_effect_alarms.proofs.bytes.add_counted.Goals as goal

pub overrun-requires-clause-offset : goal.overrun-requires-clause-offset
overrun-requires-clause-offset c = (formed_item c.args.targets.now c.loop-target.target-index _ c.loop-target-test.true c.requires.targets).offset
