use Rattle.sp_value.proofs.GatherLaws.{formed_item}
use Rattle.sp_effect_alarms.proofs.text.add_characters.Goals as goal

pub reaching-alarm-requires-clause-offset : goal.reaching-alarm-requires-clause-offset
reaching-alarm-requires-clause-offset c = (formed_item c.args.targets.now c.loop-target.target-index _ c.loop-target-test.true c.requires.targets).offset
