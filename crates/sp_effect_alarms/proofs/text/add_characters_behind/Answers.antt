use Rattle.sp_value.proofs.GatherLaws.{formed_item}
use Rattle.sp_effect_alarms.proofs.text.add_characters_behind.Goals as goal

pub end_offset-requires-clause-offset : goal.end_offset-requires-clause-offset
end_offset-requires-clause-offset c = (formed_item c.args.targets.now c.loop-target.target-index _ c.loop-target-test.true c.requires.targets).offset

pub end_offset-requires-clause-size : goal.end_offset-requires-clause-size
end_offset-requires-clause-size c = (formed_item c.args.targets.now c.loop-target.target-index _ c.loop-target-test.true c.requires.targets).size
