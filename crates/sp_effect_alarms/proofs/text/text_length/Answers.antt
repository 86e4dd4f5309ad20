use Rattle.std.proofs.Common.{◌∙◌, ap, sym, subst}
use Rattle.sp_interval.specs.Interval.{IsFormed, hull}
use Rattle.sp_ir.specs.Programs.{lowered_of}
use Rattle.sp_ir.specs.Terrain.{terrain_of}
use Rattle.sp_value.proofs.GatherLaws.{formed_item}
use Rattle.sp_effect_alarms.specs.Library.{text_length}
use Rattle.sp_effect_alarms.proofs.Texts.{hull-formed, text_length-more}
use Rattle.sp_effect_alarms.proofs.text.text_length.Goals as goal

pub room_at-requires-clause-offset : goal.room_at-requires-clause-offset
room_at-requires-clause-offset c = (formed_item c.args.targets.now c.loop-target.target-index _ c.loop-target-test.true c.requires).offset

pub room_at-requires-clause-size : goal.room_at-requires-clause-size
room_at-requires-clause-size c = (formed_item c.args.targets.now c.loop-target.target-index _ c.loop-target-test.true c.requires).size

pub loop-target-preserved : goal.loop-target-preserved
loop-target-preserved c = record {
  value = c.hull-length.ensures
      ∙ ap (λ i. hull i c.room_at.result) c.loop-target.invariant.value
      ∙ ap (hull (text_length (terrain_of (lowered_of c.args.lowered.now)) _)) c.room_at.ensures.value
      ∙ text_length-more (terrain_of (lowered_of c.args.lowered.now)) c.args.targets.now c.loop-target.target-index _ c.loop-target-test.true;
  formed = subst IsFormed (sym c.hull-length.ensures) (hull-formed c.loop-target.length c.room_at.result c.loop-target.invariant.formed c.room_at.ensures.formed);
}
