use Rattle.std.proofs.Common.{Some}
use Rattle.sp_ir.specs.Programs.{lowered_of}
use Rattle.sp_points_rules.proofs.Laws.{descend-more}
use Rattle.sp_points_rules.proofs.paths.descend.Goals as goal

pub loop-step-preserved : goal.loop-step-preserved
loop-step-preserved c = descend-more (lowered_of c.args.lowered.now) (Some c.args.region) c.loop-step.at c.next-at.result c.args.steps.now c.loop-step.step-index _ c.loop-step-test.true c.loop-step.invariant c.next-at.ensures
