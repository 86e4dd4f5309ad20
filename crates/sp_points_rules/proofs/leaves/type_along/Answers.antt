use Rattle.std.proofs.Common.{map, option_map}
use Rattle.sp_types.specs.View.{type_of, struct_of}
use Rattle.sp_points_rules.proofs.Laws.{along-more}
use Rattle.sp_points_rules.proofs.leaves.type_along.Goals as goal

pub loop-step-preserved : goal.loop-step-preserved
loop-step-preserved c = along-more (map struct_of c.args.structs.now) (option_map (λ t. type_of t.now) c.args.of) (option_map (λ t. type_of t.now) c.loop-step.at) (option_map (λ t. type_of t.now) c.part_of-at.result) c.args.path.now c.loop-step.step-index _ c.loop-step-test.true c.loop-step.invariant c.part_of-at.ensures
