use Rattle.std.proofs.Common.{◌≡◌, Some, subst}
use Rattle.sp_ir.specs.Programs.{lowered_of}
use Rattle.sp_ir.specs.Functions.{function_at}
use Rattle.sp_base_sets.specs.Sets.{Gains}
use Rattle.sp_base_sets.proofs.Images.{images_more}
use Rattle.sp_points_rules.proofs.sources.callees.Goals as goal

pub loop-region-preserved : goal.loop-region-preserved
loop-region-preserved c =
    images_more (λ r k. function_at (lowered_of c.args.lowered.now) r c.args.count ≡ Some k) c.as_slice-numbers.result.now c.loop-region.region-index c.loop-region.set c.add_some.new.self c.loop-region-test.true c.loop-region.invariant
    (subst (λ o. Gains (λ k. o ≡ Some k) c.loop-region.set c.add_some.new.self) c.function_at-function.ensures c.in_ok-add_some.ensures)
