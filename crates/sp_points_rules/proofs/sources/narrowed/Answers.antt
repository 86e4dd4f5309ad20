use Rattle.std.proofs.Common.{◌≡◌, true}
use Rattle.sp_ir.specs.Programs.{lowered_of}
use Rattle.sp_points_rules.specs.Sources.{narrows}
use Rattle.sp_base_sets.proofs.Images.{images_more}
use Rattle.sp_points_rules.proofs.sources.narrowed.Goals as goal

pub loop-region-preserved : goal.loop-region-preserved
loop-region-preserved c =
    images_more (λ q r. narrows (lowered_of c.args.facts.now.lowered.now) c.args.only q r ≡ true) c.as_slice-numbers.result.now c.loop-region.region-index c.loop-region.set c.narrow_one.new.set c.loop-region-test.true c.loop-region.invariant c.in_ok-narrow_one.ensures
