use Rattle.std.proofs.Common.{◌≡◌, subst}
use Rattle.sp_ir.specs.Programs.{lowered_of}
use Rattle.sp_ir.specs.Terrain.{terrain_of}
use Rattle.sp_ir.specs.Denoted.{element_region}
use Rattle.sp_base_sets.specs.Sets.{Gains}
use Rattle.sp_base_sets.proofs.Images.{images_more}
use Rattle.sp_points_expr.proofs.steps.elements.Goals as goal

pub loop-region-preserved : goal.loop-region-preserved
loop-region-preserved c =
    images_more (λ q r. element_region (terrain_of (lowered_of c.args.lowered.now)) q ≡ r) c.as_slice-numbers.result.now c.loop-region.region-index c.loop-region.set c.add_number.new.set c.loop-region-test.true c.loop-region.invariant
    (subst (λ k. Gains (λ r. k ≡ r) c.loop-region.set c.add_number.new.set) c.element_at.ensures c.in_ok-add_number.ensures)
