use Rattle.std.proofs.Common.{arith, ◌&&◌, nat_eq}
use Rattle.sp_effect_scene.specs.View.{analysed_of}
use Rattle.sp_ir.specs.Terrain.{terrain_of}
use Rattle.sp_ir.specs.View.{lvalue_of}
use Rattle.sp_effect_assign.specs.Destinations.{bottom_accepts, region_under}
use Rattle.sp_effect_uses.proofs.Steps.{adds-begun, adds-more, adds-all}
use Rattle.sp_effect_uses.proofs.writes.add_each_place.Goals as goal

pub loop-region-init : goal.loop-region-init
loop-region-init c = adds-begun (λ x r. bottom_accepts (terrain_of (analysed_of c.args.analysis.now).program) (lvalue_of c.args.to.now) x && nat_eq r (region_under (terrain_of (analysed_of c.args.analysis.now).program) (lvalue_of c.args.to.now) x)) c.args.regions.now c.args.set.now

pub loop-region-preserved : goal.loop-region-preserved
loop-region-preserved c =
    adds-more (λ x r. bottom_accepts (terrain_of (analysed_of c.args.analysis.now).program) (lvalue_of c.args.to.now) x && nat_eq r (region_under (terrain_of (analysed_of c.args.analysis.now).program) (lvalue_of c.args.to.now) x)) c.args.regions.now c.loop-region.region-index 0 c.args.set.now c.loop-region.set c.add_place.new.set c.loop-region-test.true c.loop-region.invariant c.in_ok-add_place.ensures

pub returns : goal.returns
returns c =
    (adds-all (λ x r. bottom_accepts (terrain_of (analysed_of c.args.analysis.now).program) (lvalue_of c.args.to.now) x && nat_eq r (region_under (terrain_of (analysed_of c.args.analysis.now).program) (lvalue_of c.args.to.now) x)) c.args.regions.now c.loop-region.region-index c.args.set.now c.loop-region.set (omega (arith, c.loop-region-test.false)) c.loop-region.invariant)
