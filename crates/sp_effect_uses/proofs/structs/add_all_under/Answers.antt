use Rattle.std.proofs.Common.{arith}
use Rattle.sp_effect_scene.specs.View.{analysed_of}
use Rattle.sp_points_rules.specs.Paths.{reaches}
use Rattle.sp_effect_uses.proofs.Steps.{adds-begun, adds-more, adds-all}
use Rattle.sp_effect_uses.proofs.structs.add_all_under.Goals as goal

pub loop-region-init : goal.loop-region-init
loop-region-init c = adds-begun (λ x r. reaches (analysed_of c.args.analysis.now).program x r) c.args.regions.now c.args.set.now

pub loop-region-preserved : goal.loop-region-preserved
loop-region-preserved c =
    adds-more (λ x r. reaches (analysed_of c.args.analysis.now).program x r) c.args.regions.now c.loop-region.region-index 0 c.args.set.now c.loop-region.set c.add_under.new.set c.loop-region-test.true c.loop-region.invariant c.in_ok-add_under.ensures

pub returns : goal.returns
returns c =
    (adds-all (λ x r. reaches (analysed_of c.args.analysis.now).program x r) c.args.regions.now c.loop-region.region-index c.args.set.now c.loop-region.set (omega (arith, c.loop-region-test.false)) c.loop-region.invariant)
