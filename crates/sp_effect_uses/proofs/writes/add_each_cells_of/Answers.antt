use Rattle.std.proofs.Common.{arith}
use Rattle.sp_effect_scene.specs.View.{analysed_of}
use Rattle.std.proofs.Common.{Some}
use Rattle.sp_types.specs.View.{type_of}
use Rattle.sp_effect_call.specs.Copied.{has_cell}
use Rattle.sp_effect_uses.proofs.Steps.{adds-begun, adds-more, adds-all}
use Rattle.sp_effect_uses.proofs.writes.add_each_cells_of.Goals as goal

pub loop-region-init : goal.loop-region-init
loop-region-init c = adds-begun (λ x r. has_cell (analysed_of c.args.analysis.now).program (Some (type_of c.args.of.now)) x r) c.args.regions.now c.args.set.now

pub loop-region-preserved : goal.loop-region-preserved
loop-region-preserved c =
    adds-more (λ x r. has_cell (analysed_of c.args.analysis.now).program (Some (type_of c.args.of.now)) x r) c.args.regions.now c.loop-region.region-index 0 c.args.set.now c.loop-region.set c.add_cells_of.new.set c.loop-region-test.true c.loop-region.invariant c.in_ok-add_cells_of.ensures

pub returns : goal.returns
returns c =
    (adds-all (λ x r. has_cell (analysed_of c.args.analysis.now).program (Some (type_of c.args.of.now)) x r) c.args.regions.now c.loop-region.region-index c.args.set.now c.loop-region.set (omega (arith, c.loop-region-test.false)) c.loop-region.invariant)
