use Rattle.std.proofs.Common.{arith, nat_eq, ◌&&◌}
use Rattle.std.specs.List.{list_any}
use Rattle.sp_effect_scene.specs.View.{analysed_of}
use Rattle.sp_points_rules.specs.Paths.{reaches}
use Rattle.sp_effect_uses.proofs.Picked.{any-picked}
use Rattle.sp_effect_uses.proofs.Steps.{adds-begun, adds-more, adds-all, adds-as}
use Rattle.sp_effect_uses.proofs.structs.add_under.Goals as goal

pub loop-cell-init : goal.loop-cell-init
loop-cell-init c = adds-begun (λ x r. reaches (analysed_of c.args.analysis.now).program c.args.region x && nat_eq r x) c.under-cells.result.now c.args.set.now

pub loop-cell-preserved : goal.loop-cell-preserved
loop-cell-preserved c =
    adds-more (λ x r. reaches (analysed_of c.args.analysis.now).program c.args.region x && nat_eq r x) c.under-cells.result.now c.loop-cell.cell-index 0 c.args.set.now c.loop-cell.set c.add_if_under.new.set c.loop-cell-test.true c.loop-cell.invariant c.in_ok-add_if_under.ensures

pub returns : goal.returns
returns c =
    adds-as (λ r. list_any (λ x. reaches (analysed_of c.args.analysis.now).program c.args.region x && nat_eq r x) c.under-cells.result.now) (λ r. reaches (analysed_of c.args.analysis.now).program c.args.region r) c.args.set.now c.loop-cell.set
    (λ r. any-picked (λ x. reaches (analysed_of c.args.analysis.now).program c.args.region x) r c.under-cells.result.now (c.under-cells.ensures.under r))
    (adds-all (λ x r. reaches (analysed_of c.args.analysis.now).program c.args.region x && nat_eq r x) c.under-cells.result.now c.loop-cell.cell-index c.args.set.now c.loop-cell.set (omega (arith, c.loop-cell-test.false)) c.loop-cell.invariant)
