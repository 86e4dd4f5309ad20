use Rattle.std.proofs.Common.{arith, ◌&&◌, nat_eq}
use Rattle.sp_effect_scene.specs.View.{analysed_of}
use Rattle.std.specs.Prelude.{slice_get, not}
use Rattle.sp_effect_scene.specs.Analysed.{is_summary}
use Rattle.sp_effect_entry.specs.Entries.{fresh_at}
use Rattle.sp_effect_uses.proofs.Steps.{adds-begun, adds-more, adds-all}
use Rattle.sp_effect_uses.proofs.objects.add_each_fresh.Goals as goal

pub loop-cell-init : goal.loop-cell-init
loop-cell-init c = adds-begun (λ x r. (fresh_at (analysed_of c.args.analysis.now).program c.args.function (slice_get (analysed_of c.args.analysis.now).program.regions x) && not (is_summary (analysed_of c.args.analysis.now).program (analysed_of c.args.analysis.now).told x)) && nat_eq r x) c.args.cells.now c.args.set.now

pub loop-cell-preserved : goal.loop-cell-preserved
loop-cell-preserved c =
    adds-more (λ x r. (fresh_at (analysed_of c.args.analysis.now).program c.args.function (slice_get (analysed_of c.args.analysis.now).program.regions x) && not (is_summary (analysed_of c.args.analysis.now).program (analysed_of c.args.analysis.now).told x)) && nat_eq r x) c.args.cells.now c.loop-cell.cell-index 0 c.args.set.now c.loop-cell.set c.add_if_fresh.new.set c.loop-cell-test.true c.loop-cell.invariant c.in_ok-add_if_fresh.ensures

pub returns : goal.returns
returns c =
    (adds-all (λ x r. (fresh_at (analysed_of c.args.analysis.now).program c.args.function (slice_get (analysed_of c.args.analysis.now).program.regions x) && not (is_summary (analysed_of c.args.analysis.now).program (analysed_of c.args.analysis.now).told x)) && nat_eq r x) c.args.cells.now c.loop-cell.cell-index c.args.set.now c.loop-cell.set (omega (arith, c.loop-cell-test.false)) c.loop-cell.invariant)
