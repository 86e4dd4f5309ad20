use Rattle.std.proofs.Common.{arith, ◌&&◌, ◌||◌, nat_eq}
use Rattle.sp_ir.specs.Programs.{lowered_of}
use Rattle.sp_effect_entry.specs.Starts.{is_static, has_kind, is_main_formal}
use Rattle.sp_effect_uses.proofs.Steps.{adds-begun, adds-more, adds-all}
use Rattle.sp_effect_uses.proofs.objects.add_each_start.Goals as goal

pub loop-cell-init : goal.loop-cell-init
loop-cell-init c = adds-begun (λ x r. (has_kind is_static (lowered_of c.args.lowered.now) x || is_main_formal (lowered_of c.args.lowered.now) x) && nat_eq r x) c.args.cells.now c.args.set.now

pub loop-cell-preserved : goal.loop-cell-preserved
loop-cell-preserved c =
    adds-more (λ x r. (has_kind is_static (lowered_of c.args.lowered.now) x || is_main_formal (lowered_of c.args.lowered.now) x) && nat_eq r x) c.args.cells.now c.loop-cell.cell-index 0 c.args.set.now c.loop-cell.set c.add_if_start.new.set c.loop-cell-test.true c.loop-cell.invariant c.in_ok-add_if_start.ensures

pub returns : goal.returns
returns c =
    (adds-all (λ x r. (has_kind is_static (lowered_of c.args.lowered.now) x || is_main_formal (lowered_of c.args.lowered.now) x) && nat_eq r x) c.args.cells.now c.loop-cell.cell-index c.args.set.now c.loop-cell.set (omega (arith, c.loop-cell-test.false)) c.loop-cell.invariant)
