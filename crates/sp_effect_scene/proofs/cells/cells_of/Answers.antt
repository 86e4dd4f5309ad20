use Rattle.std.proofs.Common.{arith}
use Rattle.sp_ir.specs.Programs.{lowered_of}
use Rattle.sp_effect_scene.proofs.Finding.{cell-next, all-found}
use Rattle.sp_effect_scene.proofs.cells.cells_of.Goals as goal

pub loop-region-preserved : goal.loop-region-preserved
loop-region-preserved c =
    let rs = (lowered_of c.args.lowered.now).regions in
    cell-next rs c.loop-region.region c.loop-region.cells.items c.loop-region.invariant c.push_cell.new.cells.items (omega arith) c.in_ok-push_cell.ensures

pub returns : goal.returns
returns c =
    let rs = (lowered_of c.args.lowered.now).regions in
    all-found rs c.loop-region.region c.loop-region.cells.items c.loop-region.invariant (omega (arith, c.loop-region-test.false))
