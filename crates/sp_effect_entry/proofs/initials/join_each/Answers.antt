use Rattle.std.proofs.Common.{get_or, arith}
use Rattle.sp_effect_rows.specs.Updates.{store_of}
use Rattle.sp_effect_scene.specs.View.{analysed_of}
use Rattle.sp_effect_entry.specs.Slots.{slot_at}
use Rattle.sp_effect_entry.proofs.Steps.{joins-begun, joins-next, joins-all, read-there}
use Rattle.sp_effect_entry.proofs.initials.join_each.Goals as goal

pub loop-cell-init : goal.loop-cell-init
loop-cell-init c = λ k h. joins-begun (slot_at (analysed_of c.args.analysis.now) c.args.slot.now k) c.args.cells.now (store_of c.args.places.now c.args.row.now k)

pub loop-cell-preserved : goal.loop-cell-preserved
loop-cell-preserved c = λ k h.
    let cell = get_or c.args.cells.now c.loop-cell.cell-index 0 in
    joins-next (slot_at (analysed_of c.args.analysis.now) c.args.slot.now k) c.args.cells.now c.loop-cell.cell-index cell
    (store_of c.args.places.now c.args.row.now k) (store_of c.args.places.now c.loop-cell.row k) (store_of c.args.places.now c.join_to.new.row k)
    c.loop-cell-test.true (read-there c.args.cells.now c.loop-cell.cell-index 0 cell c.loop-cell-test.true) (c.loop-cell.invariant k h) (c.in_ok-join_to.ensures k h)

pub returns : goal.returns
returns c = λ k h.
    joins-all (slot_at (analysed_of c.args.analysis.now) c.args.slot.now k) c.args.cells.now c.loop-cell.cell-index
    (store_of c.args.places.now c.args.row.now k) (store_of c.args.places.now c.loop-cell.row k) (omega (arith, c.loop-cell-test.false)) (c.loop-cell.invariant k h)
