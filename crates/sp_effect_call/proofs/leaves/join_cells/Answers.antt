use Rattle.std.proofs.Common.{get_or, arith}
use Rattle.std.specs.Prelude.{option_map}
use Rattle.sp_types.specs.View.{type_of}
use Rattle.sp_effect_rows.specs.Updates.{store_of}
use Rattle.sp_effect_scene.specs.View.{analysed_of}
use Rattle.sp_effect_entry.proofs.Steps.{joins-begun, joins-next, joins-all, read-there}
use Rattle.sp_effect_call.specs.Slots.{cell_slot}
use Rattle.sp_effect_call.proofs.leaves.join_cells.Goals as goal

pub loop-cell-init : goal.loop-cell-init
loop-cell-init g c = λ k h. joins-begun (cell_slot (analysed_of c.args.analysis.now) (option_map (λ t. type_of t.now) c.args.of) (g.G.Gives.slots c.args.gives.now) c.args.region k) c.args.cells.now (store_of c.args.places.now c.args.row.now k)

pub loop-cell-preserved : goal.loop-cell-preserved
loop-cell-preserved g c = λ k h.
    let cell = get_or c.args.cells.now c.loop-cell.cell-index 0 in
    joins-next (cell_slot (analysed_of c.args.analysis.now) (option_map (λ t. type_of t.now) c.args.of) (g.G.Gives.slots c.args.gives.now) c.args.region k) c.args.cells.now c.loop-cell.cell-index cell
    (store_of c.args.places.now c.args.row.now k) (store_of c.args.places.now c.loop-cell.row k) (store_of c.args.places.now c.join_cell.new.row k)
    c.loop-cell-test.true (read-there c.args.cells.now c.loop-cell.cell-index 0 cell c.loop-cell-test.true) (c.loop-cell.invariant k h) (c.in_ok-join_cell.ensures k h)

pub returns : goal.returns
returns g c = λ k h.
    joins-all (cell_slot (analysed_of c.args.analysis.now) (option_map (λ t. type_of t.now) c.args.of) (g.G.Gives.slots c.args.gives.now) c.args.region k) c.args.cells.now c.loop-cell.cell-index
    (store_of c.args.places.now c.args.row.now k) (store_of c.args.places.now c.loop-cell.row k) (omega (arith, c.loop-cell-test.false)) (c.loop-cell.invariant k h)
