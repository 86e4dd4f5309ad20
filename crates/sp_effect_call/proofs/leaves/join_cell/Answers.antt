use Rattle.std.proofs.Common.{sym, ◌∙◌}
use Rattle.std.specs.Prelude.{option_map}
use Rattle.sp_types.specs.View.{type_of}
use Rattle.sp_effect_rows.specs.Updates.{store_of}
use Rattle.sp_effect_scene.specs.View.{analysed_of}
use Rattle.sp_effect_call.proofs.StoringSteps.{cell-joined, no-cell}
use Rattle.sp_effect_call.proofs.leaves.join_cell.Goals as goal

pub returns-in_ok-join_to : goal.returns-in_ok-join_to
returns-in_ok-join_to g c = λ l h.
    cell-joined (analysed_of c.args.analysis.now) (option_map (λ t. type_of t.now) c.args.of) (g.G.Gives.slots c.args.gives.now) c.args.region l c.args.cell
    (store_of c.args.places.now c.args.row.now l) (store_of c.args.places.now c.join_to.new.row l) c.in_ok-slot.slot
    (sym c.has_cell.ensures ∙ c.if-has_cell.true) c.in_ok-slot.ensures (c.in_ok-join_to.ensures l h)

pub returns-else-has_cell : goal.returns-else-has_cell
returns-else-has_cell g c = λ l h.
    no-cell (analysed_of c.args.analysis.now) (option_map (λ t. type_of t.now) c.args.of) (g.G.Gives.slots c.args.gives.now) c.args.region l c.args.cell (store_of c.args.places.now c.args.row.now l)
    (sym c.has_cell.ensures ∙ c.if-has_cell.false)
