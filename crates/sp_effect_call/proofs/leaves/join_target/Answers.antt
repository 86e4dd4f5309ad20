use Rattle.std.proofs.Common.{sym, ◌∙◌}
use Rattle.sp_types.specs.View.{type_of}
use Rattle.sp_ir.specs.View.{lvalue_of}
use Rattle.sp_effect_rows.specs.Updates.{store_of}
use Rattle.sp_effect_scene.specs.View.{analysed_of}
use Rattle.sp_effect_call.proofs.StoringSteps.{target-joined, no-target, low-member}
use Rattle.sp_effect_call.proofs.leaves.join_target.Goals as goal

pub returns-in_ok-join_cells : goal.returns-in_ok-join_cells
returns-in_ok-join_cells g c = λ l h.
    target-joined (analysed_of c.args.analysis.now) (lvalue_of c.args.to.now) (g.G.Gives.slots c.args.gives.now) c.args.region l
    (store_of c.args.places.now c.args.row.now l) (store_of c.args.places.now c.join_cells.new.row l)
    (low-member _ c.args.places.now l c.requires.low h) (type_of c.of.result.now) c.region_under-region.result c.under-cells.result.now
    c.of.ensures c.region_under-region.ensures (sym c.bottom_accepts.ensures ∙ c.if-bottom_accepts.true) c.under-cells.ensures.under (c.in_ok-join_cells.ensures l h)

pub returns-else-bottom_accepts : goal.returns-else-bottom_accepts
returns-else-bottom_accepts g c = λ l h.
    no-target (analysed_of c.args.analysis.now) (lvalue_of c.args.to.now) (g.G.Gives.slots c.args.gives.now) c.args.region l (store_of c.args.places.now c.args.row.now l) (store_of c.args.places.now c.args.row.now l)
    (sym c.bottom_accepts.ensures ∙ c.if-bottom_accepts.false)
