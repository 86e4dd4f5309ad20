use Rattle.std.proofs.Common.{None, ap, ◌∙◌}
use Rattle.sp_value.specs.Slots.{slot_join}
use Rattle.sp_effect_rows.specs.Updates.{store_of}
use Rattle.sp_effect_scene.specs.View.{analysed_of}
use Rattle.sp_effect_call.proofs.StoringSteps.{cells-joined, low-member}
use Rattle.sp_effect_library.proofs.joins.join_under.Goals as goal

pub returns : goal.returns
returns g c = λ l h. c.in_ok-join_cells.ensures l h
    ∙ ap (slot_join (store_of c.args.places.now c.args.row.now l)) (cells-joined (analysed_of c.args.analysis.now) None (g.G.Gives.slots c.args.gives.now) c.args.region l
    (low-member _ c.args.places.now l c.requires.low h) c.under-cells.result.now c.under-cells.ensures.under)
