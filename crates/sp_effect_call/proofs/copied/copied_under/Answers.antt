use Rattle.std.proofs.Common.{◌∙◌}
use Rattle.sp_ir.specs.Programs.{lowered_of}
use Rattle.sp_points_rules.specs.Paths.{reaches}
use Rattle.sp_effect_assign.specs.Scene.{known_in_regions}
use Rattle.sp_effect_scene.specs.Analysed.{scene_of, locations_of}
use Rattle.sp_effect_scene.specs.View.{analysed_of}
use Rattle.sp_effect_call.specs.Copied.{copied_cell}
use Rattle.sp_effect_call.proofs.Joins.{joined-chosen}
use Rattle.sp_effect_call.proofs.ReadCells.{in-cells}
use Rattle.sp_effect_call.proofs.copied.copied_under.Goals as goal

pub returns : goal.returns
returns g c =
    let p = lowered_of c.args.analysis.now.lowered in
    c.in_ok-value.ensures ∙ joined-chosen (copied_cell p (known_in_regions (scene_of (analysed_of c.args.analysis.now)) (λ l. g.V.View.store c.args.view.now l)) c.args.cell) (reaches p c.args.from) c.under-cells.result.now (locations_of p)
    c.under-cells.ensures.under (in-cells p c.args.from)
