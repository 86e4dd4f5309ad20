use Rattle.std.specs.Prelude.{option_map}
use Rattle.sp_types.specs.View.{type_of}
use Rattle.sp_effect_rows.specs.Updates.{store_of}
use Rattle.sp_effect_assign.specs.Scene.{known_in_regions}
use Rattle.sp_effect_scene.specs.Analysed.{scene_of}
use Rattle.sp_effect_scene.specs.View.{analysed_of}
use Rattle.sp_effect_call.specs.ArgumentView.{evaluated_of}
use Rattle.sp_effect_call.proofs.StoringSteps.{low-member}
use Rattle.sp_effect_call.proofs.PassedSteps.{formal-joined}
use Rattle.sp_effect_call.proofs.passed.join_formal.Goals as goal

pub returns : goal.returns
returns g c = λ l h.
    let a = analysed_of c.args.analysis.now in
    formal-joined a (known_in_regions (scene_of a) (λ n. g.V.View.store c.args.view.now n)) l c.args.formal (store_of c.args.places.now c.args.row.now l) (store_of c.args.places.now c.join_cells.new.row l)
    (evaluated_of c.args.argument.now) (option_map (λ t. type_of t.now) c.type_at-of.result) c.root_of-root.result c.under-cells.result.now
    (low-member _ c.args.places.now l c.requires.low h) c.type_at-of.ensures c.root_of-root.ensures c.under-cells.ensures.under (c.in_ok-join_cells.ensures l h)
