use Rattle.std.proofs.Common.{map, arith}
use Rattle.std.specs.Prelude.{slice_get}
use Rattle.sp_effect_rows.specs.Updates.{store_of}
use Rattle.sp_effect_assign.specs.Scene.{known_in_regions}
use Rattle.sp_effect_scene.specs.Analysed.{scene_of}
use Rattle.sp_effect_scene.specs.View.{analysed_of}
use Rattle.sp_effect_entry.proofs.Lists.{mapped_at}
use Rattle.sp_effect_call.specs.ArgumentView.{evaluated_of}
use Rattle.sp_effect_call.proofs.PassedSteps.{placed-there, placed-none, past-image}
use Rattle.sp_effect_call.proofs.passed.join_formal_at.Goals as goal

pub returns-in_ok-join_formal-in-Some : goal.returns-in_ok-join_formal-in-Some
returns-in_ok-join_formal-in-Some g c = λ l h.
    let a = analysed_of c.args.analysis.now in
    placed-there a (known_in_regions (scene_of a) (λ n. g.V.View.store c.args.view.now n)) l c.args.formal (store_of c.args.places.now c.args.row.now l) (store_of c.args.places.now c.join_formal.new.row l)
    (evaluated_of c.in-Some.argument.now) (slice_get (map evaluated_of c.args.arguments.now) c.args.place)
    (mapped_at evaluated_of c.args.arguments.now c.args.place c.in-Some.argument.now c.in-Some.ensures.lookup.3.0 c.in-Some.ensures.lookup.1) (c.in_ok-join_formal-in-Some.ensures l h)

pub returns-in-None : goal.returns-in-None
returns-in-None g c = λ l h.
    let a = analysed_of c.args.analysis.now in
    let past = c.in-None.ensures.lookup.3 in
    placed-none a (known_in_regions (scene_of a) (λ n. g.V.View.store c.args.view.now n)) l c.args.formal (store_of c.args.places.now c.args.row.now l) (store_of c.args.places.now c.args.row.now l)
    (slice_get (map evaluated_of c.args.arguments.now) c.args.place) (past-image evaluated_of c.args.arguments.now c.args.place (omega (arith, past)))
