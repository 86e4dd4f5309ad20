use Rattle.std.proofs.Common.{map, sym, arith}
use Rattle.sp_effect_rows.specs.Updates.{store_of}
use Rattle.sp_effect_rows.proofs.UpdateLaws.{join-nothing}
use Rattle.sp_effect_assign.specs.Scene.{known_in_regions}
use Rattle.sp_effect_scene.specs.Analysed.{scene_of}
use Rattle.sp_effect_scene.specs.View.{analysed_of}
use Rattle.sp_effect_call.specs.ArgumentView.{evaluated_of}
use Rattle.sp_effect_call.proofs.PassedSteps.{zipped-next, zipped-all}
use Rattle.sp_effect_call.proofs.passed.join_formals.Goals as goal

pub loop-place-init : goal.loop-place-init
loop-place-init g c = λ k h. sym (join-nothing (store_of c.args.places.now c.args.row.now k))

pub loop-place-preserved : goal.loop-place-preserved
loop-place-preserved g c = λ k h.
    let a = analysed_of c.args.analysis.now in
    zipped-next a (known_in_regions (scene_of a) (λ n. g.V.View.store c.args.view.now n)) k c.args.formals.now (map evaluated_of c.args.arguments.now) c.loop-place.place 0
    (store_of c.args.places.now c.args.row.now k) (store_of c.args.places.now c.loop-place.row k) (store_of c.args.places.now c.join_formal_at.new.row k)
    c.loop-place-test.true (c.loop-place.invariant k h) (c.in_ok-join_formal_at.ensures k h)

pub returns : goal.returns
returns g c = λ k h.
    let a = analysed_of c.args.analysis.now in
    zipped-all a (known_in_regions (scene_of a) (λ n. g.V.View.store c.args.view.now n)) k c.args.formals.now (map evaluated_of c.args.arguments.now) c.loop-place.place
    (store_of c.args.places.now c.args.row.now k) (store_of c.args.places.now c.loop-place.row k) (omega (arith, c.loop-place-test.false)) (c.loop-place.invariant k h)
