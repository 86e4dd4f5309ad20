use Rattle.std.proofs.Common.{ℕ, map, get_or, arith}
use Rattle.sp_effect_rows.specs.Updates.{store_of}
use Rattle.sp_effect_assign.specs.Scene.{known_in_regions}
use Rattle.sp_effect_scene.specs.Analysed.{scene_of}
use Rattle.sp_effect_scene.specs.View.{analysed_of}
use Rattle.sp_effect_entry.proofs.Steps.{joins-begun, joins-next, joins-all, read-there}
use Rattle.sp_effect_call.specs.Arguments.{callee_slot}
use Rattle.sp_effect_call.specs.ArgumentView.{evaluated_of}
use Rattle.sp_effect_call.proofs.passed.join_callees.Goals as goal

pub loop-function-init : goal.loop-function-init
loop-function-init g c = λ k h.
    let a = analysed_of c.args.analysis.now in
    joins-begun (callee_slot a (known_in_regions (scene_of a) (λ n. g.V.View.store c.args.view.now n)) (map evaluated_of c.args.arguments.now) k) c.args.functions.now (store_of c.args.places.now c.args.row.now k)

pub loop-function-preserved : goal.loop-function-preserved
loop-function-preserved g c = λ k h.
    let a = analysed_of c.args.analysis.now in
    let function = get_or c.args.functions.now c.loop-function.function-index 0 in
    joins-next (callee_slot a (known_in_regions (scene_of a) (λ n. g.V.View.store c.args.view.now n)) (map evaluated_of c.args.arguments.now) k) c.args.functions.now c.loop-function.function-index function
    (store_of c.args.places.now c.args.row.now k) (store_of c.args.places.now c.loop-function.row k) (store_of c.args.places.now c.join_callee.new.row k)
    c.loop-function-test.true (read-there c.args.functions.now c.loop-function.function-index 0 function c.loop-function-test.true) (c.loop-function.invariant k h) (c.in_ok-join_callee.ensures k h)

pub returns : goal.returns
returns g c = λ k h.
    let a = analysed_of c.args.analysis.now in
    joins-all (callee_slot a (known_in_regions (scene_of a) (λ n. g.V.View.store c.args.view.now n)) (map evaluated_of c.args.arguments.now) k) c.args.functions.now c.loop-function.function-index
    (store_of c.args.places.now c.args.row.now k) (store_of c.args.places.now c.loop-function.row k) (omega (arith, c.loop-function-test.false)) (c.loop-function.invariant k h)
