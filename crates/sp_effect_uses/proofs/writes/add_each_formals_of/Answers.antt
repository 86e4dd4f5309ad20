use Rattle.std.proofs.Common.{arith}
use Rattle.std.specs.List.{list_any}
use Rattle.sp_effect_scene.specs.View.{analysed_of}
use Rattle.sp_effect_call.specs.Passed.{formal_has, formals_of}
use Rattle.sp_effect_uses.proofs.Steps.{adds-begun, adds-more, adds-all}
use Rattle.sp_effect_uses.proofs.writes.add_each_formals_of.Goals as goal

pub loop-function-init : goal.loop-function-init
loop-function-init c = adds-begun (λ x r. list_any (λ o. formal_has (analysed_of c.args.analysis.now).program o r) (formals_of (analysed_of c.args.analysis.now).program x)) c.args.functions.now c.args.set.now

pub loop-function-preserved : goal.loop-function-preserved
loop-function-preserved c =
    adds-more (λ x r. list_any (λ o. formal_has (analysed_of c.args.analysis.now).program o r) (formals_of (analysed_of c.args.analysis.now).program x)) c.args.functions.now c.loop-function.function-index 0 c.args.set.now c.loop-function.set c.add_formals_of.new.set c.loop-function-test.true c.loop-function.invariant c.in_ok-add_formals_of.ensures

pub returns : goal.returns
returns c =
    (adds-all (λ x r. list_any (λ o. formal_has (analysed_of c.args.analysis.now).program o r) (formals_of (analysed_of c.args.analysis.now).program x)) c.args.functions.now c.loop-function.function-index c.args.set.now c.loop-function.set (omega (arith, c.loop-function-test.false)) c.loop-function.invariant)
