use Rattle.std.proofs.Common.{arith}
use Rattle.sp_effect_scene.specs.View.{analysed_of}
use Rattle.sp_effect_call.specs.Passed.{formal_has}
use Rattle.sp_effect_uses.proofs.Steps.{adds-begun, adds-more, adds-all}
use Rattle.sp_effect_uses.proofs.writes.add_formals.Goals as goal

pub loop-formal-init : goal.loop-formal-init
loop-formal-init c = adds-begun (λ x r. formal_has (analysed_of c.args.analysis.now).program x r) c.args.formals.now c.args.set.now

pub loop-formal-preserved : goal.loop-formal-preserved
loop-formal-preserved c =
    adds-more (λ x r. formal_has (analysed_of c.args.analysis.now).program x r) c.args.formals.now c.loop-formal.formal-index 0 c.args.set.now c.loop-formal.set c.add_formal.new.set c.loop-formal-test.true c.loop-formal.invariant c.in_ok-add_formal.ensures

pub returns : goal.returns
returns c =
    (adds-all (λ x r. formal_has (analysed_of c.args.analysis.now).program x r) c.args.formals.now c.loop-formal.formal-index c.args.set.now c.loop-formal.set (omega (arith, c.loop-formal-test.false)) c.loop-formal.invariant)
