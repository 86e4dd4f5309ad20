use Rattle.std.proofs.Common.{arith}
use Rattle.sp_ir.specs.View.{lvalue_of}
use Rattle.sp_value.specs.declared.targets.Target.{Target}
use Rattle.sp_effect_rows.specs.Updates.{store_of}
use Rattle.sp_effect_scene.specs.View.{analysed_of}
use Rattle.sp_effect_entry.proofs.Steps.{joins-begun, joins-all}
use Rattle.sp_effect_call.specs.Slots.{bottom_slot}
use Rattle.sp_effect_call.proofs.StoringSteps.{targets-next}
use Rattle.sp_effect_call.proofs.leaves.join_targets.Goals as goal

pub loop-target-init : goal.loop-target-init
loop-target-init g c = λ k h. joins-begun (λ (x : Target). bottom_slot (analysed_of c.args.analysis.now) (lvalue_of c.args.to.now) (g.G.Gives.slots c.args.gives.now) k x.region) c.args.targets.now (store_of c.args.places.now c.args.row.now k)

pub loop-target-preserved : goal.loop-target-preserved
loop-target-preserved g c = λ k h.
    targets-next (bottom_slot (analysed_of c.args.analysis.now) (lvalue_of c.args.to.now) (g.G.Gives.slots c.args.gives.now) k) c.args.targets.now c.loop-target.target-index _
    (store_of c.args.places.now c.args.row.now k) (store_of c.args.places.now c.loop-target.row k) (store_of c.args.places.now c.join_target.new.row k)
    c.loop-target-test.true (c.loop-target.invariant k h) (c.in_ok-join_target.ensures k h)

pub returns : goal.returns
returns g c = λ k h.
    joins-all (λ (x : Target). bottom_slot (analysed_of c.args.analysis.now) (lvalue_of c.args.to.now) (g.G.Gives.slots c.args.gives.now) k x.region) c.args.targets.now c.loop-target.target-index
    (store_of c.args.places.now c.args.row.now k) (store_of c.args.places.now c.loop-target.row k) (omega (arith, c.loop-target-test.false)) (c.loop-target.invariant k h)
