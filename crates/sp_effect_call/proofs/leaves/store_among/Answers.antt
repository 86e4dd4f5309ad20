use Rattle.std.proofs.Common.{ap, ◌∙◌}
use Rattle.sp_ir.specs.View.{lvalue_of}
use Rattle.sp_value.specs.declared.targets.Target.{Target}
use Rattle.sp_value.specs.Slots.{slot_join}
use Rattle.sp_effect_rows.specs.Rows.{joins}
use Rattle.sp_effect_scene.specs.View.{analysed_of}
use Rattle.sp_effect_call.specs.Slots.{bottom_slot}
use Rattle.sp_effect_call.proofs.leaves.store_among.Goals as goal

pub returns : goal.returns
returns g c = λ l h. c.in_ok-join_targets.ensures l h
    ∙ ap (λ s. slot_join s (joins (λ (x : Target). bottom_slot (analysed_of c.args.analysis.now) (lvalue_of c.args.to.now) (g.G.Gives.slots c.args.gives.now) l x.region) c.args.targets.now)) (c.clear.ensures l)
