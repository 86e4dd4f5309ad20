use Rattle.std.proofs.Common.{ap, ◌∙◌, cond}
use Rattle.sp_ir.specs.View.{lvalue_of}
use Rattle.sp_value.specs.declared.targets.Target.{Target}
use Rattle.sp_value.specs.Slots.{slot_join}
use Rattle.sp_effect_rows.specs.Rows.{joins, kept_if}
use Rattle.sp_effect_rows.specs.Storing.{kept_by}
use Rattle.sp_effect_rows.specs.Updates.{store_of}
use Rattle.sp_effect_scene.specs.View.{analysed_of}
use Rattle.sp_effect_call.specs.Copies.{leaf_destination}
use Rattle.sp_effect_call.specs.Slots.{bottom_slot}
use Rattle.sp_effect_call.proofs.leaves.store_leaves.Goals as goal

pub returns : goal.returns
returns g c = λ l h. c.in_ok-store_among.ensures l h
    ∙ ap (λ b. slot_join (cond b (kept_if (kept_by (leaf_destination (analysed_of c.args.analysis.now) (lvalue_of c.args.to.now)) c.args.targets.now l) (store_of c.args.places.now c.args.row.now l)) (store_of c.args.places.now c.args.row.now l))
    (joins (λ (x : Target). bottom_slot (analysed_of c.args.analysis.now) (lvalue_of c.args.to.now) (g.G.Gives.slots c.args.gives.now) l x.region) c.args.targets.now)) h
