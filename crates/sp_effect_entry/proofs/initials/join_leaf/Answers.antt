use Rattle.std.proofs.Common.{nat_eq, cond, ap, ◌∙◌}
use Rattle.sp_value.specs.declared.slots.Slot.TheVariants.{Nothing}
use Rattle.sp_value.specs.Slots.{slot_join}
use Rattle.sp_effect_rows.specs.Setting.{cell_of}
use Rattle.sp_effect_rows.specs.Updates.{store_of}
use Rattle.sp_effect_scene.specs.Analysed.{setting_of}
use Rattle.sp_effect_scene.specs.View.{analysed_of}
use Rattle.sp_effect_entry.proofs.initials.join_leaf.Goals as goal

pub returns : goal.returns
returns g c = λ l h. c.in_ok-join_to.ensures l h
    ∙ ap (λ x. slot_join (store_of c.args.places.now c.args.row.now l) (cond (nat_eq c.args.leaf.now.cell (cell_of (setting_of (analysed_of c.args.analysis.now)) l)) x Nothing)) c.in_ok-slot.ensures
