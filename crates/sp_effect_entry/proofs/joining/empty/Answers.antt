use Rattle.std.proofs.Common.{not, ap, ◌∙◌}
use Rattle.sp_value.specs.declared.slots.Slot.TheVariants.{Nothing}
use Rattle.sp_value.specs.Slots.{slot_join}
use Rattle.sp_effect_rows.specs.Rows.{kept_if}
use Rattle.sp_effect_rows.specs.Updates.{store_of}
use Rattle.sp_effect_assign.proofs.Hits.{all-there}
use Rattle.sp_effect_entry.proofs.joining.empty.Goals as goal

pub place-requires-clause-strong_there : goal.place-requires-clause-strong_there
place-requires-clause-strong_there c = all-there c.args.places.now

pub returns : goal.returns
returns c = λ l h. c.in_ok-place.ensures l ∙ ap (λ b. slot_join (kept_if (not b) (store_of c.args.places.now c.args.row.now l)) Nothing) h
