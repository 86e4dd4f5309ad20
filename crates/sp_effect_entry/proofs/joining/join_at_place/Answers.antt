use Rattle.std.proofs.Common.{sym, ◌∙◌}
use Rattle.sp_effect_rows.specs.Updates.{store_of}
use Rattle.sp_effect_entry.proofs.Steps.{not-there}
use Rattle.sp_effect_entry.proofs.joining.join_at_place.Goals as goal

pub returns-else-is_place : goal.returns-else-is_place
returns-else-is_place c = λ l h. not-there c.args.places.now c.args.location l c.args.slot.now (store_of c.args.places.now c.args.row.now l) (sym c.is_place.ensures ∙ c.if-is_place.false) h
