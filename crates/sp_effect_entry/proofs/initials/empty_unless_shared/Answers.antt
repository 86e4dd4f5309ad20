use Rattle.std.proofs.Common.{cond, sym, ap, ◌∙◌}
use Rattle.sp_value.specs.declared.slots.Slot.TheVariants.{Nothing}
use Rattle.sp_effect_rows.specs.Updates.{store_of}
use Rattle.sp_effect_entry.proofs.initials.empty_unless_shared.Goals as goal

pub returns-then-is_shared : goal.returns-then-is_shared
returns-then-is_shared c = λ l h. ap (λ b. cond b (store_of c.args.places.now c.args.row.now l) Nothing) (sym (sym c.is_shared.ensures ∙ c.if-is_shared.true))

pub returns-in_ok-empty : goal.returns-in_ok-empty
returns-in_ok-empty c = λ l h. c.in_ok-empty.ensures l h ∙ ap (λ b. cond b (store_of c.args.places.now c.args.row.now l) Nothing) (sym (sym c.is_shared.ensures ∙ c.if-is_shared.false))
