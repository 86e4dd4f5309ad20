use Rattle.std.proofs.Common.{◌≡◌, ◌∙◌, subst, arith}
use Rattle.std.specs.Prelude.{slice_set}
use Rattle.sp_value.specs.declared.slots.Slot.TheVariants.{Nothing}
use Rattle.sp_effect_rows.specs.Updates.{store_of}
use Rattle.sp_effect_rows.proofs.Ordered.{written-set_same, written-set_other}
use Rattle.sp_effect_rows.proofs.updates.put_at.Goals as goal

pub returns-clause-there : goal.returns-clause-there
returns-clause-there c = subst (λ k. store_of c.args.places.now (slice_set c.args.row.now c.place_of-place.result c.args.slot) k ≡ c.args.slot) c.place_of-place.ensures.found
    (written-set_same (λ k. Nothing) c.args.places.now c.args.row.now c.place_of-place.result c.args.slot c.requires.ascend c.place_of-place.ensures.within (omega (arith, c.place_of-place.ensures.within, c.requires.long)))

pub returns-clause-others : goal.returns-clause-others
returns-clause-others c = λ l apart. written-set_other (λ k. Nothing) c.args.places.now c.args.row.now c.place_of-place.result c.args.slot l c.place_of-place.ensures.within (λ e. apart (e ∙ c.place_of-place.ensures.found))
