use Rattle.std.proofs.Common.{◌≡◌, ◌∙◌, sym, subst, arith}
use Rattle.std.specs.Prelude.{slice_set}
use Rattle.sp_value.specs.declared.slots.Slot.TheVariants.{Nothing}
use Rattle.sp_effect_rows.specs.Updates.{store_of}
use Rattle.sp_effect_rows.proofs.Ordered.{written-at, written-set_same, written-set_other}
use Rattle.sp_transfer.proofs.parts.exchange_one.Goals as goal

pub returns-clause-given : goal.returns-clause-given
returns-clause-given c = subst (λ k. c.swap.new.y ≡ store_of c.args.places.now c.args.row.now k) c.in-Some.ensures.found
    (c.swap.ensures.y_after ∙ sym (written-at (λ k. Nothing) c.args.places.now c.args.row.now c.in-Some.place c.index-row-place.result c.requires.ascend c.in-Some.ensures.within (omega (arith, c.in-Some.ensures.within, c.requires.long))))

pub returns-clause-taken : goal.returns-clause-taken
returns-clause-taken c = subst (λ k. store_of c.args.places.now (slice_set c.args.row.now c.in-Some.place c.swap.new.x) k ≡ c.args.slot.now) c.in-Some.ensures.found
    (written-set_same (λ k. Nothing) c.args.places.now c.args.row.now c.in-Some.place c.swap.new.x c.requires.ascend c.in-Some.ensures.within (omega (arith, c.in-Some.ensures.within, c.requires.long)) ∙ c.swap.ensures.x_after)

pub returns-clause-others : goal.returns-clause-others
returns-clause-others c = λ l apart. written-set_other (λ k. Nothing) c.args.places.now c.args.row.now c.in-Some.place c.swap.new.x l c.in-Some.ensures.within (λ e. apart (e ∙ c.in-Some.ensures.found))
