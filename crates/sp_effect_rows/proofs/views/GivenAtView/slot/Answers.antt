use Rattle.std.proofs.Common.{◌∙◌, sym, ap, arith}
use Rattle.sp_value.specs.declared.slots.Slot.TheVariants.{Nothing}
use Rattle.sp_effect_rows.specs.Updates.{store_of}
use Rattle.sp_lattice.proofs.Stores.{written_elsewhere}
use Rattle.sp_effect_rows.proofs.Ordered.{written-at}
use Rattle.sp_effect_rows.proofs.views.GivenAtView.slot.Goals as goal

pub returns-in-Some : goal.returns-in-Some
returns-in-Some c =
    let s = c.args.self.now in
    sym (written-at (λ k. Nothing) s.places.now s.slots.now c.in-Some.place c.index-self-place.result s.rises c.in-Some.ensures.within (omega (arith, c.in-Some.ensures.within, s.long)))
    ∙ ap (λ l. store_of s.places.now s.slots.now l) c.in-Some.ensures.found

pub returns-in-None : goal.returns-in-None
returns-in-None c = let s = c.args.self.now in s.empty ∙ sym (written_elsewhere (λ k. Nothing) s.places.now s.slots.now c.args.location c.in-None.ensures.absent)
