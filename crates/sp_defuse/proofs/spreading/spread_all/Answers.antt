use Rattle.std.proofs.Common.{◌≡◌, ◌∙◌, ◌↔◌, ℕ, true, [], length, refl, sym, ap, subst, arith}
use Rattle.std.proofs.lemmas.List.{get_or_default}
use Rattle.sp_base_sets.specs.Sets.{has}
use Rattle.sp_base_sets.specs.Reached.{row, Reached}
use Rattle.sp_defuse.proofs.Spreads.{none-spread, spread-fresh, spread-more, all-spread}
use Rattle.sp_defuse.proofs.spreading.spread_all.Goals as goal

pub loop-location-init : goal.loop-location-init
loop-location-init c = none-spread c.args.callers.now c.args.owners.now (length c.args.callers.now) c.in_ok-empty_sets.field-0.items c.in_ok-empty_sets.ensures refl

pub loop-location-preserved : goal.loop-location-preserved
loop-location-preserved c =
    let l = c.loop-location.location in
    let owners = c.args.owners.now in
    let is = c.as_slice.ensures.numbers ∙ c.index-owners-location.is ∙ get_or_default owners l c.index-owners-location.result [] c.loop-location-test.true in
    spread-more c.args.callers.now owners l c.loop-location.spread.sets.items c.spread_one.new.spread.sets.items c.loop-location.invariant c.in_ok-spread_one.ensures.keeps
    (subst (λ xs. (f : ℕ) → (has l (row c.spread_one.new.spread.sets.items f) ≡ true) ↔ Reached c.args.callers.now xs f) is c.in_ok-spread_one.ensures.exact)

pub spread_one-requires-clause-fresh : goal.spread_one-requires-clause-fresh
spread_one-requires-clause-fresh c = spread-fresh c.args.callers.now c.args.owners.now c.loop-location.location c.loop-location.spread.sets.items c.loop-location.invariant

pub spread_one-requires-clause-owners : goal.spread_one-requires-clause-owners
spread_one-requires-clause-owners c = λ f h.
    let l = c.loop-location.location in
    let owners = c.args.owners.now in
    let is = c.as_slice.ensures.numbers ∙ c.index-owners-location.is ∙ get_or_default owners l c.index-owners-location.result [] c.loop-location-test.true in
    c.requires.owners l f (sym (ap (has f) is) ∙ h)

pub returns : goal.returns
returns c = all-spread c.args.callers.now c.args.owners.now c.loop-location.location c.loop-location.spread.sets.items c.loop-location.invariant (omega (arith, c.loop-location-test.false))
