use Rattle.std.proofs.Common.{◌∙◌, ◌<◌, [], length, refl, sym, ap, subst, arith}
use Rattle.std.proofs.lemmas.List.{get_or_default}
use Rattle.sp_base_sets.specs.Sets.{has}
use Rattle.sp_defuse.specs.Spreading.{IsListed, Comes}
use Rattle.sp_defuse.proofs.Spreads.{none-listed, walk-begins, walk-more, walk-few, walk-low, all-reached}
use Rattle.sp_defuse.proofs.spreading.spread_one.Goals as goal

pub give_each-requires-clause-listed : goal.give_each-requires-clause-listed
give_each-requires-clause-listed c = none-listed c.args.location (record { sets = c.args.spread.now.sets; order = c.clear.new.self }) c.clear.ensures.items c.requires.fresh

pub walk-init : goal.walk-init
walk-init c = walk-begins c.args.callers.now c.args.owners.now c.args.location c.args.spread.now.sets.items (record { sets = c.args.spread.now.sets; order = c.clear.new.self }) c.give_each.new.spread refl c.clear.ensures.items
    (subst (λ n. IsListed n c.args.location c.give_each.new.spread) c.requires.long c.in_ok-give_each.ensures.listed) c.in_ok-give_each.ensures.comes

pub bounds-callers-function : goal.bounds-callers-function
bounds-callers-function c =
    let s = c.walk.spread in
    let here : c.walk.at < length s.order.items = omega (arith, c.walk-test.true, c.len.ensures, s.order.ok) in
    walk-low c.args.callers.now c.args.owners.now c.args.location c.args.spread.now.sets.items s c.walk.at c.index-function.result.now c.walk.invariant here
    (c.index-function.ensures ∙ get_or_default s.order.items c.walk.at c.index-function.result.now 0 here)

pub give_each-requires-in-walk-clause-low : goal.give_each-requires-in-walk-clause-low
give_each-requires-in-walk-clause-low c = λ f h.
    let s = c.walk.spread in
    let callers = c.args.callers.now in
    let number = c.index-function.result.now in
    let here : c.walk.at < length s.order.items = omega (arith, c.walk-test.true, c.len.ensures, s.order.ok) in
    let low = walk-low callers c.args.owners.now c.args.location c.args.spread.now.sets.items s c.walk.at number c.walk.invariant here (c.index-function.ensures ∙ get_or_default s.order.items c.walk.at number 0 here) in
    let is = c.as_slice.ensures.numbers ∙ c.index-callers-function.is ∙ get_or_default callers number c.index-callers-function.result [] low in
    omega (arith, c.requires.callers number f (sym (ap (has f) is) ∙ h), c.walk.invariant.listed.long)

pub give_each-requires-in-walk-clause-listed : goal.give_each-requires-in-walk-clause-listed
give_each-requires-in-walk-clause-listed c = subst (λ n. IsListed n c.args.location c.walk.spread) (sym c.walk.invariant.listed.long) c.walk.invariant.listed

pub walk-smaller : goal.walk-smaller
walk-smaller c =
    let few = walk-few c.args.callers.now c.args.owners.now c.args.location c.args.spread.now.sets.items c.walk.spread c.walk.at c.walk.invariant in
    omega (arith, few, c.walk-test.true, c.len.ensures, c.walk.spread.order.ok)

pub walk-preserved : goal.walk-preserved
walk-preserved c =
    let s = c.walk.spread in
    let callers = c.args.callers.now in
    let number = c.index-function.result.now in
    let here : c.walk.at < length s.order.items = omega (arith, c.walk-test.true, c.len.ensures, s.order.ok) in
    let number_is = c.index-function.ensures ∙ get_or_default s.order.items c.walk.at number 0 here in
    let low = walk-low callers c.args.owners.now c.args.location c.args.spread.now.sets.items s c.walk.at number c.walk.invariant here number_is in
    let is = c.as_slice.ensures.numbers ∙ c.index-callers-function.is ∙ get_or_default callers number c.index-callers-function.result [] low in
    walk-more callers c.args.owners.now c.args.location c.args.spread.now.sets.items s c.give_each-in-walk.new.spread c.walk.at number c.walk.invariant here number_is
    (subst (λ n. IsListed n c.args.location c.give_each-in-walk.new.spread) c.walk.invariant.listed.long c.in_ok-give_each-2.ensures.listed)
    (subst (λ xs. Comes c.args.location xs s c.give_each-in-walk.new.spread) is c.in_ok-give_each-2.ensures.comes)

pub returns-clause-exact : goal.returns-clause-exact
returns-clause-exact c = all-reached c.args.callers.now c.args.owners.now c.args.location c.args.spread.now.sets.items c.walk.spread c.walk.at c.walk.invariant (omega (arith, c.walk-test.false, c.len.ensures, c.walk.spread.order.ok))
