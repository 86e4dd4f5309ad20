use Rattle.std.proofs.Common.{◌∙◌, ◌<◌, [], length, sym, ap, subst, arith}
use Rattle.std.proofs.lemmas.List.{get_or_default}
use Rattle.sp_base_sets.specs.Sets.{has}
use Rattle.sp_base_sets.specs.Walking.{IsListed, Comes}
use Rattle.sp_base_sets.proofs.Walks.{walk_begins, walk_more, walk_few, walk_low, all_reached}
use Rattle.sp_base_sets.proofs.reach.reached.Goals as goal

pub bounds-lists-number : goal.bounds-lists-number
bounds-lists-number c = walk_low c.args.lists.now c.args.starts.now c.walk.walk c.walk.at c.index-number.result.now c.walk.invariant (omega (arith, c.walk-test.true, c.len.ensures, c.walk.walk.order.ok)) c.index-number.ensures

pub reach_each-requires-clause-low : goal.reach_each-requires-clause-low
reach_each-requires-clause-low c n h = omega (arith, c.requires.starts n h, c.in_ok-walk.ensures.listed.1)

pub walk-init : goal.walk-init
walk-init c = walk_begins c.args.lists.now c.args.starts.now c.in_ok-walk.walk c.reach_each.new.walk c.in_ok-walk.ensures.none (subst (λ n. IsListed n c.reach_each.new.walk) c.in_ok-walk.ensures.listed.1 c.in_ok-reach_each.ensures.listed) c.in_ok-reach_each.ensures.comes

pub walk-smaller : goal.walk-smaller
walk-smaller c =
    omega (arith, walk_few c.args.lists.now c.args.starts.now c.walk.walk c.walk.at c.walk.invariant, c.walk-test.true, c.len.ensures, c.walk.walk.order.ok)

pub returns-clause-exact : goal.returns-clause-exact
returns-clause-exact c = all_reached c.args.lists.now c.args.starts.now c.walk.walk c.walk.at c.walk.invariant (omega (arith, c.walk-test.false, c.len.ensures, c.walk.walk.order.ok))

pub reach_each-requires-in-walk-clause-low : goal.reach_each-requires-in-walk-clause-low
reach_each-requires-in-walk-clause-low c n h =
    let lists = c.args.lists.now in
    let number = c.index-number.result.now in
    let here : c.walk.at < length c.walk.walk.order.items = omega (arith, c.walk-test.true, c.len.ensures, c.walk.walk.order.ok) in
    let low = walk_low lists c.args.starts.now c.walk.walk c.walk.at number c.walk.invariant here c.index-number.ensures in
    let is = c.as_slice.ensures.numbers ∙ c.index-lists-number.is ∙ get_or_default lists number c.index-lists-number.result [] low in
    omega (arith, c.requires.low number n (sym (ap (λ xs. has n xs) is) ∙ h), c.walk.invariant.listed.1)

pub walk-preserved : goal.walk-preserved
walk-preserved c =
    let lists = c.args.lists.now in
    let number = c.index-number.result.now in
    let here : c.walk.at < length c.walk.walk.order.items = omega (arith, c.walk-test.true, c.len.ensures, c.walk.walk.order.ok) in
    let low = walk_low lists c.args.starts.now c.walk.walk c.walk.at number c.walk.invariant here c.index-number.ensures in
    let is = c.as_slice.ensures.numbers ∙ c.index-lists-number.is ∙ get_or_default lists number c.index-lists-number.result [] low in
    walk_more lists c.args.starts.now c.walk.walk c.reach_each-in-walk.new.walk c.walk.at number c.walk.invariant here
    (c.index-number.ensures ∙ get_or_default c.walk.walk.order.items c.walk.at number 0 here)
    (subst (λ n. IsListed n c.reach_each-in-walk.new.walk) c.walk.invariant.listed.1 c.in_ok-reach_each-2.ensures.listed)
    (subst (λ xs. Comes xs c.walk.walk c.reach_each-in-walk.new.walk) is c.in_ok-reach_each-2.ensures.comes)
