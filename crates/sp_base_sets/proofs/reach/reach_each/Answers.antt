use Rattle.std.proofs.Common.{get_or, arith, refl}
use Rattle.sp_base_sets.proofs.Members.{has_there}
use Rattle.sp_base_sets.proofs.reach.reach_each.Goals as goal

pub reach-requires-clause-low : goal.reach-requires-clause-low
reach-requires-clause-low c =
    let xs = c.args.numbers.now in
    let i = c.loop-number.number-index in
    let low = c.requires.low (get_or xs i 0) (has_there xs (get_or xs i 0) i c.loop-number-test.true refl) in
    omega (arith, low, c.loop-number.invariant.listed.1)
