use Rattle.std.proofs.Common.{get_or, arith, refl, sym, subst}
use Rattle.sp_base_sets.proofs.Members.{has_there}
use Rattle.sp_defuse.specs.Spreading.{IsListed}
use Rattle.sp_defuse.proofs.Spreads.{comes-begun, comes-more}
use Rattle.sp_defuse.proofs.spreading.give_each.Goals as goal

pub give-requires-clause-low : goal.give-requires-clause-low
give-requires-clause-low c =
    let xs = c.args.functions.now in
    let i = c.loop-function.function-index in
    let low = c.requires.low (get_or xs i 0) (has_there xs (get_or xs i 0) i c.loop-function-test.true refl) in
    omega (arith, low, c.loop-function.invariant.listed.long)

pub give-requires-clause-listed : goal.give-requires-clause-listed
give-requires-clause-listed c = subst (λ n. IsListed n c.args.location c.loop-function.spread) (sym c.loop-function.invariant.listed.long) c.loop-function.invariant.listed

pub loop-function-init : goal.loop-function-init
loop-function-init c = record { listed = c.requires.listed; so_far = comes-begun c.args.location c.args.spread.now }

pub loop-function-preserved : goal.loop-function-preserved
loop-function-preserved c = record {
  listed = subst (λ n. IsListed n c.args.location c.give.new.spread) c.loop-function.invariant.listed.long c.in_ok-give.ensures.listed;
  so_far = comes-more c.args.location c.args.spread.now c.loop-function.spread c.give.new.spread c.args.functions.now c.loop-function.function-index c.loop-function-test.true c.loop-function.invariant.so_far c.in_ok-give.ensures.comes;
}
