use Rattle.std.proofs.Common.{subst, sym, arith}
use Rattle.sp_base_sets.specs.Marks.{IsMarked}
use Rattle.sp_base_sets.proofs.Marking.{marked_none}
use Rattle.sp_base_sets.proofs.reach.none_reached.Goals as goal

pub returns-clause-listed : goal.returns-clause-listed
returns-clause-listed c = (subst (λ xs. IsMarked c.loop.is_reached.items xs) (sym c.new.ensures.items) (marked_none c.loop.is_reached.items c.loop.invariant.none), omega (arith, c.loop.invariant.long, c.loop-test.false, c.loop.auto.counter-end))
