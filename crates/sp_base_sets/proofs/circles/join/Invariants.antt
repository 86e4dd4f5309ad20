use Rattle.std.proofs.Common.{length}
use Rattle.sp_base_sets.specs.Circling.{state_of}
use Rattle.sp_base_sets.proofs.Leaving.{Joining}
use Rattle.sp_base_sets.proofs.circles.join.Given as goal

abbrev pub invariant-parts : goal.invariant-parts
invariant-parts l = Joining l.place (state_of l.fn.search) (state_of l.search)

abbrev pub decreases-parts : goal.decreases-parts
decreases-parts l = length l.search.parts.items
