use Rattle.std.proofs.Common.{◌≡◌, ◌≤◌, length}
use Rattle.sp_base_sets.specs.Circling.{state_of, Settled}
use Rattle.sp_base_sets.proofs.circles.end_part.Given as goal

abbrev pub invariant-numbers : goal.invariant-numbers
invariant-numbers l = record {
  settled : Settled (length l.search.path.items) l.mark (state_of l.fn.search) (state_of l.search);
  parts : l.search.parts.items ≡ l.fn.search.parts.items;
  few : length l.search.path.items ≤ length l.fn.search.path.items;
  more : l.part.start ≤ length l.search.path.items;
}

abbrev pub decreases-numbers : goal.decreases-numbers
decreases-numbers l = length l.search.path.items
