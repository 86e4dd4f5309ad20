use Rattle.std.proofs.Common.{◌≢◌}
use Rattle.sp_base_sets.specs.Circling.{state_of, stage_at, IsSearch, GoesOn, left}
use Rattle.sp_base_sets.specs.declared.circles.Stage.TheVariants.{New}
use Rattle.sp_base_sets.proofs.circles.search_from.Given as goal

abbrev pub invariant-walk : goal.invariant-walk
invariant-walk l = record {
  search : IsSearch l.lists (state_of l.search);
  seen : GoesOn (state_of l.fn.search) (state_of l.search);
  here : stage_at (state_of l.search) l.number ≢ New;
}

abbrev pub decreases-walk : goal.decreases-walk
decreases-walk l = left l.lists (state_of l.search)
