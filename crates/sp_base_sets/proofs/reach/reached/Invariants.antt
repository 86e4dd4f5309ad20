use Rattle.std.proofs.Common.{◌-◌, length}
use Rattle.sp_base_sets.proofs.Walks.{Walks}
use Rattle.sp_base_sets.proofs.reach.reached.Given as goal

abbrev pub invariant-walk : goal.invariant-walk
invariant-walk l = Walks l.lists l.starts l.walk l.at

abbrev pub decreases-walk : goal.decreases-walk
decreases-walk l = length l.lists - l.at
