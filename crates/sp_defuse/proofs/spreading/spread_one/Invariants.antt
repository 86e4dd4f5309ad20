use Rattle.std.proofs.Common.{◌-◌, length}
use Rattle.sp_defuse.proofs.Spreads.{Walks}
use Rattle.sp_defuse.proofs.spreading.spread_one.Given as goal

abbrev pub invariant-walk : goal.invariant-walk
invariant-walk l = Walks l.callers l.owners l.location l.fn.spread.sets.items l.spread l.at

abbrev pub decreases-walk : goal.decreases-walk
decreases-walk l = length l.callers - l.at
