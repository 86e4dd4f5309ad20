use Rattle.sp_defuse.proofs.Spreads.{AreSpread}
use Rattle.sp_defuse.proofs.spreading.spread_all.Given as goal

abbrev pub invariant-loop-location : goal.invariant-loop-location
invariant-loop-location l = AreSpread l.callers l.owners l.location l.spread.sets.items
