use Rattle.std.proofs.Common.{◌-◌}
use Rattle.sp_deps.proofs.Walks.{Walks}
use Rattle.sp_deps.proofs.walk.walk_back.Given as goal

abbrev pub invariant-waiting : goal.invariant-waiting
invariant-waiting g l = Walks (g.S.System.meaning l.system) l.location l.stretches.heads.items l.to l.walk l.at

abbrev pub decreases-waiting : goal.decreases-waiting
decreases-waiting g l = (g.S.System.meaning l.system).nodes - l.at
