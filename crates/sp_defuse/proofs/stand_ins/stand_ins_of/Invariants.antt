use Rattle.sp_defuse.proofs.StandFors.{SoFar}
use Rattle.sp_defuse.proofs.stand_ins.stand_ins_of.Given as goal

abbrev pub invariant-loop-location : goal.invariant-loop-location
invariant-loop-location l = SoFar l.initial.owners.items l.location l.last l.owners.items l.stand_ins.items
