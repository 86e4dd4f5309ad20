use Rattle.sp_octagon.proofs.HalfOrder.{Raised}
use Rattle.sp_octagon.proofs.kept.raise.Given as goal

abbrev pub invariant-places : goal.invariant-places
invariant-places l = Raised l.fn.bounds l.others l.place l.bounds l.grew
