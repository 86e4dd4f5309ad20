use Rattle.sp_sparse.proofs.Updating.{IsUpdating}
use Rattle.sp_sparse.proofs.evaluation.update.Given as goal

abbrev pub invariant-places : goal.invariant-places
invariant-places g l = IsUpdating g.V.Lattice.order l.fn.made.items l.made.items l.fn.outputs l.outputs l.node l.place l.grown.items
