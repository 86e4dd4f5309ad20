use Rattle.sp_deps.specs.Rows.{held}
use Rattle.sp_sparse.proofs.Laying.{IsLaying}
use Rattle.sp_sparse.proofs.links.links_of.Given as goal

abbrev pub invariant-nodes : goal.invariant-nodes
invariant-nodes g l = IsLaying (g.S.System.meaning l.system) (held l.deps) l.rows l.node 0

abbrev pub invariant-definitions : goal.invariant-definitions
invariant-definitions g l = IsLaying (g.S.System.meaning l.system) (held l.deps) l.rows l.node l.location-index
