use Rattle.std.proofs.Common.{take}
use Rattle.sp_lattice.specs.Dense.{joined, table_of}
use Rattle.sp_dense.specs.inner.Visit.{IsStore}
use Rattle.sp_dense.proofs.evaluation.input_row.Given as goal

-- the row is joined over the edges so far
abbrev pub invariant-loop-from : goal.invariant-loop-from
invariant-loop-from g l =
    let o = g.S.Value.Lattice.order in
    let m = g.S.System.meaning l.system in
    IsStore o m l.row.items (λ k. joined o (λ p. m.passes p l.node k) (λ p. table_of o.bottom l.rows.items p k) o.bottom (take l.from-index l.edges))
