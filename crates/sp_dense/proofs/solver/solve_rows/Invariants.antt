use Rattle.std.proofs.Common.{◌≡◌, ◌≤◌, ◌+◌, ◌*◌, ◌-◌, length}
use Rattle.sp_lattice.specs.Dense.{table_of}
use Rattle.sp_lattice.specs.Bound.{total_rank}
use Rattle.sp_dense.specs.inner.Visit.{IsStoreGrid, HasSuccessors, IsWorking}
use Rattle.sp_dense.proofs.solver.solve_rows.Given as goal

-- the visits so far and those that wait are paid: a visit of each node to begin with, and one of each
-- wherever the total rank rose
abbrev pub invariant-visits : goal.invariant-visits
invariant-visits g l =
    let o = g.S.Value.Lattice.order in
    let m = g.S.System.meaning l.system in
    let table = table_of o.bottom l.rows.items in
    record {
      grid : IsStoreGrid m l.rows.items;
      reversed : HasSuccessors m l.successors.items;
      same_nodes : l.waiting.nodes ≡ m.nodes;
      working : IsWorking o m table l.waiting.waiting;
      counted : l.steps + length l.waiting.waiting ≤ l.fn.steps + (m.nodes + m.nodes * total_rank m table);
    }

abbrev pub decreases-visits : goal.decreases-visits
decreases-visits g l =
    let m = g.S.System.meaning l.system in
    (m.nodes + 1) * (m.nodes * (m.locations * m.height)) - (m.nodes + 1) * total_rank m (table_of g.S.Value.Lattice.order.bottom l.rows.items) + length l.waiting.waiting
