use Rattle.std.proofs.Common.{◌≡◌, ◌<◌, ◌≤◌, ◌+◌, ◌-◌, ℕ, false, length, vec_len, sum}
use Rattle.sp_lattice.specs.System.{has}
use Rattle.sp_lattice.specs.Bound.{all_evaluations}
use Rattle.sp_deps.specs.Rows.{held}
use Rattle.sp_sparse.specs.inner.Grid.{IsListGrid, table_at}
use Rattle.sp_sparse.specs.inner.Engine.{IsWorking, Every, IsPaid}
use Rattle.sp_sparse.proofs.Turns.{counted}
use Rattle.sp_sparse.proofs.solver.solve.Given as goal

-- the evaluations so far and those of the nodes that wait are paid, and are the steps
abbrev pub invariant-turns : goal.invariant-turns
invariant-turns g l =
    let o = g.S.Value.Lattice.order in
    let m = g.S.System.meaning l.system in
    let ins = table_at o.bottom m.uses l.inputs in
    let outs = table_at o.bottom m.defs l.outputs in
    record {
      in_grid : IsListGrid m.nodes m.uses l.inputs;
      out_grid : IsListGrid m.nodes m.defs l.outputs;
      room : (n : ℕ) → n < m.nodes → length (m.defs n) ≤ vec_len l.row;
      same_nodes : l.waiting.nodes ≡ m.nodes;
      long : length l.evaluations.items ≡ m.nodes;
      working : IsWorking o m ((held l.links.deps.now)) (Every ((held l.links.deps.now))) ins outs l.waiting.waiting;
      paid : IsPaid o m ins l.waiting.waiting (counted l.evaluations.items);
      once : (n : ℕ) → n < m.nodes → has n l.waiting.waiting ≡ false → 1 ≤ counted l.evaluations.items n;
      ticked : l.steps ≡ l.fn.steps + sum l.evaluations.items;
    }

abbrev pub decreases-turns : goal.decreases-turns
decreases-turns g l = l.fn.steps + all_evaluations (g.S.System.meaning l.system) ((held l.links.deps.now)) - l.steps
