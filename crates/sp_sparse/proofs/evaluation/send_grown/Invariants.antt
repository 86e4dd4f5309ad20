use Rattle.std.proofs.Common.{◌≡◌, ◌<◌, ℕ, true, drop, get_or}
use Rattle.sp_lattice.specs.System.{has}
use Rattle.sp_deps.specs.Rows.{held}
use Rattle.sp_sparse.specs.inner.Sparse.{IsSent}
use Rattle.sp_sparse.specs.inner.Grid.{IsListGrid, table_at}
use Rattle.sp_sparse.specs.inner.Engine.{IsWorking, EveryBut, IsPaid, locations_at}
use Rattle.sp_sparse.proofs.evaluation.send_grown.Given as goal

-- what grew at the places so far has been sent
abbrev pub invariant-places : goal.invariant-places
invariant-places g l =
    let o = g.S.Value.Lattice.order in
    let m = g.S.System.meaning l.system in
    let test = held l.links.deps.now in
    let ins = table_at o.bottom m.uses l.inputs in
    let outs = table_at o.bottom m.defs l.outputs in
    record {
      grid : IsListGrid m.nodes m.uses l.inputs;
      same_nodes : l.waiting.nodes ≡ m.nodes;
      working : IsWorking o m test (EveryBut test l.node (locations_at m l.node (drop l.place-index l.grown.items))) ins outs l.waiting.waiting;
      still : (n : ℕ) → has n l.fn.waiting.waiting ≡ true → has n l.waiting.waiting ≡ true;
      paid : (counts : ℕ → ℕ) → IsPaid o m (table_at o.bottom m.uses l.fn.inputs) l.fn.waiting.waiting counts → IsPaid o m ins l.waiting.waiting counts;
    }

-- and along the links of the next one
abbrev pub invariant-targets : goal.invariant-targets
invariant-targets g l =
    let o = g.S.Value.Lattice.order in
    let m = g.S.System.meaning l.system in
    let test = held l.links.deps.now in
    let ins = table_at o.bottom m.uses l.inputs in
    let outs = table_at o.bottom m.defs l.outputs in
    record {
      grid : IsListGrid m.nodes m.uses l.inputs;
      same_nodes : l.waiting.nodes ≡ m.nodes;
      working : IsWorking o m test (EveryBut test l.node (locations_at m l.node (drop l.place-index l.grown.items))) ins outs l.waiting.waiting;
      reached : (k : ℕ) (d : ℕ × ℕ) → k < l.target-index → IsSent o ins outs l.node (get_or (m.defs l.node) (get_or l.grown.items l.place-index 0) 0) (get_or l.targets k d).0;
      still : (n : ℕ) → has n l.fn.waiting.waiting ≡ true → has n l.waiting.waiting ≡ true;
      paid : (counts : ℕ → ℕ) → IsPaid o m (table_at o.bottom m.uses l.fn.inputs) l.fn.waiting.waiting counts → IsPaid o m ins l.waiting.waiting counts;
    }
