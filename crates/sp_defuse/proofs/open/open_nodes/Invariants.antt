use Rattle.std.proofs.Common.{◌≡◌, ℕ, true, false, length, get_or}
use Rattle.std.specs.List.{list_all}
use Rattle.sp_graph.specs.Supergraph.{edges_at}
use Rattle.sp_defuse.specs.Open.{is_open}
use Rattle.sp_defuse.proofs.open.open_nodes.Given as goal

abbrev pub invariant-loop-node : goal.invariant-loop-node
invariant-loop-node l = record {
  long : length l.marks.items ≡ l.node-index;
  each : (k : ℕ) → get_or l.marks.items k false ≡ true → list_all is_open (edges_at l.flow.rows (get_or l.flow.nodes k 0)) ≡ true;
}
