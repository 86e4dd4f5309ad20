use Rattle.std.proofs.Common.{◌≡◌, ℕ, ◌≤◌, nat_eq, drop, length}
use Rattle.indexmap.specs.IndexMap.{get}
use Rattle.sp_lower_functions.specs.Functions.{label_node, node_in}
use Rattle.sp_lower_functions.proofs.gotos.label_nodes.Given as goal

abbrev pub invariant-labels : goal.invariant-labels
invariant-labels l = record {
  within : l.left ≤ length l.labels;
  behind : (n : ℕ) → node_in (get nat_eq l.nodes n) ≡ label_node (drop l.left l.labels) n;
}

abbrev pub decreases-labels : goal.decreases-labels
decreases-labels l = l.left
