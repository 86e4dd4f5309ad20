use Rattle.std.proofs.Common.{◌≡◌, ◌*◌, ◌<◌, ℕ, true, false, length, get_or}
use Rattle.sp_sparse.proofs.waiting.WaitingNodes.all.Given as goal

-- the nodes so far stand in the buffer in order, each with its mark
abbrev pub invariant-loop-node : goal.invariant-loop-node
invariant-loop-node l = record {
  long : length l.buffer.items ≡ 2 * l.nodes;
  marks_long : length l.is_waiting.items ≡ l.node;
  in_order : (k : ℕ) → k < l.node → get_or l.buffer.items k 0 ≡ k;
  marked : (k : ℕ) → k < l.node → get_or l.is_waiting.items k false ≡ true;
}
