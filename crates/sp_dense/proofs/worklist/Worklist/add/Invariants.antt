use Rattle.std.proofs.Common.{◌≡◌, ◌≤◌, ◌+◌, length, take}
use Rattle.sp_dense.specs.inner.Waiting.{IsKept, Adds}
use Rattle.sp_dense.proofs.Queue.{idle}
use Rattle.sp_dense.proofs.worklist.Worklist.add.Given as goal

-- each node that came in was without the mark and has it now
abbrev pub invariant-loop-node : goal.invariant-loop-node
invariant-loop-node l = record {
  kept : IsKept l.self-inside.is_waiting.items l.self-inside.queue.items;
  same_nodes : length l.self-inside.is_waiting.items ≡ l.fn.self.nodes;
  so_far : Adds l.fn.self.waiting l.self-inside.queue.items (take l.node-index l.nodes);
  fewer : length l.self-inside.queue.items + idle l.self-inside.is_waiting.items ≤ length l.fn.self.waiting + l.fn.self.nodes;
}
