use Rattle.std.proofs.Common.{◌≡◌, ◌<◌, ℕ, true, length}
use Rattle.sp_lattice.specs.System.{AllBelow, has}
use Rattle.sp_dense.proofs.worklist.Worklist.all.Given as goal

abbrev pub invariant-loop-node : goal.invariant-loop-node
invariant-loop-node l = record {
  long : length l.queue.items ≡ l.node;
  marks : length l.is_waiting.items ≡ l.node;
  low : AllBelow l.node l.queue.items;
  every : (n : ℕ) → n < l.node → has n l.queue.items ≡ true;
}
