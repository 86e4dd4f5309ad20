use Rattle.std.proofs.Common.{◌≡◌, ◌<◌, ℕ, true, false, length, slice_index_or}
use Rattle.sp_sparse.specs.inner.Order.{AreGiven}
use Rattle.sp_sparse.proofs.order.numbered.Given as goal

abbrev pub invariant-loop-node : goal.invariant-loop-node
invariant-loop-node l =
    (goal.iterator-loop-node).can_next l.node-iterator ×
    (goal.iterator-loop-node).is_finite l.node-iterator ×
    (length l.numbers.order.items ≡ l.nodes) ×
    AreGiven l.nodes l.numbers.order.items l.numbers.given.items l.numbers.next

abbrev pub invariant-loop-node-2 : goal.invariant-loop-node-2
invariant-loop-node-2 l = record {
  long : length l.numbers.order.items ≡ l.nodes;
  given : AreGiven l.nodes l.numbers.order.items l.numbers.given.items l.numbers.next;
  all : (n : ℕ) → n < l.node → slice_index_or l.numbers.given.items n false ≡ true;
}
