use Rattle.std.proofs.Common.{◌≡◌, ◌<◌, ◌≤◌, ℕ, length, slice_index_or}
use Rattle.sp_sparse.specs.Order.{number_of, turn_of}
use Rattle.sp_sparse.proofs.pickers.first_from.Given as goal

abbrev pub invariant-loop-at : goal.invariant-loop-at
invariant-loop-at l = record {
  low : l.place < length l.waiting;
  least : l.least ≡ turn_of l.next (number_of l.order (slice_index_or l.waiting l.place 0));
  behind : l.place ≤ l.at;
  none : (k : ℕ) → k < l.at → l.least ≤ turn_of l.next (number_of l.order (slice_index_or l.waiting k 0));
  before : (k : ℕ) → k < l.place → l.least < turn_of l.next (number_of l.order (slice_index_or l.waiting k 0));
}
