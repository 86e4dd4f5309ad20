use Rattle.std.proofs.Common.{◌≡◌, ℕ, false, length, get_or}
use Rattle.sp_points_expr.proofs.queue.Queue.none.Given as goal

abbrev pub invariant-loop : goal.invariant-loop
invariant-loop l = record {
  long : length l.is_waiting.items ≡ l.counter;
  none : (n : ℕ) → get_or l.is_waiting.items n false ≡ false;
}
