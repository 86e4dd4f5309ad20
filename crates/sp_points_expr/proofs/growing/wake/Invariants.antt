use Rattle.std.proofs.Common.{◌≡◌, ◌≤◌, ◌||◌, ℕ, length, take}
use Rattle.sp_base_sets.specs.Sets.{has}
use Rattle.sp_points_expr.proofs.growing.wake.Given as goal

abbrev pub invariant-loop-rule : goal.invariant-loop-rule
invariant-loop-rule l = record {
  counted : l.queue.count ≡ l.fn.queue.count;
  short : length l.fn.queue.numbers ≤ l.fn.queue.count → length l.queue.numbers ≤ l.queue.count;
  reached : (n : ℕ) → has n l.queue.numbers ≡ (has n l.fn.queue.numbers || has n (take l.rule-index l.rules));
}
