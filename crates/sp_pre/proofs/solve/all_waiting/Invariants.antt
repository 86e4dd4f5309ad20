use Rattle.std.proofs.Common.{◌≡◌, ◌<◌, ◌≤◌, ◌+◌, ℕ, true, length}
use Rattle.sp_base_sets.specs.Sets.{has}
use Rattle.sp_pre.proofs.solve.all_waiting.Given as goal

abbrev pub invariant-loop-before : goal.invariant-loop-before
invariant-loop-before l = record {
  counted : l.queue.count ≡ l.count;
  all : (n : ℕ) → n < l.count → l.count ≤ n + l.before → has n l.queue.numbers ≡ true;
  short : length l.queue.numbers ≤ l.queue.count;
}
