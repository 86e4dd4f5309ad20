use Rattle.std.proofs.Common.{◌≡◌, ℕ, false, length, get_or}
use Rattle.sp_base_sets.proofs.reach.none_reached.Given as goal

abbrev pub invariant-loop : goal.invariant-loop
invariant-loop l = record {
  long : length l.is_reached.items ≡ l.counter;
  none : (n : ℕ) → get_or l.is_reached.items n false ≡ false;
}
