use Rattle.std.proofs.Common.{◌≡◌, ◌<◌, ◌||◌, ℕ, length, take}
use Rattle.std.specs.Prelude.{MatchBool}
use Rattle.sp_base_sets.specs.Sets.{has, Ascends}
use Rattle.sp_points_expr.proofs.growing.add_numbers.Given as goal

abbrev pub invariant-loop-number : goal.invariant-loop-number
invariant-loop-number l = record {
  numbers : (n : ℕ) → has n l.row ≡ (has n l.fn.row || has n (take l.number-index l.numbers));
  ascending : Ascends l.fn.row → Ascends l.row;
  longer : MatchBool l.grew (length l.fn.row < length l.row) (l.row ≡ l.fn.row);
}
