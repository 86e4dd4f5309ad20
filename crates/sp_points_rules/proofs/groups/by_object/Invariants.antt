use Rattle.std.proofs.Common.{◌≡◌, ◌<◌, ℕ, true, length}
use Rattle.sp_ir.specs.Regions.{is_cell_at}
use Rattle.sp_ir.specs.Programs.{lowered_of}
use Rattle.sp_base_sets.specs.Sets.{has}
use Rattle.sp_base_sets.specs.Reached.{row}
use Rattle.sp_points_rules.specs.Paths.{object_at}
use Rattle.sp_points_rules.proofs.groups.by_object.Given as goal

abbrev pub invariant-loop-region : goal.invariant-loop-region
invariant-loop-region l = record {
  long : length l.groups.items ≡ length l.initial.groups.items;
  there : (k : ℕ) → k < l.region → is_cell_at (lowered_of l.lowered).regions k ≡ true → object_at (lowered_of l.lowered) k < length l.groups.items → has k (row l.groups.items (object_at (lowered_of l.lowered) k)) ≡ true;
  own : (o n : ℕ) → has n (row l.groups.items o) ≡ true → object_at (lowered_of l.lowered) n ≡ o;
  cells : (o n : ℕ) → has n (row l.groups.items o) ≡ true → is_cell_at (lowered_of l.lowered).regions n ≡ true;
}
