use Rattle.std.proofs.Common.{◌≡◌, ℕ, nat_lt, ◌&&◌}
use Rattle.sp_ir.specs.Programs.{lowered_of}
use Rattle.sp_base_sets.specs.Sets.{has}
use Rattle.sp_points_rules.specs.Leaves.{leaf_points}
use Rattle.sp_points_rules.proofs.leaves.pointers_of.Given as goal

abbrev pub invariant-loop-region : goal.invariant-loop-region
invariant-loop-region l = (c : ℕ) → has c l.set ≡ (nat_lt c l.region && leaf_points (lowered_of l.lowered) c)
