use Rattle.std.proofs.Common.{◌≡◌, ◌&&◌, ◌||◌, ℕ, take}
use Rattle.sp_ir.specs.Programs.{lowered_of}
use Rattle.sp_base_sets.specs.Sets.{has}
use Rattle.sp_points_rules.specs.Paths.{leaf_points_under}
use Rattle.sp_points_rules.proofs.sources.add_pointer_leaves.Given as goal

abbrev pub invariant-loop-cell : goal.invariant-loop-cell
invariant-loop-cell l = (n : ℕ) → has n l.set ≡ (has n l.fn.set || (has n (take l.cell-index l.cells) && leaf_points_under (lowered_of l.facts.lowered.now) l.region n))
