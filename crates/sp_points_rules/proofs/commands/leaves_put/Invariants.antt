use Rattle.std.proofs.Common.{◌<◌, ℕ, map}
use Rattle.sp_ir.specs.Programs.{lowered_of}
use Rattle.sp_ir.specs.View.{leaf_of}
use Rattle.sp_points_rules.specs.Gathered.{Adds}
use Rattle.sp_points_rules.proofs.Cases.{LeafAt}
use Rattle.sp_points_rules.proofs.commands.leaves_put.Given as goal

abbrev pub invariant-loop-leaf : goal.invariant-loop-leaf
invariant-loop-leaf l = Adds l.facts.rows.now (λ u c r. (k : ℕ) × (k < l.leaf-index) × LeafAt (lowered_of l.facts.lowered.now) u (map leaf_of l.leaves) k c r) l.fn.out l.out
