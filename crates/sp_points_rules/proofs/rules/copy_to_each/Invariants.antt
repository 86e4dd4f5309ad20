use Rattle.std.proofs.Common.{◌<◌, ℕ, get_or}
use Rattle.sp_ir.specs.Programs.{lowered_of}
use Rattle.sp_points_rules.specs.Gathered.{Adds}
use Rattle.sp_points_rules.specs.Copying.{CopiesFrom}
use Rattle.sp_points_rules.proofs.rules.copy_to_each.Given as goal

abbrev pub invariant-loop-target : goal.invariant-loop-target
invariant-loop-target l = Adds l.facts.rows.now (λ u c r. (k : ℕ) × (k < l.target-index) × CopiesFrom (lowered_of l.facts.lowered.now) u (get_or l.targets k 0) l.sources c r) l.fn.out l.out
