use Rattle.std.proofs.Common.{◌<◌, ℕ, get_or}
use Rattle.sp_ir.specs.Programs.{lowered_of}
use Rattle.sp_points_rules.specs.Gathered.{Adds}
use Rattle.sp_points_rules.specs.Copying.{CopiesPair}
use Rattle.sp_points_rules.proofs.rules.copy_from_each.Given as goal

abbrev pub invariant-loop-source : goal.invariant-loop-source
invariant-loop-source l = Adds l.facts.rows.now (λ u c r. (k : ℕ) × (k < l.source-index) × CopiesPair (lowered_of l.facts.lowered.now) u l.target (get_or l.sources k 0) c r) l.fn.out l.out
