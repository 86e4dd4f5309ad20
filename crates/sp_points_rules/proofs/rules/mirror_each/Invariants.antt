use Rattle.std.proofs.Common.{◌<◌, ℕ, get_or}
use Rattle.sp_ir.specs.Programs.{lowered_of}
use Rattle.sp_points_rules.specs.Gathered.{Adds}
use Rattle.sp_points_rules.specs.Copying.{Mirrors}
use Rattle.sp_points_rules.proofs.rules.mirror_each.Given as goal

abbrev pub invariant-loop-cell : goal.invariant-loop-cell
invariant-loop-cell l = Adds l.facts.rows.now (λ u c r. (k : ℕ) × (k < l.cell-index) × Mirrors (lowered_of l.facts.lowered.now) u l.target l.source (get_or l.cells k 0) c r) l.fn.out l.out
