use Rattle.std.proofs.Common.{◌<◌, ℕ}
use Rattle.sp_ir.specs.Programs.{lowered_of}
use Rattle.sp_points_rules.specs.Gathered.{Adds}
use Rattle.sp_points_rules.proofs.Cases.{ForeignAt}
use Rattle.sp_points_rules.proofs.commands.foreign_start.Given as goal

abbrev pub invariant-loop-number : goal.invariant-loop-number
invariant-loop-number l = Adds l.facts.rows.now (λ u c r. (k : ℕ) × (k < l.number) × ForeignAt (lowered_of l.facts.lowered.now) u k c r) l.fn.out l.out
