use Rattle.std.proofs.Common.{◌<◌, ℕ}
use Rattle.sp_ir.specs.Programs.{lowered_of}
use Rattle.sp_points_rules.specs.Gathered.{Adds}
use Rattle.sp_points_rules.proofs.Cases.{StartAt}
use Rattle.sp_points_rules.proofs.commands.objects_start.Given as goal

abbrev pub invariant-loop-object : goal.invariant-loop-object
invariant-loop-object l = Adds l.facts.rows.now (λ u c r. (k : ℕ) × (k < l.object-index) × StartAt (lowered_of l.facts.lowered.now) u k c r) l.fn.out l.out
