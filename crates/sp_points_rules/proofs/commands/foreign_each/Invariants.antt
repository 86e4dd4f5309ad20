use Rattle.std.proofs.Common.{◌<◌, ℕ, get_or}
use Rattle.sp_ir.specs.Programs.{lowered_of}
use Rattle.sp_points_rules.specs.Gathered.{Adds}
use Rattle.sp_points_rules.specs.Foreign.{PutsForeignTo}
use Rattle.sp_points_rules.proofs.commands.foreign_each.Given as goal

abbrev pub invariant-loop-formal : goal.invariant-loop-formal
invariant-loop-formal l = Adds l.facts.rows.now (λ u c r. (k : ℕ) × (k < l.formal-index) × PutsForeignTo (lowered_of l.facts.lowered.now) u l.number (get_or l.formals k 0) c r) l.fn.out l.out
