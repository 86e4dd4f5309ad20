use Rattle.std.proofs.Common.{◌<◌, ℕ, map}
use Rattle.sp_ir.specs.Programs.{lowered_of}
use Rattle.sp_ir.specs.View.{expression_of}
use Rattle.sp_points_rules.specs.Gathered.{Adds}
use Rattle.sp_points_rules.proofs.Cases.{PassAt}
use Rattle.sp_points_rules.proofs.commands.pass_each.Given as goal

abbrev pub invariant-loop-place : goal.invariant-loop-place
invariant-loop-place l = Adds l.facts.rows.now (λ u c r. (k : ℕ) × (k < l.place) × PassAt (lowered_of l.facts.lowered.now) u (expression_of l.callee) (map expression_of l.args) k c r) l.fn.out l.out
