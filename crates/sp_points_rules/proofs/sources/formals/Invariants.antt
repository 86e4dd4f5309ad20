use Rattle.std.proofs.Common.{◌≡◌, Some, take}
use Rattle.sp_ir.specs.Programs.{lowered_of}
use Rattle.sp_points_rules.specs.Sources.{root_where, formal_at}
use Rattle.sp_base_sets.specs.Sets.{Images}
use Rattle.sp_points_rules.proofs.sources.formals.Given as goal

abbrev pub invariant-loop-function : goal.invariant-loop-function
invariant-loop-function l = Images (λ r k. root_where (lowered_of l.lowered) l.test (formal_at (lowered_of l.lowered) r l.place) ≡ Some k) (take l.function-index l.numbers) l.set
