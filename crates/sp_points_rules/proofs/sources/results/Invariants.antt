use Rattle.std.proofs.Common.{◌≡◌, Some, take}
use Rattle.sp_ir.specs.Programs.{lowered_of}
use Rattle.sp_points_rules.specs.Sources.{root_where, result_of}
use Rattle.sp_base_sets.specs.Sets.{Images}
use Rattle.sp_points_rules.proofs.sources.results.Given as goal

abbrev pub invariant-loop-function : goal.invariant-loop-function
invariant-loop-function l = Images (λ r k. root_where (lowered_of l.lowered) l.test (result_of (lowered_of l.lowered) r) ≡ Some k) (take l.function-index l.numbers) l.set
