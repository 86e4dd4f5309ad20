use Rattle.std.proofs.Common.{◌≡◌, Some, take}
use Rattle.sp_ir.specs.Programs.{lowered_of}
use Rattle.sp_ir.specs.Functions.{function_at}
use Rattle.sp_base_sets.specs.Sets.{Images}
use Rattle.sp_points_rules.proofs.sources.callees.Given as goal

abbrev pub invariant-loop-region : goal.invariant-loop-region
invariant-loop-region l = Images (λ r k. function_at (lowered_of l.lowered) r l.count ≡ Some k) (take l.region-index l.numbers) l.set
