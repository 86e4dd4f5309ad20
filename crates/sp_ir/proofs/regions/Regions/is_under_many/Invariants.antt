use Rattle.std.proofs.Common.{◌≡◌, false}
use Rattle.sp_ir.specs.Regions.{region_list, is_under_many}
use Rattle.sp_ir.proofs.regions.Regions.is_under_many.Given as goal

abbrev pub invariant-loop-k : goal.invariant-loop-k
invariant-loop-k l = is_under_many (region_list l.self) l.object l.path l.k ≡ false
