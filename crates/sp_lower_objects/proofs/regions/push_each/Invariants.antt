use Rattle.std.proofs.Common.{◌≡◌, ◌++◌, map}
use Rattle.sp_ir.specs.Regions.{region_of, region_list}
use Rattle.sp_lower_objects.proofs.regions.push_each.Given as goal

abbrev pub invariant-loop-region : goal.invariant-loop-region
invariant-loop-region l = region_list l.regions ≡ region_list l.fn.regions ++ map region_of l.yielded
