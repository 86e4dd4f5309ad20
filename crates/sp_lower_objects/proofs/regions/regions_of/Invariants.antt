use Rattle.std.proofs.Common.{◌≡◌, ◌++◌, map, drop}
use Rattle.sp_types.specs.View.{struct_of}
use Rattle.sp_ir.specs.Programs.{object_of}
use Rattle.sp_ir.specs.Regions.{region_list}
use Rattle.sp_lower_objects.specs.Regions.{all_regions}
use Rattle.sp_lower_objects.proofs.regions.regions_of.Given as goal

abbrev pub invariant-loop-k : goal.invariant-loop-k
invariant-loop-k l =
    region_list l.regions ++ all_regions (map struct_of l.structs) l.k (map object_of (drop l.k l.objects))
    ≡ all_regions (map struct_of l.structs) 0 (map object_of l.objects)
