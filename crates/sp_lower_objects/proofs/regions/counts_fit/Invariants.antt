use Rattle.std.proofs.Common.{◌≡◌, nat_le, map, drop}
use Rattle.sp_types.specs.View.{struct_of}
use Rattle.sp_ir.specs.Programs.{object_of}
use Rattle.sp_lower_objects.specs.Regions.{all_counts}
use Rattle.sp_lower_objects.proofs.regions.counts_fit.Given as goal

abbrev pub invariant-loop-object : goal.invariant-loop-object
invariant-loop-object l =
    nat_le (all_counts (map struct_of l.layouts.structs.now) (map object_of (drop l.object-index l.objects))) l.left
    ≡ nat_le (all_counts (map struct_of l.layouts.structs.now) (map object_of l.objects)) l.most
