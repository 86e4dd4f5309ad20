use Rattle.std.proofs.Common.{◌≡◌, ◌++◌, map, drop}
use Rattle.sp_types.specs.Programs.{object_of}
use Rattle.sp_lower_objects.specs.Owners.{nothing_for}
use Rattle.sp_lower_objects.proofs.owners.no_owners.Given as goal

abbrev pub invariant-loop-object : goal.invariant-loop-object
invariant-loop-object l =
    l.marks.items ++ nothing_for (map object_of (drop l.object-index l.objects))
    ≡ nothing_for (map object_of l.objects)
