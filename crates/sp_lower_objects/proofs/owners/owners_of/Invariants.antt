use Rattle.std.proofs.Common.{◌≡◌, map, drop}
use Rattle.sp_types.specs.Programs.{object_of}
use Rattle.sp_lower_objects.specs.Owners.{owned, owners_of}
use Rattle.sp_lower_objects.specs.Seen.{seen_function}
use Rattle.sp_lower_objects.proofs.owners.owners_of.Given as goal

abbrev pub invariant-loop-k : goal.invariant-loop-k
invariant-loop-k l =
    owned l.k (map seen_function (drop l.k l.defined)) l.marks.items
    ≡ owners_of (map object_of l.objects) (map seen_function l.defined)
