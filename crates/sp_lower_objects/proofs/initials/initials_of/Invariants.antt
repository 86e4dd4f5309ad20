use Rattle.std.proofs.Common.{◌≡◌, ◌++◌, map, drop}
use Rattle.sp_types.specs.View.{struct_of}
use Rattle.sp_types.specs.Programs.{object_of}
use Rattle.sp_lower_body.specs.View.{initial_view}
use Rattle.sp_lower_objects.specs.Initials.{initials_from}
use Rattle.sp_lower_objects.proofs.initials.initials_of.Given as goal

abbrev pub invariant-loop-object : goal.invariant-loop-object
invariant-loop-object l =
    map initial_view l.initials.items
    ++ initials_from (map struct_of l.structs) l.root (map object_of (drop l.object-index l.objects))
    ≡ initials_from (map struct_of l.structs) 0 (map object_of l.objects)
