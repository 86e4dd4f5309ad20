use Rattle.std.proofs.Common.{◌≡◌, ◌++◌, map, drop}
use Rattle.sp_types.specs.Programs.{object_of}
use Rattle.sp_check_mentions.specs.Undefined.{objects_mention}
use Rattle.sp_check_mentions.proofs.undefined.add_objects.Given as goal

abbrev pub invariant-loop-object : goal.invariant-loop-object
invariant-loop-object l =
    l.found.items ++ objects_mention (map object_of (drop l.object-index l.objects))
    ≡ l.initial.found.items ++ objects_mention (map object_of l.objects)
