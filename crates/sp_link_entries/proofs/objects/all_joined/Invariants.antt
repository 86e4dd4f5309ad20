use Rattle.std.proofs.Common.{◌≡◌, [], map, drop}
use Rattle.sp_types.specs.Programs.{object_of}
use Rattle.sp_types.specs.View.{struct_of}
use Rattle.sp_link_entries.specs.Views.{joined_of}
use Rattle.sp_link_entries.specs.Objects.{objects_joined}
use Rattle.sp_link_entries.proofs.objects.all_joined.Given as goal

abbrev pub invariant-objects : goal.invariant-objects
invariant-objects l =
    objects_joined (map struct_of l.table) l.structs l.owned.keys l.unit (l.numbers.items, joined_of l.joined) (map object_of (drop l.object-index l.objects))
    ≡ objects_joined (map struct_of l.table) l.structs l.owned.keys l.unit ([], joined_of l.initial.joined) (map object_of l.objects)
