use Rattle.std.proofs.Common.{◌≡◌, ◌++◌, map, drop}
use Rattle.sp_types.specs.Programs.{object_of}
use Rattle.sp_link_conflicts.specs.Declarations.{objects_declared}
use Rattle.sp_link_conflicts.specs.Views.{declaration_of}
use Rattle.sp_link_conflicts.proofs.declarations.add_objects.Given as goal

abbrev pub invariant-objects : goal.invariant-objects
invariant-objects l =
    map declaration_of l.all.items ++ objects_declared l.unit (map object_of (drop l.object-index l.objects))
    ≡ map declaration_of l.initial.all.items ++ objects_declared l.unit (map object_of l.objects)
