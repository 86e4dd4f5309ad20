use Rattle.std.proofs.Common.{◌≡◌, ◌+◌, ◌++◌, map, drop}
use Rattle.sp_types.specs.View.{type_of}
use Rattle.sp_ir.specs.Programs.{object_of}
use Rattle.sp_lower_objects.specs.Objects.{temporary_objects}
use Rattle.sp_lower_objects.proofs.making.add_temporaries.Given as goal

abbrev pub invariant-loop-k : goal.invariant-loop-k
invariant-loop-k l =
    map object_of l.all.items
    ++ temporary_objects l.function l.number (l.k + 1) (map type_of (drop l.k l.temporaries))
    ≡ map object_of l.fn.all.items
    ++ temporary_objects l.function l.number 1 (map type_of l.temporaries)
