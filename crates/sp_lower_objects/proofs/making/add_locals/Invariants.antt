use Rattle.std.proofs.Common.{◌≡◌, ◌++◌, map, drop}
use Rattle.sp_ir.specs.Programs.{object_of}
use Rattle.sp_lower_functions.specs.View.{part_of}
use Rattle.sp_lower_objects.specs.Objects.{local_objects}
use Rattle.sp_lower_objects.specs.Seen.{seen_function}
use Rattle.sp_lower_objects.proofs.making.add_locals.Given as goal

abbrev pub invariant-loop-k : goal.invariant-loop-k
invariant-loop-k l =
    map object_of l.all.items
    ++ local_objects l.names l.k (map seen_function (drop l.k l.defined)) (map part_of l.parts)
    ≡ map object_of l.fn.all.items
    ++ local_objects l.names 0 (map seen_function l.defined) (map part_of l.parts)
