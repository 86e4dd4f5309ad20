use Rattle.std.proofs.Common.{◌≡◌, ◌++◌, map, drop}
use Rattle.sp_types.specs.Programs.{function_of}
use Rattle.sp_ir.specs.Programs.{object_of}
use Rattle.sp_lower_objects.specs.Objects.{function_objects}
use Rattle.sp_lower_objects.proofs.objects.add_functions.Given as goal

abbrev pub invariant-loop-k : goal.invariant-loop-k
invariant-loop-k l =
    map object_of l.all.items
    ++ function_objects l.names l.codes l.k (map function_of (drop l.k l.functions))
    ≡ map object_of l.fn.all.items
    ++ function_objects l.names l.codes 0 (map function_of l.functions)
