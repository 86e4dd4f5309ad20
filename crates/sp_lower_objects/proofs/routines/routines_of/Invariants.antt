use Rattle.std.proofs.Common.{◌≡◌, ◌++◌, map, drop}
use Rattle.sp_types.specs.Programs.{function_of}
use Rattle.sp_lower_objects.specs.Routines.{routines_of}
use Rattle.sp_lower_objects.proofs.routines.routines_of.Given as goal

abbrev pub invariant-loop-function : goal.invariant-loop-function
invariant-loop-function l =
    l.routines.items ++ routines_of l.names (map function_of (drop l.function-index l.functions))
    ≡ routines_of l.names (map function_of l.functions)
