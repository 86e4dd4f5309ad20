use Rattle.std.proofs.Common.{◌≡◌, ◌++◌, map, drop}
use Rattle.sp_types.specs.Programs.{function_of}
use Rattle.sp_lower_objects.specs.Owners.{nothing_for}
use Rattle.sp_lower_objects.proofs.owners.no_codes.Given as goal

abbrev pub invariant-loop-function : goal.invariant-loop-function
invariant-loop-function l =
    l.marks.items ++ nothing_for (map function_of (drop l.function-index l.functions))
    ≡ nothing_for (map function_of l.functions)
