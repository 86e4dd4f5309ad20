use Rattle.std.proofs.Common.{◌≡◌, ◌++◌, map, drop}
use Rattle.sp_lower_objects.specs.Objects.{function_names}
use Rattle.sp_lower_objects.specs.Seen.{seen_function}
use Rattle.sp_lower_objects.proofs.objects.function_names.Given as goal

abbrev pub invariant-loop-function : goal.invariant-loop-function
invariant-loop-function l =
    l.names.items ++ function_names (map seen_function (drop l.function-index l.defined))
    ≡ function_names (map seen_function l.defined)
