use Rattle.std.proofs.Common.{◌≡◌, ◌++◌, map, drop}
use Rattle.sp_types.specs.Programs.{function_of}
use Rattle.sp_lower_functions.specs.Functions.{functions_at}
use Rattle.sp_lower_objects.specs.Seen.{seen_function}
use Rattle.sp_lower_objects.proofs.owners.defined.Given as goal

abbrev pub invariant-loop-definition : goal.invariant-loop-definition
invariant-loop-definition l =
    map seen_function l.defined.items
    ++ functions_at (map function_of l.functions) (drop l.definition-index l.definitions)
    ≡ functions_at (map function_of l.functions) l.definitions
