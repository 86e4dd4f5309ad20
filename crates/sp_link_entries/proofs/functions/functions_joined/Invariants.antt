use Rattle.std.proofs.Common.{◌≡◌, [], map, drop}
use Rattle.sp_types.specs.Programs.{function_of}
use Rattle.sp_link_entries.specs.Views.{joined_of}
use Rattle.sp_link_entries.specs.Functions.{functions_joined}
use Rattle.sp_link_entries.proofs.functions.functions_joined.Given as goal

abbrev pub invariant-functions : goal.invariant-functions
invariant-functions l =
    functions_joined l.structs l.unit (l.numbers.items, joined_of l.joined) (map function_of (drop l.function-index l.functions))
    ≡ functions_joined l.structs l.unit ([], joined_of l.initial.joined) (map function_of l.functions)
