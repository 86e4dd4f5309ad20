use Rattle.std.proofs.Common.{◌≡◌, ◌++◌, map, drop}
use Rattle.sp_types.specs.Programs.{function_of}
use Rattle.sp_link_conflicts.specs.Declarations.{functions_declared}
use Rattle.sp_link_conflicts.specs.Views.{declaration_of}
use Rattle.sp_link_conflicts.proofs.declarations.add_functions.Given as goal

abbrev pub invariant-functions : goal.invariant-functions
invariant-functions l =
    map declaration_of l.all.items ++ functions_declared l.unit (map function_of (drop l.function-index l.functions))
    ≡ map declaration_of l.initial.all.items ++ functions_declared l.unit (map function_of l.functions)
