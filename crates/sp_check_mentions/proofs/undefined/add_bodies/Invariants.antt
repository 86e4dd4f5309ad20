use Rattle.std.proofs.Common.{◌≡◌, ◌++◌, map, drop}
use Rattle.sp_types.specs.Programs.{function_of}
use Rattle.sp_check_mentions.specs.Undefined.{bodies_mention}
use Rattle.sp_check_mentions.proofs.undefined.add_bodies.Given as goal

abbrev pub invariant-loop-function : goal.invariant-loop-function
invariant-loop-function l =
    l.found.items ++ bodies_mention (map function_of (drop l.function-index l.functions))
    ≡ l.initial.found.items ++ bodies_mention (map function_of l.functions)
