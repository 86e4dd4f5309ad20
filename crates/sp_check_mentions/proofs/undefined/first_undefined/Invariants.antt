use Rattle.std.proofs.Common.{◌≡◌, map, drop}
use Rattle.sp_types.specs.Programs.{function_of}
use Rattle.sp_check_mentions.specs.Undefined.{first_undefined}
use Rattle.sp_check_mentions.proofs.undefined.first_undefined.Given as goal

abbrev pub invariant-functions : goal.invariant-functions
invariant-functions l =
    first_undefined l.mentioned.keys l.i-counter (map function_of (drop l.i-counter l.functions))
    ≡ first_undefined l.mentioned.keys 0 (map function_of l.functions)
