use Rattle.std.proofs.Common.{◌≡◌, ◌++◌, map, drop}
use Rattle.sp_ir.specs.Programs.{code_of}
use Rattle.sp_lower_functions.specs.View.{part_of}
use Rattle.sp_lower_objects.specs.Codes.{codes_from}
use Rattle.sp_lower_objects.specs.Seen.{seen_function}
use Rattle.sp_lower_objects.proofs.codes.codes_from.Given as goal

abbrev pub invariant-loop-k : goal.invariant-loop-k
invariant-loop-k l =
    map code_of l.codes.items
    ++ codes_from l.before l.definitions (map part_of l.parts) l.k l.first (map seen_function (drop l.k l.defined))
    ≡ codes_from l.before l.definitions (map part_of l.parts) 0 l.fn.first (map seen_function l.defined)
