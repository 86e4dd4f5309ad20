use Rattle.std.proofs.Common.{◌≡◌, map, drop}
use Rattle.sp_types.specs.Programs.{function_of}
use Rattle.sp_lower_objects.specs.Owners.{numbered, codes_of}
use Rattle.sp_lower_objects.proofs.owners.codes_of.Given as goal

abbrev pub invariant-loop-k : goal.invariant-loop-k
invariant-loop-k l =
    numbered l.k (drop l.k l.definitions) l.marks.items
    ≡ codes_of (map function_of l.functions) l.definitions
