use Rattle.std.proofs.Common.{◌≡◌, ◌++◌, map, drop}
use Rattle.sp_lower_functions.specs.Functions.{temporary_counts}
use Rattle.sp_lower_functions.specs.View.{part_of}
use Rattle.sp_lower.proofs.passes.counts_of.Given as goal

abbrev pub invariant-loop-part : goal.invariant-loop-part
invariant-loop-part l =
    l.counts.items ++ temporary_counts (map part_of (drop l.part-index l.parts))
    ≡ temporary_counts (map part_of l.parts)
