use Rattle.std.proofs.Common.{◌≡◌, map, drop}
use Rattle.sp_types.specs.View.{struct_of}
use Rattle.sp_base_layouts.specs.Summaries.{are_summed}
use Rattle.sp_base_layouts.proofs.summaries.are_summed.Given as goal

abbrev pub invariant-loop-k : goal.invariant-loop-k
invariant-loop-k l =
    are_summed (map struct_of l.structs) l.summaries l.k (map struct_of (drop l.k l.structs))
    ≡ are_summed (map struct_of l.structs) l.summaries 0 (map struct_of l.structs)
