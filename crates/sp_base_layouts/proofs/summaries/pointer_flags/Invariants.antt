use Rattle.std.proofs.Common.{◌≡◌, ◌++◌, map, drop}
use Rattle.sp_types.specs.View.{struct_of}
use Rattle.sp_base_layouts.specs.Layouts.{pointers_of, pointers_from}
use Rattle.sp_base_layouts.proofs.summaries.pointer_flags.Given as goal

abbrev pub invariant-loop-k : goal.invariant-loop-k
invariant-loop-k l =
    l.flags.items ++ pointers_from (map struct_of l.structs) l.k (map struct_of (drop l.k l.structs))
    ≡ pointers_of (map struct_of l.structs)
