use Rattle.std.proofs.Common.{◌≡◌, ◌++◌, map, drop}
use Rattle.sp_types.specs.View.{struct_of}
use Rattle.sp_link_structs.specs.Matched.{of_unit}
use Rattle.sp_link_structs.proofs.entities.add_unit.Given as goal

abbrev pub invariant-structs : goal.invariant-structs
invariant-structs l =
    l.all.items ++ of_unit l.unit l.k (map struct_of (drop l.k l.structs))
    ≡ l.initial.all.items ++ of_unit l.unit 0 (map struct_of l.structs)
