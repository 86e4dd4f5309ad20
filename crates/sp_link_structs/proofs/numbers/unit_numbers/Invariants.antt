use Rattle.std.proofs.Common.{◌≡◌, ◌++◌, map, drop}
use Rattle.sp_types.specs.View.{struct_of}
use Rattle.sp_link_structs.specs.Matched.{of_unit}
use Rattle.sp_link_structs.specs.Turns.{number_by}
use Rattle.sp_link_structs.proofs.numbers.unit_numbers.Given as goal

abbrev pub invariant-structs : goal.invariant-structs
invariant-structs l =
    l.numbers.items ++ map (number_by l.numbering) (of_unit l.unit l.k (map struct_of (drop l.k l.structs)))
    ≡ map (number_by l.numbering) (of_unit l.unit 0 (map struct_of l.structs))
