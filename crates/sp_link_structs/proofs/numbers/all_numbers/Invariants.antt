use Rattle.std.proofs.Common.{◌≡◌, ◌++◌, map, drop}
use Rattle.sp_link_agreement.specs.Depths.{tables}
use Rattle.sp_link_structs.specs.Matched.{numbers_of_units}
use Rattle.sp_link_structs.specs.Turns.{number_by}
use Rattle.sp_link_structs.proofs.numbers.all_numbers.Given as goal

abbrev pub invariant-units : goal.invariant-units
invariant-units l =
    map (λ ns. ns.items) l.all.items ++ numbers_of_units (number_by l.numbering) l.u (tables (drop l.u l.units))
    ≡ numbers_of_units (number_by l.numbering) 0 (tables l.units)
