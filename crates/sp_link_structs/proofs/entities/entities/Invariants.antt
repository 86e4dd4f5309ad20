use Rattle.std.proofs.Common.{◌≡◌, ◌++◌, drop}
use Rattle.sp_link_agreement.specs.Depths.{tables}
use Rattle.sp_link_structs.specs.Matched.{of_units}
use Rattle.sp_link_structs.proofs.entities.entities.Given as goal

abbrev pub invariant-units : goal.invariant-units
invariant-units l = l.all.items ++ of_units l.u (tables (drop l.u l.units)) ≡ of_units 0 (tables l.units)
