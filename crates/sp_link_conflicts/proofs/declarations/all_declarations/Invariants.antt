use Rattle.std.proofs.Common.{◌≡◌, ◌++◌, map, drop}
use Rattle.sp_base_checked.specs.Units.{checked_unit_of}
use Rattle.sp_link_conflicts.specs.Declarations.{declared_from}
use Rattle.sp_link_conflicts.specs.Views.{declaration_of}
use Rattle.sp_link_conflicts.proofs.declarations.all_declarations.Given as goal

abbrev pub invariant-units : goal.invariant-units
invariant-units l =
    map declaration_of l.all.items ++ declared_from l.u (map checked_unit_of (drop l.u l.units))
    ≡ declared_from 0 (map checked_unit_of l.units)
