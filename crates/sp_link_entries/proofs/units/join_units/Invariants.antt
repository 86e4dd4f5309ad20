use Rattle.std.proofs.Common.{◌≡◌, [], map, drop}
use Rattle.sp_base_checked.specs.Units.{checked_unit_of}
use Rattle.sp_link_entries.specs.Views.{joined_of, numbers_of}
use Rattle.sp_link_entries.specs.Units.{units_joined}
use Rattle.sp_link_entries.proofs.units.join_units.Given as goal

abbrev pub invariant-units : goal.invariant-units
invariant-units l =
    units_joined (map (λ ns. ns.items) l.structs) (map numbers_of l.done.items, joined_of l.joined) (map checked_unit_of (drop l.unit-index l.units))
    ≡ units_joined (map (λ ns. ns.items) l.structs) ([], joined_of l.initial.joined) (map checked_unit_of l.units)
