use Rattle.std.proofs.Common.{◌≡◌, map, take}
use Rattle.sp_types.specs.View.{type_of}
use Rattle.sp_link_renaming.specs.View.{renaming_of}
use Rattle.sp_link_entries.specs.Views.{numbers_of}
use Rattle.sp_link_units.specs.Making.{renaming}
use Rattle.sp_link_units.proofs.renamings.renamings.Given as goal

abbrev pub invariant-loop-unit : goal.invariant-loop-unit
invariant-loop-unit l = map renaming_of l.all.items ≡ map (renaming (map type_of l.types)) (map numbers_of (take l.unit-index l.units))
