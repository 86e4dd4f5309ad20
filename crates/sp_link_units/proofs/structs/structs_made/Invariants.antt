use Rattle.std.proofs.Common.{◌≡◌, map, take}
use Rattle.sp_types.specs.View.{struct_of}
use Rattle.sp_link_renaming.specs.View.{renaming_of}
use Rattle.sp_base_checked.specs.Units.{checked_unit_of}
use Rattle.sp_link_units.specs.Making.{struct_made}
use Rattle.sp_link_units.proofs.structs.structs_made.Given as goal

abbrev pub invariant-loop-pair : goal.invariant-loop-pair
invariant-loop-pair l =
    map struct_of l.all.items
    ≡ map (struct_made (map checked_unit_of l.units) (map renaming_of l.renamings)) (take l.pair-index l.structs)
