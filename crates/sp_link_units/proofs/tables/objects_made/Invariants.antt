use Rattle.std.proofs.Common.{◌≡◌, map, take}
use Rattle.sp_types.specs.Programs.{object_of}
use Rattle.sp_link_renaming.specs.View.{renaming_of}
use Rattle.sp_link_entries.specs.Views.{object_entry_of}
use Rattle.sp_link_units.specs.Making.{object_made}
use Rattle.sp_link_units.proofs.tables.objects_made.Given as goal

abbrev pub invariant-loop-entry : goal.invariant-loop-entry
invariant-loop-entry l =
    map object_of l.all.items
    ≡ map (object_made (map renaming_of l.renamings)) (map object_entry_of (take l.entry-index l.entries))
