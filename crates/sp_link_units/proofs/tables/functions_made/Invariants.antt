use Rattle.std.proofs.Common.{◌≡◌, map, take}
use Rattle.sp_types.specs.Programs.{function_of}
use Rattle.sp_link_renaming.specs.View.{renaming_of}
use Rattle.sp_link_entries.specs.Views.{function_entry_of}
use Rattle.sp_link_units.specs.Making.{function_made}
use Rattle.sp_link_units.proofs.tables.functions_made.Given as goal

abbrev pub invariant-loop-entry : goal.invariant-loop-entry
invariant-loop-entry l =
    map function_of l.all.items
    ≡ map (function_made (map renaming_of l.renamings)) (map function_entry_of (take l.entry-index l.entries))
