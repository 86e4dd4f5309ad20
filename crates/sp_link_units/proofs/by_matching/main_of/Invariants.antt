use Rattle.std.proofs.Common.{◌≡◌, map, drop}
use Rattle.sp_link_entries.specs.Views.{function_entry_of}
use Rattle.sp_link_units.specs.Linking.{main_from}
use Rattle.sp_link_units.proofs.by_matching.main_of.Given as goal

abbrev pub invariant-entries : goal.invariant-entries
invariant-entries l =
    main_from l.names l.i (map function_entry_of (drop l.i l.entries))
    ≡ main_from l.names 0 (map function_entry_of l.entries)
