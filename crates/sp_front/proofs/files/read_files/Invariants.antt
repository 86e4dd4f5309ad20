-- The files before this one are units, and what is left is within the limits.
use Rattle.std.proofs.Common.{drop, map}
use Rattle.sp_base_checked.specs.Units.{checked_unit_of}
use Rattle.sp_front.specs.Sources.{source_of}
use Rattle.sp_front.proofs.FileSteps.{IsAt}
use Rattle.sp_front.proofs.files.read_files.Given as goal

abbrev pub invariant-files : goal.invariant-files
invariant-files l =
    IsAt (map source_of l.sources) (map source_of (drop l.source-index l.sources)) l.names l.room (map checked_unit_of l.units.items)
