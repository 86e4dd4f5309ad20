-- The files before this one are read, and no read failed.
use Rattle.std.proofs.Common.{◌≡◌, map, drop}
use Rattle.sp_front.specs.Sources.{source_of}
use Rattle.sp_run_command.proofs.ReadingLaws.{IsAt}
use Rattle.sp_run_command.proofs.reading.read_sources.Given as goal

abbrev pub invariant-loop-name : goal.invariant-loop-name
invariant-loop-name g l =
    IsAt (g.F.Files.text_of l.fn.files) (map (λ n. n.now) l.names) (map (λ n. n.now) (drop l.name-index l.names)) l.room (map source_of l.sources.items)
    × (g.F.Files.text_of l.files ≡ g.F.Files.text_of l.fn.files)
    × (g.F.Files.failing l.files ≡ g.F.Files.failing l.fn.files)
    × (g.F.Files.faults l.files ≡ g.F.Files.faults l.fn.files)
