use Rattle.std.proofs.Common.{◌≡◌, ◌+◌, length, map}
use Rattle.sp_front.specs.Sources.{source_of, total_length, max_text}
use Rattle.rows_run.proofs.lowerings.sources_of.Given as goal

-- a file for each text so far, and room for the rest
abbrev pub invariant-texts : goal.invariant-texts
invariant-texts l =
    (length l.sources.items ≡ l.k) × (l.room + total_length (map source_of l.sources.items) ≡ max_text)
