use Rattle.std.proofs.Common.{ℕ, ◌<◌, get_or}
use Rattle.rows_domain.proofs.triples.are_within.Given as goal

abbrev pub invariant-loop-location : goal.invariant-loop-location
invariant-loop-location l = (k : ℕ) (d : ℕ × ℕ) → k < l.location-index → ((get_or l.row k d).0 < l.locations) × ((get_or l.row k d).1 < l.nodes)
