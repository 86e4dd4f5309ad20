use Rattle.std.proofs.Common.{◌≡◌, ℕ, take}
use Rattle.sp_base_sets.specs.Sets.{has}
use Rattle.sp_defuse.specs.Sources.{is_source}
use Rattle.sp_defuse.proofs.places.places_into.Given as goal

abbrev pub invariant-loop-edge : goal.invariant-loop-edge
invariant-loop-edge l = (j : ℕ) → has j l.places ≡ is_source l.flow.nodes (take l.edge-index l.edge-items) j
