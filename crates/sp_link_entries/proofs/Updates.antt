-- Tables with plain entries.
use Rattle.std.proofs.lemmas.List.{map-set}

pub ruleset updates = (map-set)
