-- Triples of a node, a location and a node, as rows: for each node the pairs of location and target of those that leave it.
use Rattle.std.specs.Prelude.{◌≡◌, ◌<◌, ◌&&◌, ◌||◌, ℕ, Bool, true, nat_eq, nat_lt, List, All, AllPairs}
use Rattle.std.specs.List.{list_any}
use Rattle.sp_lattice.specs.Flat.{row_at}

abbrev pub same_pair : ℕ × ℕ → ℕ × ℕ → Bool
same_pair p q = nat_eq p.0 q.0 && nat_eq p.1 q.1

-- whether the rows hold the triple
abbrev pub held : List (List (ℕ × ℕ)) → ℕ → ℕ → ℕ → Bool
held rows from location to = list_any (same_pair (location, to)) (row_at rows from)

-- by location, and at one location by target
abbrev pub is_before : ℕ × ℕ → ℕ × ℕ → Bool
is_before p q = nat_lt p.0 q.0 || nat_eq p.0 q.0 && nat_lt p.1 q.1

-- each pair comes before all later ones, so none stands twice
abbrev pub Ascends : List (ℕ × ℕ) → Type 0
Ascends pairs = AllPairs (λ p q. is_before p q ≡ true) pairs

-- locations and targets lie below these counts
abbrev pub AreWithin : ℕ → ℕ → List (ℕ × ℕ) → Type 0
AreWithin locations nodes pairs = All (λ p. (p.0 < locations) × (p.1 < nodes)) pairs
