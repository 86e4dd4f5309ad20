-- Triples as rows of 60 bits.
use Rattle.std.specs.Prelude.{◌+◌, ◌*◌, ◌/◌, ◌%◌, ◌++◌, ◌∷◌, [], ℕ, zero, suc, Bool, List, map, filter}
use Rattle.std.specs.List.{list_any}
use Rattle.sp_bdd.specs.Listed.{is_within}
use Rattle.sp_engine_keeping.specs.Triples.{same_pair, AreWithin}

-- the row of a triple: 2^40 times the node that it leaves, 2^20 times the location, and the target
abbrev pub code : ℕ → ℕ × ℕ → ℕ
code from p = from * 1099511627776 + (p.0 * 1048576 + p.1)

abbrev pub pair : ℕ → ℕ × ℕ
pair row = (row / 1048576 % 1048576, row % 1048576)

-- the rows of all triples, from those that leave one node on
abbrev pub codes_from : ℕ → List (List (ℕ × ℕ)) → List ℕ
codes_from k [] = []
codes_from k (row ∷ rows) = map (code k) row ++ codes_from (k + 1) rows

-- whether a row is that of a triple which leaves a node
abbrev pub leaves : ℕ → ℕ → Bool
leaves from row = is_within (from * 1099511627776) (from * 1099511627776 + 1099511627775) row

-- the pairs of those that leave a node, of rows
abbrev pub told_of : ℕ → List ℕ → List (ℕ × ℕ)
told_of from rows = map pair (filter (leaves from) rows)

-- whether rows tell of a triple
abbrev pub is_told : List ℕ → ℕ → ℕ × ℕ → Bool
is_told rows from p = list_any (same_pair p) (told_of from rows)

-- what rows tell of so many nodes, from one on
abbrev pub told_from : ℕ → ℕ → List ℕ → List (List (ℕ × ℕ))
told_from k zero rows = []
told_from k (suc n) rows = told_of k rows ∷ told_from (k + 1) n rows

-- pairs that have a code
abbrev pub AreSmall : List (ℕ × ℕ) → Type 0
AreSmall pairs = AreWithin 1048576 1048576 pairs
