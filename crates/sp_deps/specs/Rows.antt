-- Dependencies as rows: for each node the pairs of location and target of those that leave it.
use Rattle.std.specs.Prelude.{ℕ, List, length, sum_by}
pub use Rattle.sp_engine_keeping.specs.Triples.{same_pair, held, is_before, Ascends}

-- how many triples the rows hold, where none stands twice
abbrev pub total : List (List (ℕ × ℕ)) → ℕ
total rows = sum_by length rows

-- the most dependencies that are kept
abbrev pub most_dependencies : ℕ
most_dependencies = 50000000
