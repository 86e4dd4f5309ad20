-- What is kept beside the rows of dependencies.
use Rattle.std.specs.Prelude.{◌≡◌, ◌≤◌, ℕ, List, length, All}
use Rattle.sp_lattice.specs.System.{AllBelow}
use Rattle.sp_deps.specs.inner.Grouped.{grouped}
use Rattle.sp_deps.specs.Rows.{total, Ascends, most_dependencies}

-- each row ascends, and their count is kept, which isn't past the limit
pub record IsKept (rows : List (List (ℕ × ℕ))) (count : ℕ) : Type 0 where
  pub ascending : All Ascends rows
  pub counted : count ≡ total rows
  pub few : count ≤ most_dependencies

-- the pairs in the order in which they were found, each with the node that it leaves, make such rows
pub record IsGrowing (nodes : ℕ) (froms : List ℕ) (pairs : List (ℕ × ℕ)) : Type 0 where
  pub low : AllBelow nodes froms
  pub paired : length pairs ≤ length froms
  pub kept : IsKept (grouped nodes froms pairs) (length pairs)
