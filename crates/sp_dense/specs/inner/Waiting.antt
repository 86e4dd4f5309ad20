-- Nodes that wait to be visited.
use Rattle.std.specs.Prelude.{◌≡◌, ℕ, Bool, true, false, List, length, slice_index_or}
use Rattle.sp_lattice.specs.System.{AllBelow, has}

-- the nodes in the queue are there, and each that has the mark is in it
pub record IsKept (marks : List Bool) (queue : List ℕ) : Type 0 where
  pub low : AllBelow (length marks) queue
  pub marked : (n : ℕ) → slice_index_or marks n false ≡ true → has n queue ≡ true

-- what waited still does, and so do these nodes
pub record Adds (before after nodes : List ℕ) : Type 0 where
  pub still : (n : ℕ) → has n before ≡ true → has n after ≡ true
  pub added : (n : ℕ) → has n nodes ≡ true → has n after ≡ true
