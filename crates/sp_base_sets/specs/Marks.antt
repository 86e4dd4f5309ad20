-- Numbers of a list, each once, that are marked.
use Rattle.std.specs.Prelude.{◌≡◌, ℕ, Bool, false, nat_eq, List, slice_index_or}
use Rattle.std.specs.List.{IsDistinct}
use Rattle.sp_base_sets.specs.Sets.{has}

-- exactly the numbers of the list are marked, and none stands twice
pub record IsMarked (marks : List Bool) (numbers : List ℕ) : Type 0 where
  pub once : IsDistinct nat_eq numbers
  pub marked : (n : ℕ) → has n numbers ≡ slice_index_or marks n false
