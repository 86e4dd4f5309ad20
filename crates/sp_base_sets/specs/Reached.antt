-- What lists of numbers lead to: a list for each number, as of the functions that a function calls.
use Rattle.std.specs.Prelude.{◌≡◌, ℕ, true, List, [], slice_index_or}
use Rattle.sp_base_sets.specs.Sets.{has}

-- the list of a number; past the last none
abbrev pub row : List (List ℕ) → ℕ → List ℕ
row lists n = slice_index_or lists n []

-- from these numbers the lists lead there
pub data Reached (lists : List (List ℕ)) (starts : List ℕ) : ℕ → Type 0 where
  start : {n : ℕ} → has n starts ≡ true → Reached lists starts n
  onward : {mid to : ℕ} → Reached lists starts mid → has to (row lists mid) ≡ true
      → Reached lists starts to

-- from one number to another in one step or more
abbrev pub Leads : List (List ℕ) → ℕ → ℕ → Type 0
Leads lists from to = Reached lists (row lists from) to
