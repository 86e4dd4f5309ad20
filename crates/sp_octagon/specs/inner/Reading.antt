-- How far the reading of a kept octagon has come.
use Rattle.std.specs.Prelude.{◌≡◌, ◌⊎◌, max, ℕ, ◌<◌, ◌≤◌}
use Rattle.sp_octagon.specs.Entries.{Entries, negative}
use Rattle.sp_octagon.specs.Changes.{no_bounds}
use Rattle.sp_octagon.specs.Kept.{width}

-- (i, j) is kept in a row below r, or in row r in a column below c
abbrev pub IsBefore : ℕ → ℕ → ℕ → ℕ → Type 0
IsBefore r c i j = ((i < r) × (j < width i)) ⊎ ((i ≡ r) × (j < c))

-- what is kept before column c of row r has been read into d, with the entries that equal it; outside the first
-- `count` rows and columns there are no bounds
pub record ReadTo (count : ℕ) (m : Entries) (r c : ℕ) (d : Entries) : Type 0 where
  pub agree : (i j : ℕ) → i < count → j < count → IsBefore r c i j
      → (d i j ≡ m i j) × (d (negative j) (negative i) ≡ m i j)
  pub outside : (i j : ℕ) → i < 16 → j < 16 → count ≤ max i j → d i j ≡ no_bounds i j
