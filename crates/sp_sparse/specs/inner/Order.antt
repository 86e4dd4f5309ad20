-- Numbers that are given to nodes one behind the other.
use Rattle.std.specs.Prelude.{◌≡◌, ◌<◌, ℕ, suc, Bool, true, false, cond, List, [], ◌∷◌, length, slice_index_or}

-- how many marks are set
abbrev pub set_in : List Bool → ℕ
set_in [] = 0
set_in (b ∷ bs) = cond b (suc (set_in bs)) (set_in bs)

-- The marks tell which nodes have a number; as many numbers are given, from 0 on.
pub record AreGiven (nodes : ℕ) (order : List ℕ) (given : List Bool) (next : ℕ) : Type 0 where
  pub long : length order ≡ nodes
  pub marks : length given ≡ nodes
  pub count : set_in given ≡ next
  pub low : (n : ℕ) → slice_index_or given n false ≡ true → slice_index_or order n 0 < next
  pub different : (m n : ℕ) → slice_index_or given m false ≡ true → slice_index_or given n false ≡ true
      → slice_index_or order m 0 ≡ slice_index_or order n 0 → m ≡ n
