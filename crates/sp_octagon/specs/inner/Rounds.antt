-- How far the search for least walks has come. The contracts of private functions cite this;
-- public ones speak of walks.
use Rattle.std.specs.Prelude.{◌≡◌, ◌≢◌, ◌≤◌, ℕ, ◌+◌, ◌*◌, ◌^◌, ◌<◌, ℤ, pos, neg_ℤ, ◌+ℤ◌, ◌≤ℤ◌}
use Rattle.std.specs.Int.{int_min}
use Rattle.sp_octagon.specs.Entries.{Entries, unbounded, IsBound, sum_of}
use Rattle.sp_octagon.specs.Walks.{Walk, closed_entry}

-- no bound is farther from 0 before round k
abbrev pub reach : ℕ → ℕ
reach k = 2 ^ (100 + k)

pub record IsWithin (b : ℕ) (z : ℤ) : Type 0 where
  pub low : neg_ℤ (pos b) ≤ℤ z
  pub high : IsBound z → z ≤ℤ pos b
  pub most : z ≤ℤ unbounded

-- the walks of a row pass through k, which they reach by `first`, in the columns below `column`; nothing
-- else has changed
pub record Shortened (count row k : ℕ) (first : ℤ) (old : Entries) (column : ℕ) (new : Entries) : Type 0 where
  pub done : (c : ℕ) → c < column → new row c ≡ int_min (old row c) (sum_of first (old k c))
  pub rest : (c : ℕ) → c < 16 → column ≤ c → new row c ≡ old row c
  pub other : (r c : ℕ) → r < 16 → c < 16 → r ≢ row → new r c ≡ old r c

-- after the rounds below k: each bound is the weight of a walk, no bound is greater than it was
-- or than two bounds through a row below k, and none on the diagonal is negative
pub record AfterRounds (count : ℕ) (m : Entries) (k : ℕ) (d : Entries) : Type 0 where
  pub lesser : (r c : ℕ) → r < count → c < count → d r c ≤ℤ m r c
  pub through : (r j c : ℕ) → r < count → j < k → c < count → IsBound (d r j) → IsBound (d j c) → d r c ≤ℤ (d r j +ℤ d j c)
  pub reached : (r c : ℕ) → r < count → c < count → IsBound (d r c) → Walk count m r c (d r c)
  pub diagonal : (r : ℕ) → r < count → d r r ≡ pos 0
  pub within : (r c : ℕ) → r < count → c < count → IsWithin (reach k) (d r c)

-- in the rows and columns of so many members new is the closure of m, by the entries after all
-- rounds
pub record Closes (size : ℕ) (m new : Entries) : Type 0 where
  pub walks : Entries
  pub after : AfterRounds (2 * size) m (2 * size) walks
  pub entries : (r c : ℕ) → r < 2 * size → c < 2 * size → new r c ≡ closed_entry walks r c
