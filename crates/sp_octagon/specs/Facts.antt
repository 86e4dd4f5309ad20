-- What every octagon keeps.
use Rattle.std.specs.Prelude.{◌≡◌, ◌≢◌, ℕ, ◌*◌, ◌<◌, ◌≤◌, max, List, length, ℤ, pos, ◌≤ℤ◌}
use Rattle.std.proofs.Props.{props}
use Rattle.sp_octagon.specs.Entries.{Entries, unbounded, IsBound, least_bound, greatest_bound, negative, entries_of}

-- unbounded, or a bound that lies from the least to the greatest
pub record IsInRange (z : ℤ) : Type 0 where
  pub low : least_bound ≤ℤ z
  pub high : IsBound z → z ≤ℤ greatest_bound
  pub most : z ≤ℤ unbounded

-- the entries of an octagon: those on the diagonal are 0; (r, c) equals the entry from c's
-- negative to r's negative; each is in range. Of the 16 rows and columns those from 2n on have no
-- bound off the diagonal
pub record IsMatrix (size : ℕ) (m : Entries) : Type 0 where
  pub diagonal : (r : ℕ) → r < 16 → m r r ≡ pos 0
  pub coherent : (r c : ℕ) → r < 16 → c < 16 → m (negative c) (negative r) ≡ m r c
  pub in_range : (r c : ℕ) → r < 16 → c < 16 → IsInRange (m r c)
  pub outside : (r c : ℕ) → r < 16 → c < 16 → 2 * size ≤ max r c → r ≢ c → m r c ≡ unbounded

-- an octagon has 2 to 8 members, and room for 16 rows of 16 entries
pub record IsOctagon (size : ℕ) (bounds : List ℤ) : Type 0 where
  pub some : 2 ≤ size
  pub few : size ≤ 8
  pub room : length bounds ≡ 256
  pub matrix : IsMatrix size (entries_of bounds)

pub IsInRange-prop : (z : ℤ) → IsProp (IsInRange z)
IsInRange-prop z = hlevel props

pub IsMatrix-prop : (size : ℕ) (m : Entries) → IsProp (IsMatrix size m)
IsMatrix-prop size m = hlevel (props, IsInRange-prop)

pub IsOctagon-prop : (size : ℕ) (bounds : List ℤ) → IsProp (IsOctagon size bounds)
IsOctagon-prop size bounds = hlevel (props, IsMatrix-prop)
