-- One location stands for those next to it that the same functions touch.
use Rattle.std.specs.Prelude.{◌≡◌, ◌⊎◌, ℕ, ◌≤◌, ◌<◌, List, [], Some, length, slice_get}
use Rattle.sp_base_sets.specs.Reached.{row}

-- Of the first so many locations each has another of the same owners that stands for it, which
-- alone keeps its owners.
pub record StandFor (owners : List (List ℕ)) (count : ℕ) (left : List (List ℕ)) (stand_ins : List ℕ) : Type 0 where
  pub long : length left ≡ length owners
  pub told : length stand_ins ≡ count
  pub alike : (l n : ℕ) → slice_get stand_ins l ≡ Some n
      → (row left n ≡ row owners n) × (row owners n ≡ row owners l)
  pub below : (l n : ℕ) → slice_get stand_ins l ≡ Some n → n < count
  -- no location gets other owners
  pub fewer : (l : ℕ) → (row left l ≡ row owners l) ⊎ (row left l ≡ [])
  pub later : (l : ℕ) → count ≤ l → row left l ≡ row owners l
