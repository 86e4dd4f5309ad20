-- A node's row of outputs is brought up to date, place after place.
use Rattle.std.proofs.Common.{◌≡◌, ◌≢◌, ℕ, ◌<◌, ◌≤◌, true, false, List, length, get_or}
use Rattle.sp_lattice.specs.Lattice.{Order}
use Rattle.sp_lattice.specs.Flat.{row_at}
use Rattle.sp_lattice.specs.System.{has}

-- the row of node n up to a place, where `now` is what is left of the values made
pub record IsUpdating {V : Type 0} (o : Order V) (made now : List V) (before after : List (List V)) (n place : ℕ) (grown : List ℕ) : Type 0 where
  pub long : length after ≡ length before
  pub others : (k : ℕ) → k ≢ n → row_at after k ≡ row_at before k
  pub row_long : length (row_at after n) ≡ length (row_at before n)
  pub made_long : length now ≡ length made
  pub low : (p : ℕ) → has p grown ≡ true → p < place
  pub grew : (p : ℕ) → p < place → has p grown ≡ true → get_or (row_at after n) p o.bottom ≡ get_or made p o.bottom
  pub kept : (p : ℕ) → p < place → has p grown ≡ false → get_or (row_at after n) p o.bottom ≡ get_or (row_at before n) p o.bottom
  pub settled : (p : ℕ) → p < place → has p grown ≡ false → o.le (get_or made p o.bottom) (get_or (row_at before n) p o.bottom) ≡ true
  pub rest : (p : ℕ) → place ≤ p → get_or (row_at after n) p o.bottom ≡ get_or (row_at before n) p o.bottom
  pub rest_made : (p : ℕ) → place ≤ p → get_or now p o.bottom ≡ get_or made p o.bottom
