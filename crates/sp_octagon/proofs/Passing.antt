-- How far a pass over the entries has come.
use Rattle.std.proofs.Common.{◌≡◌, ◌≢◌, ◌⊎◌, inl, inr, ℕ, ◌+◌, ◌*◌, ◌<◌, ◌≤◌, ◌==◌, true, false, List, length, get_or, ℤ, pos, ◌≤ℤ◌, ◌<ℤ◌, sym, ap, ◌∙◌, subst, arith, get_or-set_other, get_or-set_same}
use Rattle.std.specs.Prelude.{slice_set}
use Rattle.std.specs.Int.{int_min}
use Rattle.std.proofs.lemmas.Int.{ints, clamps}
use Rattle.std.proofs.lemmas.Bool.Decides.{nat_tests}
use Rattle.std.proofs.lemmas.List.{get_or_default}
use Rattle.sp_octagon.specs.Entries.{Entries, entries_of, unbounded, sum_of}
use Rattle.sp_octagon.specs.inner.Rounds.{reach, IsWithin, Shortened}
use Rattle.sp_octagon.specs.Functions.{round}
use Rattle.sp_octagon.proofs.Numbers.{which, below_or_not, sum_of-is, sum_of-none_right}

-- in this row the columns below `column` have changed, and nothing else
pub record RowSoFar (made : ℕ → ℕ → ℤ → ℤ) (row column : ℕ) (old new : Entries) : Type 0 where
  pub done : (c : ℕ) → c < column → new row c ≡ made row c (old row c)
  pub rest : (c : ℕ) → c < 16 → column ≤ c → new row c ≡ old row c
  pub other : (r c : ℕ) → r < 16 → c < 16 → r ≢ row → new r c ≡ old r c

-- the rows below `row` have changed in the columns below `count`, and nothing else
pub record RowsSoFar (made : ℕ → ℕ → ℤ → ℤ) (count row : ℕ) (old new : Entries) : Type 0 where
  pub done : (r c : ℕ) → r < row → c < count → new r c ≡ made r c (old r c)
  pub columns : (r c : ℕ) → r < 16 → c < 16 → count ≤ c → new r c ≡ old r c
  pub rest : (r c : ℕ) → r < 16 → c < 16 → row ≤ r → new r c ≡ old r c

-- the rows below `row` have had the round through k, and nothing else has changed
pub record RoundSoFar (count k row : ℕ) (old new : Entries) : Type 0 where
  pub done : (r c : ℕ) → r < row → c < count → new r c ≡ round k old r c
  pub columns : (r c : ℕ) → r < 16 → c < 16 → count ≤ c → new r c ≡ old r c
  pub rest : (r c : ℕ) → r < 16 → c < 16 → row ≤ r → new r c ≡ old r c

-- row k stays in its round
round_row : (k c : ℕ) (d : Entries) → d k k ≡ pos 0 → d k c ≤ℤ unbounded → round k d k c ≡ d k c
round_row k c d zero most = by (below_or_not (d k c) unbounded)
  where
    at : sum_of (d k k) (d k c) ≡ sum_of (pos 0) (d k c)
    at = ap (λ z. sum_of z (d k c)) zero

    by : (d k c <ℤ unbounded) ⊎ (unbounded ≤ℤ d k c) → round k d k c ≡ d k c
    by (inl b) = omega (arith, ints, clamps, at, sum_of-is (pos 0) (d k c) (omega (arith, ints)) b)
    by (inr n) = omega (arith, ints, clamps, at, most, sum_of-none_right (pos 0) (d k c) n)

module _ (count k row : ℕ) (old mid new : Entries) (few : count ≤ 16) (here : k < count) (low : row < count) (diagonal : old k k ≡ pos 0)
    (within : (r c : ℕ) → r < count → c < count → IsWithin (reach 16) (old r c)) (before : RoundSoFar count k row old mid) where
  -- the row that walks pass through is as it was
  pub middle_row : (c : ℕ) → c < count → mid k c ≡ old k c
  middle_row c hc = by (order k row)
    where
      order : (x y : ℕ) → (x < y) ⊎ (y ≤ x)
      order x y = grind arith

      by : (k < row) ⊎ (row ≤ k) → mid k c ≡ old k c
      by (inl passed) = before.done k c passed hc ∙ round_row k c old diagonal (within k c here hc).most
      by (inr ahead) = before.rest k c (omega arith) (omega arith) ahead

  pub round-next : Shortened count row k (mid row k) mid count new → RoundSoFar count k (row + 1) old new
  round-next s = record {
    done = λ r c hr hc. done r c hr hc (order r row);
    columns = λ r c hr hc far. columns r c hr hc far (order r row);
    rest = λ r c hr hc far. s.other r c hr hc (λ e. omega (arith, e)) ∙ before.rest r c hr hc (omega arith);
  }
    where
      order : (x y : ℕ) → (x ≡ y) ⊎ (x ≢ y)
      order x y = by (which (x == y))
        where
          by : ((x == y) ≡ true) ⊎ ((x == y) ≡ false) → (x ≡ y) ⊎ (x ≢ y)
          by (inl t) = inl (same x y t)
            where
              same : (a b : ℕ) → (a == b) ≡ true → a ≡ b
              same a b e = grind (arith, nat_tests)
          by (inr f) = inr (other x y f)
            where
              other : (a b : ℕ) → (a == b) ≡ false → a ≢ b
              other a b e = λ g. grind (arith, nat_tests)

      here_is : (c : ℕ) → c < count → new row c ≡ round k old row c
      here_is c hc =
          s.done c hc
          ∙ ap (λ z. int_min z (sum_of (mid row k) (mid k c))) (before.rest row c (omega arith) (omega arith) (omega arith))
          ∙ ap (λ z. int_min (old row c) (sum_of z (mid k c))) (before.rest row k (omega arith) (omega arith) (omega arith))
          ∙ ap (λ z. int_min (old row c) (sum_of (old row k) z)) (middle_row c hc)

      done : (r c : ℕ) → r < row + 1 → c < count → (r ≡ row) ⊎ (r ≢ row) → new r c ≡ round k old r c
      done r c hr hc (inl e) = subst (λ (i : ℕ). new i c ≡ round k old i c) (sym e) (here_is c hc)
      done r c hr hc (inr ne) = s.other r c (omega arith) (omega arith) ne ∙ before.done r c (omega (arith, ne)) hc

      columns : (r c : ℕ) → r < 16 → c < 16 → count ≤ c → (r ≡ row) ⊎ (r ≢ row) → new r c ≡ old r c
      columns r c hr hc far (inl e) =
          subst (λ (i : ℕ). new i c ≡ old i c) (sym e) (s.rest c hc far ∙ before.columns row c (omega arith) hc far)
      columns r c hr hc far (inr ne) = s.other r c hr hc ne ∙ before.columns r c hr hc far

-- what stands after a write
pub entry_written : (bounds : List ℤ) (r c : ℕ) (v : ℤ) → length bounds ≡ 256 → r < 16 → c < 16 → entries_of (slice_set bounds (16 * r + c) v) r c ≡ v
entry_written bounds r c v room hr hc = let lt : 16 * r + c < length bounds = omega arith in rw get_or-set_same

pub entry_kept : (bounds : List ℤ) (r c i j : ℕ) (v : ℤ) → c < 16 → j < 16 → (i ≡ r → j ≡ c → ⊥) → entries_of (slice_set bounds (16 * r + c) v) i j ≡ entries_of bounds i j
entry_kept bounds r c i j v hc hj other =
    let ne : 16 * i + j ≢ 16 * r + c = λ e. other (omega arith) (omega arith) in
    rw get_or-set_other

-- within the list it doesn't matter what stands for a missing element
pub default_entry : (bounds : List ℤ) (r c : ℕ) → length bounds ≡ 256 → r < 16 → c < 16 → get_or bounds (16 * r + c) (pos 0) ≡ entries_of bounds r c
default_entry bounds r c room hr hc = get_or_default bounds (16 * r + c) (pos 0) unbounded (omega (arith, room))

-- ---- a row of a round

-- the entry that is read next is the old one
pub short_last : (count row k column : ℕ) (first : ℤ) (old new : Entries) → Shortened count row k first old column new → k < 16 → column < 16 → new k column ≡ old k column
short_last count row k column first old new s hk hc = by (which (k == row))
  where
    same : (a b : ℕ) → (a == b) ≡ true → a ≡ b
    same a b e = grind (arith, nat_tests)

    other : (a b : ℕ) → (a == b) ≡ false → a ≢ b
    other a b e = λ g. grind (arith, nat_tests)

    by : ((k == row) ≡ true) ⊎ ((k == row) ≡ false) → new k column ≡ old k column
    by (inl t) = subst (λ (i : ℕ). new i column ≡ old i column) (sym (same k row t)) (s.rest column hc (omega arith))
    by (inr f) = s.other k column hk hc (other k row f)

pub shorten-next : (count row k column : ℕ) (first v : ℤ) (old : Entries) (bounds : List ℤ) → Shortened count row k first old column (entries_of bounds) → length bounds ≡ 256 → row < 16 → column < 16
    → v ≡ int_min (old row column) (sum_of first (old k column)) → Shortened count row k first old (column + 1) (entries_of (slice_set bounds (16 * row + column) v))
shorten-next count row k column first v old bounds s room hr hc is = record {
  done = λ c h. done c h (order c column);
  rest = λ c h far. entry_kept bounds row column row c v hc h (λ e f. omega (arith, far, f)) ∙ s.rest c h (omega arith);
  other = λ r c h g ne. entry_kept bounds row column r c v hc g (λ e f. ne e) ∙ s.other r c h g ne;
}
  where
    order : (x y : ℕ) → (x < y) ⊎ (y ≤ x)
    order x y = grind arith

    done : (c : ℕ) → c < column + 1 → (c < column) ⊎ (column ≤ c) → entries_of (slice_set bounds (16 * row + column) v) row c ≡ int_min (old row c) (sum_of first (old k c))
    done c h (inl low) = entry_kept bounds row column row c v hc (omega arith) (λ e f. omega (arith, low, f)) ∙ s.done c low
    done c h (inr high) =
        let same : column ≡ c = omega arith in
        subst (λ (i : ℕ). entries_of (slice_set bounds (16 * row + column) v) row i ≡ int_min (old row i) (sum_of first (old k i))) same
        (entry_written bounds row column v room hr hc ∙ is)
