-- What rows of triples hold: at a place of a row, and after one more triple.
use Rattle.std.proofs.Common.{◌≡◌, ◌≢◌, ◌⊎◌, inl, inr, ℕ, zero, suc, ◌+◌, ◌<◌, true, ◌&&◌, ◌||◌, eqb, List, [], ◌∷◌, ◌++◌, length, get_or, All, sym, ap, ◌∙◌, subst, arith, get_or-set_same, get_or-set_other}
use Rattle.std.specs.List.{list_any}
use Rattle.std.proofs.lemmas.List.{length_push}
use Rattle.std.proofs.lemmas.List.Folds.{list_any-append, list_any_at}
use Rattle.std.proofs.lemmas.List.Quantifiers.{all_pairs_push}
use Rattle.std.proofs.lemmas.List.Elements.{All-set, All-get_or}
use Rattle.std.proofs.lemmas.List.Sums.{sum_by-cons}
use Rattle.sp_lattice.specs.Flat.{row_at}
use Rattle.sp_deps.specs.Rows.{same_pair, held, total, is_before, Ascends, most_dependencies}
use Rattle.sp_deps.specs.inner.Grouped.{added}
use Rattle.sp_deps.specs.inner.Kept.{IsKept}
use Rattle.sp_deps.proofs.Lists.{which, eqb-refl, eqb-apart}
use Rattle.sp_deps.proofs.Bools.{or-false_right}

pub same_pair-refl : (p : ℕ × ℕ) → same_pair p p ≡ true
same_pair-refl p = ap (λ b. b && eqb p.1 p.1) (eqb-refl p.0) ∙ eqb-refl p.1

-- the triple at a place of a row is held
pub held_at : (rows : List (List (ℕ × ℕ))) (from i : ℕ) (d : ℕ × ℕ) → i < length (row_at rows from) → held rows from (get_or (row_at rows from) i d).0 (get_or (row_at rows from) i d).1 ≡ true
held_at rows from i d low =
    let pair = get_or (row_at rows from) i d in
    list_any_at (same_pair (pair.0, pair.1)) (row_at rows from) i d low (same_pair-refl pair)

-- ---- one more triple

module _ (rows : List (List (ℕ × ℕ))) (from : ℕ) (pair : ℕ × ℕ) (low : from < length rows) where
  pub row_at-added_same : row_at (added rows from pair) from ≡ row_at rows from ++ pair ∷ []
  row_at-added_same = get_or-set_same rows from (row_at rows from ++ pair ∷ []) [] low

  pub row_at-added_other : (b : ℕ) → b ≢ from → row_at (added rows from pair) b ≡ row_at rows b
  row_at-added_other b apart = get_or-set_other rows from b (row_at rows from ++ pair ∷ []) [] apart

  pub held-added : (b l c : ℕ) → held (added rows from pair) b l c ≡ (held rows b l c || eqb b from && same_pair (l, c) pair)
  held-added b l c = by (which b from)
    where
      by : (b ≡ from) ⊎ (b ≢ from) → held (added rows from pair) b l c ≡ (held rows b l c || eqb b from && same_pair (l, c) pair)
      by (inl e) =
          subst (λ k. held (added rows from pair) k l c ≡ (held rows k l c || eqb k from && same_pair (l, c) pair)) (sym e)
          (ap (λ row. list_any (same_pair (l, c)) row) row_at-added_same ∙ list_any-append (same_pair (l, c)) (row_at rows from) (pair ∷ [])
          ∙ ap (λ t. held rows from l c || t) (or-false_right (same_pair (l, c) pair) ∙ sym (ap (λ t. t && same_pair (l, c) pair) (eqb-refl from))))
      by (inr apart) =
          ap (λ row. list_any (same_pair (l, c)) row) (row_at-added_other b apart) ∙ sym (or-false_right (held rows b l c))
          ∙ ap (λ t. held rows b l c || t && same_pair (l, c) pair) (sym (eqb-apart b from apart))

  pub ascends-added : All Ascends rows → All (λ p. is_before p pair ≡ true) (row_at rows from) → All Ascends (added rows from pair)
  ascends-added ascending last =
      All-set Ascends rows from (row_at rows from ++ pair ∷ []) (all_pairs_push (λ p q. is_before p q ≡ true) (row_at rows from) pair (All-get_or Ascends rows from [] low ascending) last) ascending

pub total-added : (rows : List (List (ℕ × ℕ))) (from : ℕ) (pair : ℕ × ℕ) → from < length rows → total (added rows from pair) ≡ total rows + 1
total-added [] from pair low = absurd (omega arith)
total-added (row ∷ rows) zero pair low = omega (arith, sum_by-cons length row rows, sum_by-cons length (row ++ pair ∷ []) rows, length_push row pair)
total-added (row ∷ rows) (suc from) pair low =
    omega (arith, sum_by-cons length row rows, sum_by-cons length row (added rows from pair), total-added rows from pair (omega arith))

-- what is kept beside the rows, where there is room for one more
pub kept_added : (rows : List (List (ℕ × ℕ))) (from : ℕ) (pair : ℕ × ℕ) (count : ℕ) → from < length rows → total rows < most_dependencies → All (λ p. is_before p pair ≡ true) (row_at rows from) → IsKept rows count → IsKept (added rows from pair) (count + 1)
kept_added rows from pair count low room last kept = record {
  ascending = ascends-added rows from pair low kept.ascending last;
  counted = omega (arith, kept.counted, total-added rows from pair low);
  few = omega (arith, kept.counted, room);
}
