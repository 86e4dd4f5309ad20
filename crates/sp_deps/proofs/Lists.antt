-- Members of lists of numbers, marks, and lists in which no number stands twice.
use Rattle.std.proofs.Common.{◌≡◌, ◌≢◌, ◌⊎◌, inl, inr, ℕ, zero, suc, ◌+◌, ◌<◌, ◌≤◌, Bool, true, false, cond, ◌||◌, eqb, List, [], ◌∷◌, ◌++◌, length, get_or, set, take, Ok, Err, is_ok, sym, ap, ◌∙◌, subst, arith, get_or-set_same, get_or-set_other}
use Rattle.std.specs.Prelude.{Result, MatchResult}
use Rattle.std.specs.List.{IsDistinct}
use Rattle.std.specs.List.Sorted.{IsStrictlyIncreasing, IsBinarySearchResult}
use Rattle.std.specs.Ordering.{nat_cmp}
use Rattle.std.specs.Cmp.{nat_eq_equiv}
use Rattle.std.proofs.lemmas.Bool.{false≢true}
use Rattle.std.proofs.lemmas.Bool.Decides.{nat_tests}
use Rattle.std.proofs.lemmas.List.{get_or-take, get_or_default, length-take-le}
use Rattle.std.proofs.lemmas.List.Folds.{list_any-append, list_any_more, list_any_at, list_any_none}
use Rattle.std.proofs.lemmas.List.Kept.{AllPairs-from_increasing}
use Rattle.std.proofs.lemmas.List.Sorted.{searched}
use Rattle.std.proofs.lemmas.Map.Keys.{apart_from_distinct, IsDistinct-push}
use Rattle.std.proofs.lemmas.Map.Steps.{length-le_from_distinct_below}
use Rattle.sp_lattice.specs.System.{has}
use Rattle.sp_deps.proofs.Bools.{or-false_right}

pub which : (k n : ℕ) → (k ≡ n) ⊎ (k ≢ n)
which k n = grind arith

pub below : (k n : ℕ) → (k < n) ⊎ (n ≤ k)
below k n = grind arith

pub eqb-refl : (n : ℕ) → eqb n n ≡ true
eqb-refl n = grind (arith, nat_tests)

pub eqb-apart : (k n : ℕ) → k ≢ n → eqb k n ≡ false
eqb-apart k n apart = grind (arith, nat_tests)

-- one more at the end
pub has-push : (k n : ℕ) (xs : List ℕ) → has k (xs ++ n ∷ []) ≡ (has k xs || eqb k n)
has-push k n xs = list_any-append (eqb k) xs (n ∷ []) ∙ ap (λ b. has k xs || b) (or-false_right (eqb k n))

-- one more of a front
pub has-take_more : (k i d : ℕ) (xs : List ℕ) → i < length xs → has k (take (i + 1) xs) ≡ (has k (take i xs) || eqb k (get_or xs i d))
has-take_more k i d xs low = list_any_more (eqb k) xs i d low

pub has-get_or : (xs : List ℕ) (i d : ℕ) → i < length xs → has (get_or xs i d) xs ≡ true
has-get_or xs i d low = list_any_at (eqb (get_or xs i d)) xs i d low (eqb-refl (get_or xs i d))

-- marks with one written
pub mark-set : (marks : List Bool) (n k : ℕ) (b : Bool) → n < length marks → get_or (set marks n b) k false ≡ cond (eqb k n) b (get_or marks k false)
mark-set marks n k b low = by (which k n)
  where
    by : (k ≡ n) ⊎ (k ≢ n) → get_or (set marks n b) k false ≡ cond (eqb k n) b (get_or marks k false)
    by (inl e) =
        subst (λ j. get_or (set marks n b) j false ≡ cond (eqb j n) b (get_or marks j false)) (sym e)
        (get_or-set_same marks n b false low ∙ sym (ap (λ t. cond t b (get_or marks n false)) (eqb-refl n)))
    by (inr apart) = get_or-set_other marks n k b false apart ∙ sym (ap (λ t. cond t b (get_or marks k false)) (eqb-apart k n apart))

-- a mark that is set has a place
pub mark_low : (marks : List Bool) (n : ℕ) → get_or marks n false ≡ true → n < length marks
mark_low [] n h = absurd (false≢true h)
mark_low (b ∷ marks) zero h = omega arith
mark_low (b ∷ marks) (suc n) h = omega (arith, mark_low marks n h)

flipped : (x y : ℕ) → eqb x y ≡ false → eqb y x ≡ false
flipped x y h = grind (arith, nat_tests)

pub distinct-push : (xs : List ℕ) (n : ℕ) → IsDistinct eqb xs → has n xs ≡ false → IsDistinct eqb (xs ++ n ∷ [])
distinct-push xs n once new = IsDistinct-push nat_eq_equiv xs n once new

-- what stands at a place isn't among those before it
pub distinct-new : (xs : List ℕ) (i d : ℕ) → IsDistinct eqb xs → i < length xs → has (get_or xs i d) (take i xs) ≡ false
distinct-new xs i d once low = list_any_none (eqb (get_or xs i d)) (take i xs) apart
  where
    apart : (k e : ℕ) → k < length (take i xs) → eqb (get_or xs i d) (get_or (take i xs) k e) ≡ false
    apart k e h =
        let k_low : k < i = omega (arith, length-take-le i xs (omega arith)) in
        flipped (get_or (take i xs) k e) (get_or xs i d)
        (ap (λ x. eqb x (get_or xs i d)) (get_or-take i xs k e k_low ∙ get_or_default xs k e d (omega arith)) ∙ apart_from_distinct eqb xs k i d once k_low low)

pub short : (xs : List ℕ) (bound : ℕ) → IsDistinct eqb xs → ((n : ℕ) → has n xs ≡ true → n < bound) → length xs ≤ bound
short xs bound once below = length-le_from_distinct_below xs bound once below

-- what a search in rising numbers answers
pub has_searched : (xs : List ℕ) (x : ℕ) (r : Result ℕ ℕ) → IsStrictlyIncreasing xs → IsBinarySearchResult (λ y. nat_cmp y x) xs r → is_ok r ≡ has x xs
has_searched xs x r rises found = by r (searched xs x r found no_falls)
  where
    far : (i j : ℕ) → i < j → j < length xs → get_or xs i 0 < get_or xs j 0
    far i j less low = AllPairs-from_increasing xs rises i j 0 less low

    no_falls : (i j : ℕ) → i ≤ j → j < length xs → get_or xs i 0 ≤ get_or xs j 0
    no_falls i j le low = at (which i j)
      where
        at : (i ≡ j) ⊎ (i ≢ j) → get_or xs i 0 ≤ get_or xs j 0
        at (inl e) = omega (arith, ap (λ k. get_or xs k 0) e)
        at (inr apart) = let less = far i j (omega (arith, apart)) low in omega (arith, less)

    by : (r : Result ℕ ℕ) → MatchResult r (λ i. (i < length xs) × (get_or xs i 0 ≡ x)) (λ i. (i ≤ length xs) × ((k : ℕ) → k < i → get_or xs k 0 < x) × ((k : ℕ) → i ≤ k → k < length xs → x < get_or xs k 0)) → is_ok r ≡ has x xs
    by (Ok i) h = sym (list_any_at (eqb x) xs i 0 h.0 (ap (λ y. eqb x y) h.1 ∙ eqb-refl x))
    by (Err i) h = sym (list_any_none (eqb x) xs (λ k d low. ap (λ y. eqb x y) (get_or_default xs k d 0 low) ∙ at k low (below k i)))
      where
        at : (k : ℕ) → k < length xs → (k < i) ⊎ (i ≤ k) → eqb x (get_or xs k 0) ≡ false
        at k low (inl less) = let one = h.1 k less in eqb-apart x (get_or xs k 0) (omega (arith, one))
        at k low (inr le) = let one = h.2 k le low in eqb-apart x (get_or xs k 0) (omega (arith, one))
