-- Ascending lists as sets.
use Rattle.std.proofs.Common.{◌≡◌, ◌≢◌, ◌⊎◌, inl, inr, ℕ, ◌+◌, ◌-◌, ◌<◌, ◌≤◌, Bool, true, false, ◌||◌, eqb, List, ◌∷◌, length, get_or, take, drop, Ok, Err, is_ok, refl, sym, ap, ◌∙◌, subst, arith}
use Rattle.std.specs.Prelude.{Result, MatchResult}
use Rattle.std.specs.List.{insert}
use Rattle.std.specs.List.Sorted.{IsBinarySearchResult}
use Rattle.std.specs.Ordering.{nat_cmp}
use Rattle.std.proofs.lemmas.Bool.Decides.{nat_tests}
use Rattle.std.proofs.lemmas.List.{get_or_default, take-append-drop}
use Rattle.std.proofs.lemmas.List.Edits.{get_or-insert_at, get_or-insert_below, get_or-insert_above, length-insert}
use Rattle.std.proofs.lemmas.List.Folds.{list_any-append, list_any_at, list_any_none}
use Rattle.std.proofs.lemmas.List.Sorted.{searched}
use Rattle.sp_base_sets.specs.Sets.{has, Ascends}

pub eqb-refl : (n : ℕ) → eqb n n ≡ true
eqb-refl n = grind (arith, nat_tests)

pub eqb-apart : (k n : ℕ) → k ≢ n → eqb k n ≡ false
eqb-apart k n apart = grind (arith, nat_tests)

pub which : (k n : ℕ) → (k ≡ n) ⊎ (k ≢ n)
which k n = grind arith

pub below : (k n : ℕ) → (k < n) ⊎ (n ≤ k)
below k n = grind arith

no_falls : (xs : List ℕ) → Ascends xs → (i j : ℕ) → i ≤ j → j < length xs → get_or xs i 0 ≤ get_or xs j 0
no_falls xs rises i j le low = at (which i j)
  where
    at : (i ≡ j) ⊎ (i ≢ j) → get_or xs i 0 ≤ get_or xs j 0
    at (inl e) = omega (arith, ap (λ k. get_or xs k 0) e)
    at (inr apart) = let less = rises i j 0 (omega (arith, apart)) low in omega (arith, less)

-- where a number that isn't there would stand
abbrev pub Gap : List ℕ → ℕ → ℕ → Type 0
Gap xs x i = (i ≤ length xs) × ((k : ℕ) → k < i → get_or xs k 0 < x) × ((k : ℕ) → i ≤ k → k < length xs → x < get_or xs k 0)

abbrev pub Search : List ℕ → ℕ → Result ℕ ℕ → Type 0
Search xs x r = MatchResult r (λ i. (i < length xs) × (get_or xs i 0 ≡ x)) (λ i. Gap xs x i)

pub search_of : (xs : List ℕ) (x : ℕ) (r : Result ℕ ℕ) → Ascends xs → IsBinarySearchResult (λ y. nat_cmp y x) xs r → Search xs x r
search_of xs x r rises found = searched xs x r found (no_falls xs rises)

pub has_there : (xs : List ℕ) (x i : ℕ) → i < length xs → get_or xs i 0 ≡ x → has x xs ≡ true
has_there xs x i low is = list_any_at (eqb x) xs i 0 low (ap (λ y. eqb x y) is ∙ eqb-refl x)

pub has_gap : (xs : List ℕ) (x i : ℕ) → Gap xs x i → has x xs ≡ false
has_gap xs x i h = list_any_none (eqb x) xs (λ k d low. ap (λ y. eqb x y) (get_or_default xs k d 0 low) ∙ at k low (below k i))
  where
    at : (k : ℕ) → k < length xs → (k < i) ⊎ (i ≤ k) → eqb x (get_or xs k 0) ≡ false
    at k low (inl less) = let one = h.1 k less in eqb-apart x (get_or xs k 0) (omega (arith, one))
    at k low (inr le) = let one = h.2 k le low in eqb-apart x (get_or xs k 0) (omega (arith, one))

pub has_searched : (xs : List ℕ) (x : ℕ) (r : Result ℕ ℕ) → Search xs x r → is_ok r ≡ has x xs
has_searched xs x (Ok i) h = sym (has_there xs x i h.0 h.1)
has_searched xs x (Err i) h = sym (has_gap xs x i h)

or-swap : (a b c : Bool) → (a || (b || c)) ≡ (b || (a || c))
or-swap true true c = refl
or-swap true false c = refl
or-swap false true c = refl
or-swap false false c = refl

pub has_inserted : (xs : List ℕ) (i x n : ℕ) → has n (insert xs i x) ≡ (eqb n x || has n xs)
has_inserted xs i x n =
    list_any-append (eqb n) (take i xs) (x ∷ drop i xs)
    ∙ or-swap (has n (take i xs)) (eqb n x) (has n (drop i xs))
    ∙ ap (λ b. eqb n x || b) (sym (list_any-append (eqb n) (take i xs) (drop i xs)) ∙ ap (λ ys. has n ys) (take-append-drop i xs))

pub ascends_inserted : (xs : List ℕ) (x p : ℕ) → Ascends xs → Gap xs x p → Ascends (insert xs p x)
ascends_inserted xs x p rises gap i j d less low = at (below i p) (below j p)
  where
    ys : List ℕ
    ys = insert xs p x

    long : length ys ≡ length xs + 1
    long = length-insert xs p x gap.0

    -- at the gap, or behind it
    Side : ℕ → Type 0
    Side k = (k ≡ p) ⊎ ((b : ℕ) × (k ≡ b + 1) × (p ≤ b))

    side : (k : ℕ) → p ≤ k → Side k
    side k h = by (which k p)
      where
        by : (k ≡ p) ⊎ (k ≢ p) → Side k
        by (inl e) = inl e
        by (inr apart) = inr (k - 1, omega (arith, apart), omega (arith, apart))

    front : (k : ℕ) → k < p → get_or ys k d ≡ get_or xs k d
    front k h = get_or-insert_below xs p x d k h gap.0

    middle : (k : ℕ) → k ≡ p → get_or ys k d ≡ x
    middle k e = ap (λ m. get_or ys m d) e ∙ get_or-insert_at xs p x d gap.0

    behind : (k b : ℕ) → k ≡ b + 1 → p ≤ b → get_or ys k d ≡ get_or xs b d
    behind k b e h = ap (λ m. get_or ys m d) e ∙ get_or-insert_above xs p x d b h gap.0

    late : Side i → Side j → get_or ys i d < get_or ys j d
    late (inl e) (inl f) = absurd (omega (arith, e, f))
    late (inl e) (inr (b, f, h)) = let one = gap.2 b h (omega (arith, f, long)) in omega (arith, middle i e, behind j b f h, one, get_or_default xs b d 0 (omega (arith, f, long)))
    late (inr (b, f, h)) (inl e) = absurd (omega (arith, e, f))
    late (inr (a, e, g)) (inr (b, f, h)) = let one = rises a b d (omega (arith, e, f)) (omega (arith, f, long)) in omega (arith, behind i a e g, behind j b f h, one)

    mixed : i < p → Side j → get_or ys i d < get_or ys j d
    mixed h (inl e) = let one = gap.1 i h in omega (arith, front i h, middle j e, one, get_or_default xs i d 0 (omega (arith, gap.0)))
    mixed h (inr (b, f, g)) = let one = rises i b d (omega (arith)) (omega (arith, f, long)) in omega (arith, front i h, behind j b f g, one)

    at : (i < p) ⊎ (p ≤ i) → (j < p) ⊎ (p ≤ j) → get_or ys i d < get_or ys j d
    at (inl h) (inl g) = let one = rises i j d less (omega (arith, gap.0)) in omega (arith, front i h, front j g, one)
    at (inl h) (inr g) = mixed h (side j g)
    at (inr h) (inl g) = absurd (omega arith)
    at (inr h) (inr g) = late (side i h) (side j g)

pub gap_at : (xs : List ℕ) (x i : ℕ) (r : Result ℕ ℕ) → r ≡ Err i → Search xs x r → Gap xs x i
gap_at xs x i r e h = subst (λ r. Search xs x r) e h

pub has_at : (xs : List ℕ) (x i : ℕ) (r : Result ℕ ℕ) → r ≡ Ok i → Search xs x r → has x xs ≡ true
has_at xs x i r e h = sym (has_searched xs x r h) ∙ ap is_ok e

pub same_member : (xs : List ℕ) (x n : ℕ) → has x xs ≡ true → has n xs ≡ (eqb n x || has n xs)
same_member xs x n h = at (which n x)
  where
    at : (n ≡ x) ⊎ (n ≢ x) → has n xs ≡ (eqb n x || has n xs)
    at (inl e) = ap (λ m. has m xs) e ∙ h ∙ sym (ap (λ m. eqb m x || has n xs) e ∙ ap (λ b. b || has n xs) (eqb-refl x))
    at (inr apart) = sym (ap (λ b. b || has n xs) (eqb-apart n x apart))
