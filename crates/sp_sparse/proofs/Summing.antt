-- Sums over lists and over the numbers below a bound.
use Rattle.std.proofs.Common.{◌≡◌, ◌⊎◌, inl, inr, ℕ, zero, suc, ◌+◌, ◌*◌, ◌<◌, ◌≤◌, Bool, true, false, ◌||◌, nat_eq, List, [], ◌∷◌, length, get_or, set, sum, sum_by, refl, ap, subst, arith}
use Rattle.std.proofs.lemmas.Bool.{false≢true}
use Rattle.std.proofs.lemmas.Bool.Decides.{nat_tests}
use Rattle.std.proofs.lemmas.List.Sums.{sum_by-cons, sum_by-set}
use Rattle.sp_lattice.specs.System.{has}
use Rattle.sp_lattice.specs.Bound.{sum_below}
use Rattle.sp_lattice.proofs.Joins.{has-cons}

pub has_first : (x : ℕ) (xs : List ℕ) → has x (x ∷ xs) ≡ true
has_first x xs = ap (λ b. b || has x xs) (same x)
  where
    same : (n : ℕ) → nat_eq n n ≡ true
    same n = grind (arith, nat_tests)

pub has_later : (y x : ℕ) (xs : List ℕ) → has y xs ≡ true → has y (x ∷ xs) ≡ true
has_later y x xs h = by (nat_eq y x)
  where
    by : (b : Bool) → (b || has y xs) ≡ true
    by true = refl
    by false = h

pub sum_by-mono : (f g : ℕ → ℕ) (xs : List ℕ) → ((x : ℕ) → has x xs ≡ true → f x ≤ g x) → sum_by f xs ≤ sum_by g xs
sum_by-mono f g [] each = omega arith
sum_by-mono f g (x ∷ xs) each = omega (arith, sum_by-cons f x xs, sum_by-cons g x xs, each x (has_first x xs), sum_by-mono f g xs (λ y h. each y (has_later y x xs h)))

pub sum_by-lt : (f g : ℕ → ℕ) (xs : List ℕ) (y : ℕ) → ((x : ℕ) → has x xs ≡ true → f x ≤ g x) → has y xs ≡ true → f y < g y → sum_by f xs < sum_by g xs
sum_by-lt f g [] y each there less = absurd (false≢true there)
sum_by-lt f g (x ∷ xs) y each there less = by (has-cons y x xs there) (λ h. sum_by-lt f g xs y (λ z k. each z (has_later z x xs k)) h less)
  where
    rest : sum_by f xs ≤ sum_by g xs
    rest = sum_by-mono f g xs (λ z k. each z (has_later z x xs k))

    by : (y ≡ x) ⊎ (has y xs ≡ true) → (has y xs ≡ true → sum_by f xs < sum_by g xs) → sum_by f (x ∷ xs) < sum_by g (x ∷ xs)
    by (inl e) more = omega (arith, sum_by-cons f x xs, sum_by-cons g x xs, rest, subst (λ z. f z < g z) e less)
    by (inr h) more = omega (arith, sum_by-cons f x xs, sum_by-cons g x xs, each x (has_first x xs), more h)

pub sum_by-times : {X : Type 0} (h : ℕ) (f : X → ℕ) (xs : List X) → sum_by (λ x. h * f x) xs ≡ h * sum_by f xs
sum_by-times h f [] = omega arith
sum_by-times h f (x ∷ xs) = omega (arith, sum_by-cons (λ y. h * f y) x xs, ap (λ s. h * s) (sum_by-cons f x xs), sum_by-times h f xs)

-- one term is at most the sum
pub sum_below-term : (n : ℕ) (f : ℕ → ℕ) (i : ℕ) → i < n → f i ≤ sum_below n f
sum_below-term zero f i low = absurd (omega arith)
sum_below-term (suc n) f i low = by (near i n low) (λ less. sum_below-term n f i less)
  where
    near : (a b : ℕ) → a < suc b → (a < b) ⊎ (a ≡ b)
    near a b h = grind arith

    by : (i < n) ⊎ (i ≡ n) → (i < n → f i ≤ sum_below n f) → f i ≤ sum_below n f + f n
    by (inl less) more = omega (arith, more less)
    by (inr e) more = omega (arith, ap f e)

pub sum_below-first : (n : ℕ) (f : ℕ → ℕ) → sum_below (suc n) f ≡ f 0 + sum_below n (λ k. f (suc k))
sum_below-first zero f = omega arith
sum_below-first (suc n) f = omega (arith, sum_below-first n f)

-- the sum of a list, term by term
pub sum-terms : (xs : List ℕ) → sum xs ≡ sum_below (length xs) (λ k. get_or xs k 0)
sum-terms [] = refl
sum-terms (x ∷ xs) = omega (arith, sum_by-cons (λ y. y) x xs, sum-terms xs, sum_below-first (length xs) (λ k. get_or (x ∷ xs) k 0))

-- one more at one place
pub sum-one_more : (xs : List ℕ) (i : ℕ) → i < length xs → sum (set xs i (get_or xs i 0 + 1)) ≡ sum xs + 1
sum-one_more xs i low = omega (arith, sum_by-set (λ y. y) xs i (get_or xs i 0 + 1) 0 low)
