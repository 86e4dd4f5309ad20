-- Loops over lists: what a test finds in one element more, and what is changed once at each number.
use Rattle.std.proofs.Common.{◌≡◌, ◌≢◌, ◌⊎◌, inl, inr, ℕ, zero, suc, ◌<◌, ◌+◌, Bool, true, false, cond, ◌||◌, nat_eq, List, [], ◌∷◌, map, take, length, get_or, refl, sym, ap, ◌∙◌, subst, arith}
use Rattle.std.specs.Prelude.{AllPairs}
use Rattle.std.specs.List.{list_all}
use Rattle.std.proofs.lemmas.Bool.Decides.{nat_tests}
use Rattle.sp_lattice.specs.System.{has}
use Rattle.sp_value.specs.Tests.{first, second}
use Rattle.sp_effect_rows.proofs.Numbers.{which, same_number, apart_numbers}

or-swap : (a b c : Bool) → (a || (b || c)) ≡ (b || (a || c))
or-swap true true c = refl
or-swap true false c = refl
or-swap false b c = refl

-- which numbers are among one more
pub has-next : (l : ℕ) (xs : List ℕ) (i d : ℕ) → i < length xs → has l (take (suc i) xs) ≡ (nat_eq l (get_or xs i d) || has l (take i xs))
has-next l [] i d low = absurd (omega (arith, low))
has-next l (x ∷ xs) zero d low = refl
has-next l (x ∷ xs) (suc i) d low = ap (λ b. nat_eq l x || b) (has-next l xs i d (omega (arith, low))) ∙ or-swap (nat_eq l x) (nat_eq l (get_or xs i d)) (has l (take i xs))

-- a number of the list is among its numbers
pub has-at : (xs : List ℕ) (i d : ℕ) → i < length xs → has (get_or xs i d) xs ≡ true
has-at [] i d low = absurd (omega (arith, low))
has-at (x ∷ xs) zero d low = ap (λ b. b || has x xs) (same_number x)
has-at (x ∷ xs) (suc i) d low = later (nat_eq (get_or xs i d) x) (has (get_or xs i d) xs) (has-at xs i d (omega (arith, low)))
  where
    later : (a b : Bool) → b ≡ true → (a || b) ≡ true
    later true b h = refl
    later false b h = h

-- in a list whose numbers ascend none comes twice
fresh : (xs : List ℕ) (i d : ℕ) → AllPairs (λ x y. x < y) xs → i < length xs → has (get_or xs i d) (take i xs) ≡ false
fresh [] i d ascend low = absurd (omega (arith, low))
fresh (x ∷ xs) zero d ascend low = refl
fresh (x ∷ xs) (suc i) d ascend low =
    ap (λ b. b || has (get_or xs i d) (take i xs)) (later (get_or xs i d) x (ascend 0 (suc i) d (omega arith) low))
    ∙ fresh xs i d (λ a b e h g. ascend (suc a) (suc b) e (omega (arith, h)) (omega (arith, g))) (omega (arith, low))
  where
    later : (a b : ℕ) → b < a → nat_eq a b ≡ false
    later a b h = grind (arith, nat_tests)

-- what is changed at one number more of a list that ascends: at each once
pub once : {A : Type 0} (g : A → A) (xs : List ℕ) (i d l : ℕ) (old mid new : A) → AllPairs (λ x y. x < y) xs → i < length xs
    → mid ≡ cond (has l (take i xs)) (g old) old → new ≡ cond (nat_eq l (get_or xs i d)) (g mid) mid
    → new ≡ cond (has l (take (i + 1) xs)) (g old) old
once {A} g xs i d l old mid new ascend low h k =
    subst (λ n. new ≡ cond (has l (take n xs)) (g old) old) one (by (which l (get_or xs i d)))
  where
    one : suc i ≡ i + 1
    one = omega arith

    by : (l ≡ get_or xs i d) ⊎ (l ≢ get_or xs i d) → new ≡ cond (has l (take (suc i) xs)) (g old) old
    by (inl e) =
        let here = ap (λ n. nat_eq l n) (sym e) ∙ same_number l in
        let before = ap (λ n. has n (take i xs)) e ∙ fresh xs i d ascend low in
        k ∙ ap (λ b. cond b (g mid) mid) here ∙ ap g (h ∙ ap (λ b. cond b (g old) old) before)
        ∙ sym (ap (λ b. cond b (g old) old) (has-next l xs i d low ∙ ap (λ b. b || has l (take i xs)) here))
    by (inr apart) =
        let there = apart_numbers l (get_or xs i d) apart in
        k ∙ ap (λ b. cond b (g mid) mid) there ∙ h
        ∙ sym (ap (λ b. cond b (g old) old) (has-next l xs i d low ∙ ap (λ b. b || has l (take i xs)) there))

-- what is changed at one number
pub at-one : {A : Type 0} (location : ℕ) (new changed old : ℕ → A) → new location ≡ changed location → ((l : ℕ) → l ≢ location → new l ≡ old l)
    → (l : ℕ) → new l ≡ cond (nat_eq l location) (changed l) (old l)
at-one location new changed old there others l = by (which l location)
  where
    by : (l ≡ location) ⊎ (l ≢ location) → new l ≡ cond (nat_eq l location) (changed l) (old l)
    by (inl e) = ap new e ∙ there ∙ ap changed (sym e) ∙ ap (λ b. cond b (changed l) (old l)) (sym (ap (λ k. nat_eq k location) e ∙ same_number location))
    by (inr apart) = others l apart ∙ ap (λ b. cond b (changed l) (old l)) (sym (apart_numbers l location apart))

-- of tests that all pass, the one at i passes
pub all-at : {X Y : Type 0} (test : Y → Bool) (f : X → Y) (xs : List X) (i : ℕ) (d : X) → i < length xs → list_all test (map f xs) ≡ true → test (f (get_or xs i d)) ≡ true
all-at test f [] i d low h = absurd (omega (arith, low))
all-at test f (x ∷ xs) zero d low h = first (test (f x)) (list_all test (map f xs)) h
all-at test f (x ∷ xs) (suc i) d low h = all-at test f xs i d (omega (arith, low)) (second (test (f x)) (list_all test (map f xs)) h)
