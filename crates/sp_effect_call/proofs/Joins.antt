-- Joins over lists, step by step, and joins of the same members.
use Rattle.std.proofs.Common.{◌≡◌, ◌⊎◌, inl, inr, ℕ, zero, suc, ◌+◌, ◌<◌, ◌≤◌, Bool, true, false, cond, nat_eq, ◌||◌, List, [], ◌∷◌, filter, length, take, get_or, refl, sym, ap, ◌∙◌, subst, arith, eqb-true}
use Rattle.std.proofs.lemmas.Bool.{false≢true, or_cases}
use Rattle.std.proofs.lemmas.List.{take_all}
use Rattle.sp_lattice.specs.System.{has}
use Rattle.sp_value.specs.Known.{Known, none, known_le, known_join}
use Rattle.sp_value.specs.KnownLaws.{known-refl, known-trans, known-antisym, known-left, known-right, known-least}
use Rattle.sp_value.proofs.GatherLaws.{join-assoc}
use Rattle.sp_effect_entry.specs.Joined.{joined}

join-none : (v : Known) → known_join v none ≡ v
join-none v = known-antisym (known_join v none) v (known-least v none v (known-refl v) refl) (known-left v none)

-- ---- one more

module _ (f : ℕ → Known) where
  joined-suc : (xs : List ℕ) (i d : ℕ) → i < length xs → joined f (take (suc i) xs) ≡ known_join (joined f (take i xs)) (f (get_or xs i d))
  joined-suc [] i d low = absurd (omega (arith, low))
  joined-suc (x ∷ xs) zero d low = join-none (f x)
  joined-suc (x ∷ xs) (suc i) d low = ap (known_join (f x)) (joined-suc xs i d (omega (arith, low))) ∙ sym (join-assoc (f x) (joined f (take i xs)) (f (get_or xs i d)))

  pub joined-next : (xs : List ℕ) (i d : ℕ) (v w sum : Known) → i < length xs → v ≡ joined f (take i xs) → w ≡ f (get_or xs i d) → sum ≡ known_join v w → sum ≡ joined f (take (i + 1) xs)
  joined-next xs i d v w sum low h g is =
      let one : suc i ≡ i + 1 = omega arith in
      is ∙ ap (λ x. known_join x w) h ∙ ap (known_join (joined f (take i xs))) g ∙ sym (joined-suc xs i d low) ∙ ap (λ n. joined f (take n xs)) one

  pub joined-all : (xs : List ℕ) (i : ℕ) (v : Known) → length xs ≤ i → v ≡ joined f (take i xs) → v ≡ joined f xs
  joined-all xs i v past h = h ∙ ap (joined f) (take_all i xs past)

  -- ---- the same members

  joined-above : (xs : List ℕ) (x : ℕ) → has x xs ≡ true → known_le (f x) (joined f xs) ≡ true
  joined-above [] x h = absurd (false≢true h)
  joined-above (y ∷ xs) x h = by (or_cases (nat_eq x y) (has x xs) h) (joined-above xs x)
    where
      by : (nat_eq x y ≡ true) ⊎ (has x xs ≡ true) → (has x xs ≡ true → known_le (f x) (joined f xs) ≡ true) → known_le (f x) (known_join (f y) (joined f xs)) ≡ true
      by (inl e) rest = subst (λ n. known_le (f n) (known_join (f y) (joined f xs)) ≡ true) (sym (eqb-true x y e)) (known-left (f y) (joined f xs))
      by (inr g) rest = known-trans (f x) (joined f xs) (known_join (f y) (joined f xs)) (rest g) (known-right (f y) (joined f xs))

  -- of those that pass a test: each list that has all of them gives the same
  module _ (test : ℕ → Bool) where
    kept-below : (xs : List ℕ) (w : Known) → ((x : ℕ) → test x ≡ true → known_le (f x) w ≡ true) → known_le (joined f (filter test xs)) w ≡ true
    kept-below [] w each = refl
    kept-below (x ∷ xs) w each = by (test x) refl (kept-below xs w each)
      where
        by : (b : Bool) → test x ≡ b → known_le (joined f (filter test xs)) w ≡ true → known_le (joined f (cond b (x ∷ filter test xs) (filter test xs))) w ≡ true
        by true e rest = known-least (f x) (joined f (filter test xs)) w (each x e) rest
        by false e rest = rest

    chosen-below : (xs : List ℕ) (w : Known) → ((x : ℕ) → test x ≡ true → known_le (f x) w ≡ true) → known_le (joined (λ x. cond (test x) (f x) none) xs) w ≡ true
    chosen-below [] w each = refl
    chosen-below (x ∷ xs) w each = known-least (cond (test x) (f x) none) (joined (λ y. cond (test y) (f y) none) xs) w (by (test x) refl) (chosen-below xs w each)
      where
        by : (b : Bool) → test x ≡ b → known_le (cond b (f x) none) w ≡ true
        by true e = each x e
        by false e = refl

pub joined-chosen : (f : ℕ → Known) (test : ℕ → Bool) (xs ys : List ℕ) → ((x : ℕ) → test x ≡ true → has x xs ≡ true) → ((x : ℕ) → test x ≡ true → has x (filter test ys) ≡ true) → joined (λ x. cond (test x) (f x) none) xs ≡ joined f (filter test ys)
joined-chosen f test xs ys all these = known-antisym (joined (λ x. cond (test x) (f x) none) xs) (joined f (filter test ys))
    (chosen-below f test xs (joined f (filter test ys)) (λ x e. joined-above f (filter test ys) x (these x e)))
    (kept-below f test ys (joined (λ x. cond (test x) (f x) none) xs) (λ x e. subst (λ b. known_le (cond b (f x) none) (joined (λ y. cond (test y) (f y) none) xs) ≡ true) e (joined-above (λ y. cond (test y) (f y) none) xs x (all x e))))
