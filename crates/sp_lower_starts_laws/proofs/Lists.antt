-- Where the elements of a part of a list stand in the whole, and where the first that passes a test does.
use Rattle.std.proofs.Common.{◌≡◌, ◌⊎◌, inl, inr, ℕ, zero, suc, ◌+◌, ◌<◌, Bool, true, false, not, cond, nat_lt, List, [], ◌∷◌, ◌++◌, length, Option, Some, None, slice_get, position, refl, ap, sym, ◌∙◌, subst, arith}
use Rattle.std.specs.List.{position_or_len}
use Rattle.std.proofs.lemmas.Bool.Decides.{nat_tests}
use Rattle.std.proofs.lemmas.Option.{none-some}
use Rattle.sp_lower_expr_laws.proofs.Growing.{before_all}

-- these stand in the whole list from this number on
abbrev pub StandFrom : {A : Type 0} → List A → ℕ → List A → Type 0
StandFrom {A = A} whole from xs = (i : ℕ) (x : A) → slice_get xs i ≡ Some x → slice_get whole (from + i) ≡ Some x

zero_plus : (n : ℕ) → 0 + n ≡ n
zero_plus n = omega arith

plus_zero : (n : ℕ) → n + 0 ≡ n
plus_zero n = omega arith

suc_plus : (n i : ℕ) → suc (n + i) ≡ suc n + i
suc_plus n i = omega arith

pub stand_all : {A : Type 0} (xs : List A) → StandFrom xs 0 xs
stand_all xs i x e = subst (λ n. slice_get xs n ≡ Some x) (sym (zero_plus i)) e

pub stand_left : {A : Type 0} (whole : List A) (from : ℕ) (xs ys : List A) → StandFrom whole from (xs ++ ys) → StandFrom whole from xs
stand_left whole from xs ys h i x e = h i x (before_all xs ys i x e)

pub behind : {A : Type 0} (xs ys : List A) (i : ℕ) (x : A) → slice_get ys i ≡ Some x → slice_get (xs ++ ys) (length xs + i) ≡ Some x
behind [] ys i x e = subst (λ n. slice_get ys n ≡ Some x) (sym (zero_plus i)) e
behind (z ∷ zs) ys i x e = subst (λ n. slice_get (z ∷ (zs ++ ys)) n ≡ Some x) (suc_plus (length zs) i) (behind zs ys i x e)

plus_plus : (a b c : ℕ) → a + (b + c) ≡ (a + b) + c
plus_plus a b c = omega arith

pub stand_right : {A : Type 0} (whole : List A) (from : ℕ) (xs ys : List A) → StandFrom whole from (xs ++ ys) → StandFrom whole (from + length xs) ys
stand_right whole from xs ys h i x e = subst (λ n. slice_get whole n ≡ Some x) (plus_plus from (length xs) i) (h (length xs + i) x (behind xs ys i x e))

pub stand_first : {A : Type 0} (whole : List A) (from : ℕ) (x : A) (xs : List A) → StandFrom whole from (x ∷ xs) → slice_get whole from ≡ Some x
stand_first whole from x xs h = subst (λ n. slice_get whole n ≡ Some x) (plus_zero from) (h 0 x refl)

plus_suc : (a i : ℕ) → a + suc i ≡ (a + 1) + i
plus_suc a i = omega arith

pub stand_rest : {A : Type 0} (whole : List A) (from : ℕ) (x : A) (xs : List A) → StandFrom whole from (x ∷ xs) → StandFrom whole (from + 1) xs
stand_rest whole from x xs h i y e = subst (λ n. slice_get whole n ≡ Some y) (plus_suc from i) (h (suc i) y e)

pub there_below : {A : Type 0} (xs : List A) (n : ℕ) → n < length xs → (x : A) × (slice_get xs n ≡ Some x)
there_below [] n low = absurd (omega arith)
there_below (x ∷ xs) zero low = (x, refl)
there_below (x ∷ xs) (suc n) low = there_below xs n (omega arith)

pub below_there : {A : Type 0} (xs : List A) (n : ℕ) (x : A) → slice_get xs n ≡ Some x → n < length xs
below_there [] n x e = absurd (none-some x e)
below_there (z ∷ zs) zero x e = omega arith
below_there (z ∷ zs) (suc n) x e = let w : n < length zs = below_there zs n x e in omega arith

pub some_is : {A : Type 0} (x y : A) → Some x ≡ Some y → x ≡ y
some_is x y e = cc

-- a place of the whole is in the first part, or behind it
pub place_cases : {A : Type 0} (xs ys : List A) (n : ℕ) (x : A) → slice_get (xs ++ ys) n ≡ Some x → (slice_get xs n ≡ Some x) ⊎ ((m : ℕ) × (n ≡ length xs + m) × (slice_get ys m ≡ Some x))
place_cases [] ys n x e = inr (n, sym (zero_plus n), e)
place_cases (z ∷ zs) ys zero x e = inl e
place_cases (z ∷ zs) ys (suc n) x e = by (place_cases zs ys n x e)
  where
    by : (slice_get zs n ≡ Some x) ⊎ ((m : ℕ) × (n ≡ length zs + m) × (slice_get ys m ≡ Some x)) → (slice_get zs n ≡ Some x) ⊎ ((m : ℕ) × (suc n ≡ length (z ∷ zs) + m) × (slice_get ys m ≡ Some x))
    by (inl h) = inl h
    by (inr h) = inr (h.0, ap suc h.1 ∙ suc_plus (length zs) h.0, h.2)

-- ---- the first that passes a test

module _ {A : Type 0} (p : A → Bool) where
  abbrev found : ℕ → ℕ → Option ℕ
  found n m = cond (nat_lt n m) (Some n) None

  below : (n m : ℕ) → nat_lt n m ≡ nat_lt (1 + n) (suc m)
  below n m = grind (arith, nat_tests)

  further : (n m q : ℕ) → found n m ≡ Some q → found (1 + n) (suc m) ≡ Some (1 + q)
  further n m q h = by (nat_lt n m) refl h
    where
      by : (c : Bool) → c ≡ nat_lt n m → cond {A = Option ℕ} c (Some n) None ≡ Some q → found (1 + n) (suc m) ≡ Some (1 + q)
      by true e g = let same : n ≡ q = cc in ap (λ d. cond {A = Option ℕ} d (Some (1 + n)) None) (sym (e ∙ below n m)) ∙ ap (λ r. Some (1 + r)) same
      by false e g = absurd cc

  zero_below : (m : ℕ) → nat_lt 0 (suc m) ≡ true
  zero_below m = grind (arith, nat_tests)

  one_plus : (k : ℕ) → 1 + k ≡ suc k
  one_plus k = omega arith

  pub position_first : (xs : List A) (k : ℕ) (y : A) → slice_get xs k ≡ Some y → p y ≡ true → ((j : ℕ) (z : A) → j < k → slice_get xs j ≡ Some z → p z ≡ false) → position p xs ≡ Some k
  position_first [] k y e t f = absurd (none-some y e)
  position_first (x ∷ xs) zero y e t f =
      let is : p x ≡ true = ap p (some_is x y e) ∙ t in
      ap (λ b. found (cond (not b) (1 + position_or_len p xs) 0) (suc (length xs))) is ∙ ap (λ d. cond {A = Option ℕ} d (Some 0) None) (zero_below (length xs))
  position_first (x ∷ xs) (suc k) y e t f =
      let rest : position p xs ≡ Some k = position_first xs k y e t (λ j z low there. f (suc j) z (omega (arith, low)) there) in
      ap (λ b. found (cond (not b) (1 + position_or_len p xs) 0) (suc (length xs))) (f 0 x (omega arith) refl)
      ∙ further (position_or_len p xs) (length xs) k rest ∙ ap (λ n. Some n) (one_plus k)
