-- Tests that some member of a list passes.
use Rattle.std.proofs.Common.{◌≡◌, ◌⊎◌, inl, inr, ℕ, ◌+◌, ◌<◌, ◌≤◌, Bool, true, false, cond, nat_eq, ◌||◌, ◌&&◌, List, [], ◌∷◌, ◌++◌, length, take, get_or, refl, sym, ap, ◌∙◌, eqb-true}
use Rattle.std.specs.List.{list_any}
use Rattle.std.proofs.lemmas.Bool.{false≢true, or_cases, eq-eqb}
use Rattle.std.proofs.lemmas.List.{take_all}
use Rattle.std.proofs.lemmas.List.Folds.{list_any-append, list_any_more}
use Rattle.sp_lattice.specs.System.{has}

pub both-ways : (a b : Bool) → (a ≡ true → b ≡ true) → (b ≡ true → a ≡ true) → a ≡ b
both-ways true b f g = sym (f refl)
both-ways false true f g = g refl
both-ways false false f g = refl

module _ (p : ℕ → Bool) where
  pub any-there : (xs : List ℕ) (x : ℕ) → has x xs ≡ true → p x ≡ true → list_any p xs ≡ true
  any-there [] x h k = absurd (false≢true h)
  any-there (y ∷ ys) x h k = by (p y) refl (or_cases (nat_eq x y) (has x ys) h) (λ g. any-there ys x g k)
    where
      by : (b : Bool) → p y ≡ b → (nat_eq x y ≡ true) ⊎ (has x ys ≡ true) → (has x ys ≡ true → list_any p ys ≡ true) → (b || list_any p ys) ≡ true
      by true e h rest = refl
      by false e (inl same) rest = absurd (false≢true (sym e ∙ ap p (sym (eqb-true x y same)) ∙ k))
      by false e (inr g) rest = rest g

  any-from : (xs : List ℕ) → list_any p xs ≡ true → (x : ℕ) × (has x xs ≡ true) × (p x ≡ true)
  any-from [] h = absurd (false≢true h)
  any-from (y ∷ ys) h = by (or_cases (p y) (list_any p ys) h) (any-from ys)
    where
      later : (b : Bool) → (b || true) ≡ true
      later true = refl
      later false = refl

      by : (p y ≡ true) ⊎ (list_any p ys ≡ true) → (list_any p ys ≡ true → (x : ℕ) × (has x ys ≡ true) × (p x ≡ true)) → (x : ℕ) × (has x (y ∷ ys) ≡ true) × (p x ≡ true)
      by (inl k) rest = (y, ap (λ b. b || has y ys) (eq-eqb y y refl), k)
      by (inr g) rest = let one = rest g in (one.0, ap (λ b. nat_eq one.0 y || b) one.1 ∙ later (nat_eq one.0 y), one.2)

  pub any-same : (xs ys : List ℕ) → ((x : ℕ) → has x xs ≡ has x ys) → list_any p xs ≡ list_any p ys
  any-same xs ys same = both-ways (list_any p xs) (list_any p ys)
      (λ h. let one = any-from xs h in any-there ys one.0 (sym (same one.0) ∙ one.1) one.2)
      (λ h. let one = any-from ys h in any-there xs one.0 (same one.0 ∙ one.1) one.2)

  -- ---- the members that pass

  -- one more member is looked at, and taken where it passes
  pub picked-more : (xs old new : List ℕ) (i x : ℕ) (b : Bool) → i < length xs → x ≡ get_or xs i x → b ≡ p x → ((l : ℕ) → has l old ≡ (has l (take i xs) && p l))
      → new ≡ cond b (old ++ x ∷ []) old → (l : ℕ) → has l new ≡ (has l (take (i + 1) xs) && p l)
  picked-more xs old new i x b low is tested so_far made l =
      ap (has l) made ∙ by b (sym tested) ∙ ap (λ c. c && p l) (ap (λ y. has l (take i xs) || nat_eq l y) is ∙ sym (list_any_more (nat_eq l) xs i x low))
    where
      one : (a c d : Bool) → (nat_eq l x ≡ true → d ≡ true) → ((a && d) || (nat_eq l x || false)) ≡ ((a || nat_eq l x) && d)
      one a c d h = two a d (nat_eq l x) h
        where
          two : (a d e : Bool) → (e ≡ true → d ≡ true) → ((a && d) || (e || false)) ≡ ((a || e) && d)
          two true true e g = refl
          two true false true g = sym (g refl)
          two true false false g = refl
          two false d true g = sym (g refl)
          two false d false g = refl

      none : (a d e : Bool) → (e ≡ true → d ≡ false) → (a && d) ≡ ((a || e) && d)
      none true d e g = refl
      none false d true g = sym (g refl)
      none false d false g = refl

      by : (b : Bool) → p x ≡ b → has l (cond b (old ++ x ∷ []) old) ≡ ((has l (take i xs) || nat_eq l x) && p l)
      by true e = list_any-append (nat_eq l) old (x ∷ []) ∙ ap (λ c. c || (nat_eq l x || false)) (so_far l) ∙ one (has l (take i xs)) true (p l) (λ h. ap p (eqb-true l x h) ∙ e)
      by false e = so_far l ∙ none (has l (take i xs)) (p l) (nat_eq l x) (λ h. ap p (eqb-true l x h) ∙ e)

  pub picked-all : (xs now : List ℕ) (i : ℕ) → length xs ≤ i → ((l : ℕ) → has l now ≡ (has l (take i xs) && p l)) → (l : ℕ) → has l now ≡ (has l xs && p l)
  picked-all xs now i past so_far l = so_far l ∙ ap (λ ys. has l ys && p l) (take_all i xs past)
