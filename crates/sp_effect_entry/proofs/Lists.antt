-- What holds of all of a list, and members of lists that are gathered.
use Rattle.std.proofs.Common.{◌≡◌, ◌⊎◌, inl, inr, ℕ, zero, suc, ◌<◌, true, nat_eq, List, [], ◌∷◌, length, get_or, map, Some, refl, sym, ap, subst, arith, eqb-true}
use Rattle.std.specs.Prelude.{All, slice_get, flat_map}
use Rattle.std.proofs.lemmas.Bool.{false≢true, or_cases}
use Rattle.sp_base_sets.specs.Sets.{has}
use Rattle.sp_eval.proofs.Among.{among-left, among-right}

module _ {A : Type 0} where
  pub all_first : (P : A → Type 0) (x : A) (xs : List A) → All P (x ∷ xs) → P x
  all_first P x xs h = h 0 x (omega arith)

  pub all_rest : (P : A → Type 0) (x : A) (xs : List A) → All P (x ∷ xs) → All P xs
  all_rest P x xs h k d low = h (suc k) d (omega (arith, low))

  -- of each element that stands somewhere
  pub all_from : (P : A → Type 0) (xs : List A) → ((i : ℕ) (x : A) → slice_get xs i ≡ Some x → P x) → All P xs
  all_from P [] each k d low = absurd (omega (arith, low))
  all_from P (x ∷ xs) each zero d low = each 0 x refl
  all_from P (x ∷ xs) each (suc k) d low = all_from P xs (λ i y e. each (suc i) y e) k d (omega (arith, low))

  pub all_at : (P : A → Type 0) (xs : List A) → All P xs → (i : ℕ) (x : A) → slice_get xs i ≡ Some x → P x
  all_at P [] h i x e = absurd (cc)
  all_at P (y ∷ xs) h zero x e = subst P (same e) (all_first P y xs h)
    where
      same : Some y ≡ Some x → y ≡ x
      same g = cc
  all_at P (y ∷ xs) h (suc i) x e = all_at P xs (all_rest P y xs h) i x e

  -- what one element gives is among what all give
  pub among-each : (f : A → List ℕ) (xs : List A) (i : ℕ) (x : A) (r : ℕ) → slice_get xs i ≡ Some x → has r (f x) ≡ true → has r (flat_map f xs) ≡ true
  among-each f [] i x r e h = absurd (cc)
  among-each f (y ∷ xs) zero x r e h = among-left (f y) (flat_map f xs) r (subst (λ z. has r (f z) ≡ true) (same e) h)
    where
      same : Some y ≡ Some x → x ≡ y
      same g = cc
  among-each f (y ∷ xs) (suc i) x r e h = among-right (f y) (flat_map f xs) r (among-each f xs i x r e h)

-- what stands at a place, among images
pub mapped_at : {A B : Type 0} (f : A → B) (xs : List A) (i : ℕ) (x : A) → i < length xs → x ≡ get_or xs i x → slice_get (map f xs) i ≡ Some (f x)
mapped_at f [] i x low is = absurd (omega (arith, low))
mapped_at f (y ∷ ys) zero x low is = ap (λ z. Some (f z)) (sym is)
mapped_at f (y ∷ ys) (suc i) x low is = mapped_at f ys i x (omega (arith, low)) is

-- a member stands somewhere
pub member-at : (xs : List ℕ) (x : ℕ) → has x xs ≡ true → (i : ℕ) × (slice_get xs i ≡ Some x)
member-at [] x h = absurd (false≢true h)
member-at (y ∷ ys) x h = by (or_cases (nat_eq x y) (has x ys) h) (λ g. member-at ys x g)
  where
    by : (nat_eq x y ≡ true) ⊎ (has x ys ≡ true) → (has x ys ≡ true → (i : ℕ) × (slice_get ys i ≡ Some x)) → (i : ℕ) × (slice_get (y ∷ ys) i ≡ Some x)
    by (inl e) rest = (0, ap (λ z. Some z) (sym (eqb-true x y e)))
    by (inr g) rest = let found = rest g in (suc found.0, found.1)
