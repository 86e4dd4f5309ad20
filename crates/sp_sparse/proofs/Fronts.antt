-- The front of the nodes that wait.
use Rattle.std.proofs.Common.{◌≡◌, ◌⊎◌, inl, inr, ℕ, zero, suc, ◌+◌, ◌-◌, ◌≤◌, min, List, [], ◌∷◌, take, drop, refl, sym, ap, ◌∙◌, arith}
use Rattle.std.specs.Prelude.{slice_range}

module _ {A : Type 0} where
  take-lesser : (i k : ℕ) (xs : List A) → i ≤ k → take i (take k xs) ≡ take i xs
  take-lesser zero k xs le = refl
  take-lesser (suc i) zero xs le = absurd (omega arith)
  take-lesser (suc i) (suc k) [] le = refl
  take-lesser (suc i) (suc k) (x ∷ xs) le = ap (λ ys. x ∷ ys) (take-lesser i k xs (omega arith))

  take-greater : (i k : ℕ) (xs : List A) → k ≤ i → take i (take k xs) ≡ take k xs
  take-greater i zero xs le = nothing i
    where
      nothing : (j : ℕ) → take {A = A} j [] ≡ []
      nothing zero = refl
      nothing (suc j) = refl
  take-greater zero (suc k) xs le = absurd (omega arith)
  take-greater (suc i) (suc k) [] le = refl
  take-greater (suc i) (suc k) (x ∷ xs) le = ap (λ ys. x ∷ ys) (take-greater i k xs (omega arith))

  -- a part of a list, cut to a number of elements
  pub front_is : (xs : List A) (first end most count : ℕ) → count ≡ min (end - first) most → slice_range xs first (first + count) ≡ take most (slice_range xs first end)
  front_is xs first end most count is = ap (λ k. take k (drop first xs)) (apart first count) ∙ by (side (end - first) most)
    where
      apart : (a b : ℕ) → a + b - a ≡ b
      apart a b = omega arith

      side : (a b : ℕ) → (a ≤ b) ⊎ (b ≤ a)
      side a b = grind arith

      by : (end - first ≤ most) ⊎ (most ≤ end - first) → take count (drop first xs) ≡ take most (take (end - first) (drop first xs))
      by (inl le) = ap (λ k. take k (drop first xs)) (omega (arith, is, le)) ∙ sym (take-greater most (end - first) (drop first xs) le)
      by (inr le) = ap (λ k. take k (drop first xs)) (omega (arith, is, le)) ∙ sym (take-lesser most (end - first) (drop first xs) le)
