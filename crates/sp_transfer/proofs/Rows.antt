-- A row of slots as a list.
use Rattle.std.proofs.Common.{◌≡◌, ◌≢◌, ◌⊎◌, inl, inr, ℕ, suc, true, false, cond, ◌||◌, nat_eq, List, [], ◌∷◌, length, map, refl, sym, ap, ◌∙◌, arith}
use Rattle.std.specs.List.Sorted.{IsStrictlyIncreasing}
use Rattle.std.proofs.lemmas.Bool.{false≢true}
use Rattle.std.proofs.lemmas.List.Kept.{AllPairs-from_increasing}
use Rattle.sp_lattice.specs.System.{has, written}
use Rattle.sp_value.specs.declared.slots.Slot.{Slot}
use Rattle.sp_value.specs.declared.slots.Slot.TheVariants.{Nothing}
use Rattle.sp_effect_rows.specs.Updates.{store_of}
use Rattle.sp_effect_rows.proofs.Numbers.{which, same_number, apart_numbers}
use Rattle.sp_effect_rows.proofs.Ordered.{rest_rises, has-nowhere}

first_only : (p : ℕ) (places : List ℕ) → IsStrictlyIncreasing (p ∷ places) → has p places ≡ false
first_only p places rises = has-nowhere p places (λ k low e. omega (arith, e, AllPairs-from_increasing (p ∷ places) rises 0 (suc k) 0 (omega arith) (omega (arith, low))))

-- a row with what a store has at each of its places has the store's values
pub same-row : (f : ℕ → Slot) (places : List ℕ) (row : List Slot) → IsStrictlyIncreasing places → length row ≡ length places → ((l : ℕ) → has l places ≡ true → store_of places row l ≡ f l) → row ≡ map f places
same-row f [] [] rises long at = refl
same-row f [] (x ∷ row) rises long at = absurd (omega (arith, long))
same-row f (p ∷ places) [] rises long at = absurd (omega (arith, long))
same-row f (p ∷ places) (x ∷ row) rises long at = ap (λ y. y ∷ row) first ∙ ap (λ ys. f p ∷ ys) (same-row f places row (rest_rises p places rises) (omega (arith, long)) later)
  where
    first : x ≡ f p
    first = ap (λ b. cond b x (written (λ k. Nothing) places row p)) (sym (same_number p)) ∙ at p (ap (λ b. b || has p places) (same_number p))

    -- a later place isn't p
    apart : (l : ℕ) → has l places ≡ true → nat_eq l p ≡ false
    apart l h = by (which l p)
      where
        by : (l ≡ p) ⊎ (l ≢ p) → nat_eq l p ≡ false
        by (inl e) = absurd (false≢true (sym (first_only p places rises) ∙ ap (λ k. has k places) (sym e) ∙ h))
        by (inr e) = apart_numbers l p e

    later : (l : ℕ) → has l places ≡ true → store_of places row l ≡ f l
    later l h = ap (λ b. cond b x (written (λ k. Nothing) places row l)) (sym (apart l h)) ∙ at l (ap (λ b. b || has l places) (apart l h) ∙ h)
