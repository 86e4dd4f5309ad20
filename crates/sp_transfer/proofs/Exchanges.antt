-- Rows that exchange what they have, place by place.
use Rattle.std.proofs.Common.{◌≡◌, ◌≢◌, ◌⊎◌, inl, inr, ℕ, ◌<◌, ◌+◌, Bool, true, false, cond, ◌||◌, nat_eq, List, length, take, get_or, refl, sym, ap, ◌∙◌, subst, arith}
use Rattle.std.specs.Prelude.{slice_set}
use Rattle.std.specs.List.Sorted.{IsStrictlyIncreasing}
use Rattle.std.proofs.lemmas.List.{get_or-take, length-take-le}
use Rattle.std.proofs.lemmas.List.Folds.{list_any_more}
use Rattle.std.proofs.lemmas.List.Kept.{AllPairs-from_increasing}
use Rattle.sp_lattice.specs.System.{has}
use Rattle.sp_value.specs.declared.slots.Slot.{Slot}
use Rattle.sp_value.specs.declared.slots.Slot.TheVariants.{Nothing}
use Rattle.sp_effect_rows.specs.Updates.{store_of}
use Rattle.sp_effect_rows.proofs.Numbers.{which, same_number, apart_numbers}
use Rattle.sp_effect_rows.proofs.Ordered.{has-nowhere, written-at, written-set_same, written-set_other}

-- what stands at a place of a rising list isn't among those before it
rising-new : (xs : List ℕ) (i : ℕ) → IsStrictlyIncreasing xs → i < length xs → has (get_or xs i 0) (take i xs) ≡ false
rising-new xs i rises low = has-nowhere (get_or xs i 0) (take i xs) apart
  where
    apart : (k : ℕ) → k < length (take i xs) → get_or (take i xs) k 0 ≢ get_or xs i 0
    apart k h e =
        let k_low : k < i = omega (arith, h, length-take-le i xs (omega (arith, low))) in
        let less = AllPairs-from_increasing xs rises k i 0 k_low low in
        omega (arith, less, e, get_or-take i xs k 0 k_low)

or-false : (b : Bool) → (b || false) ≡ b
or-false true = refl
or-false false = refl

or-last : (a b : Bool) → b ≡ true → (a || b) ≡ true
or-last true b h = refl
or-last false b h = h

module _ (places these : List ℕ) (row0 slots0 row slots after : List Slot) (i : ℕ) (new here : Slot) (rises : IsStrictlyIncreasing these) (low : i < length these) (long : length slots ≡ length these) where
  abbrev x : ℕ
  x = get_or these i 0

  abbrev given : List Slot → ℕ → ℕ → Type 0
  given ss n k = store_of these ss k ≡ cond (has k (take n these)) (store_of places row0 k) (store_of these slots0 k)

  abbrev taken : List Slot → ℕ → ℕ → Type 0
  taken rs n k = store_of places rs k ≡ cond (has k (take n these)) (store_of these slots0 k) (store_of places row0 k)

  more : (k : ℕ) → has k (take (i + 1) these) ≡ (has k (take i these) || nat_eq k x)
  more k = list_any_more (nat_eq k) these i 0 low

  there : has x (take (i + 1) these) ≡ true
  there = more x ∙ or-last (has x (take i these)) (nat_eq x x) (same_number x)

  others : (k : ℕ) → k ≢ x → has k (take (i + 1) these) ≡ has k (take i these)
  others k n = more k ∙ ap (λ b. has k (take i these) || b) (apart_numbers k x n) ∙ or-false (has k (take i these))

  pub exchanged-next : ((k : ℕ) → given slots i k) → ((k : ℕ) → taken row i k) → here ≡ get_or slots i here → new ≡ store_of places row x → store_of places after x ≡ here → ((l : ℕ) → l ≢ x → store_of places after l ≡ store_of places row l)
      → ((k : ℕ) → given (slice_set slots i new) (i + 1) k) × ((k : ℕ) → taken after (i + 1) k)
  exchanged-next gives takes is comes goes rest = (λ k. first k (which k x), λ k. second k (which k x))
    where
      fresh : has x (take i these) ≡ false
      fresh = rising-new these i rises low

      first-here : given (slice_set slots i new) (i + 1) x
      first-here =
          written-set_same (λ k. Nothing) these slots i new rises low (omega (arith, low, long))
          ∙ comes ∙ takes x ∙ ap (λ b. cond b (store_of these slots0 x) (store_of places row0 x)) fresh
          ∙ sym (ap (λ b. cond b (store_of places row0 x) (store_of these slots0 x)) there)

      first : (k : ℕ) → (k ≡ x) ⊎ (k ≢ x) → given (slice_set slots i new) (i + 1) k
      first k (inl e) = subst (given (slice_set slots i new) (i + 1)) (sym e) first-here
      first k (inr n) =
          written-set_other (λ k. Nothing) these slots i new k low n
          ∙ gives k ∙ sym (ap (λ b. cond b (store_of places row0 k) (store_of these slots0 k)) (others k n))

      second-here : taken after (i + 1) x
      second-here =
          goes ∙ is ∙ sym (written-at (λ k. Nothing) these slots i here rises low (omega (arith, low, long)))
          ∙ gives x ∙ ap (λ b. cond b (store_of places row0 x) (store_of these slots0 x)) fresh
          ∙ sym (ap (λ b. cond b (store_of these slots0 x) (store_of places row0 x)) there)

      second : (k : ℕ) → (k ≡ x) ⊎ (k ≢ x) → taken after (i + 1) k
      second k (inl e) = subst (taken after (i + 1)) (sym e) second-here
      second k (inr n) = rest k n ∙ takes k ∙ sym (ap (λ b. cond b (store_of these slots0 k) (store_of places row0 k)) (others k n))
