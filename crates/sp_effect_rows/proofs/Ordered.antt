-- Ascending lists of locations: where a location stands, and what is written there.
use Rattle.std.proofs.Common.{◌≡◌, ◌≢◌, ◌⊎◌, inl, inr, ℕ, zero, suc, ◌<◌, ◌≤◌, Bool, true, false, cond, ◌||◌, nat_eq, List, [], ◌∷◌, length, get_or, set, Err, refl, sym, ap, ◌∙◌, ◌+◌, subst, arith}
use Rattle.std.specs.Ordering.{nat_cmp}
use Rattle.std.specs.List.Sorted.{IsStrictlyIncreasing, IsBinarySearchResult}
use Rattle.std.proofs.lemmas.Bool.{false≢true}
use Rattle.std.proofs.lemmas.Bool.Decides.{nat_tests}
use Rattle.std.proofs.lemmas.List.Kept.{AllPairs-from_increasing}
use Rattle.std.proofs.lemmas.List.Sorted.{searched}
use Rattle.sp_lattice.specs.System.{has, written}
use Rattle.sp_effect_rows.proofs.Numbers.{side, apart_numbers}

pub rest_rises : (l : ℕ) (ls : List ℕ) → IsStrictlyIncreasing (l ∷ ls) → IsStrictlyIncreasing ls
rest_rises l ls rises k low =
    let next : suc k + 1 ≡ suc (k + 1) = omega arith in
    subst (λ j. get_or (l ∷ ls) (suc k) 0 < get_or (l ∷ ls) j 0) next (rises (suc k) (omega arith))

or-false : (a b : Bool) → a ≡ false → b ≡ false → (a || b) ≡ false
or-false true b h k = absurd (false≢true (sym h))
or-false false b h k = k

-- what stands nowhere in a list isn't in it
pub has-nowhere : (x : ℕ) (xs : List ℕ) → ((k : ℕ) → k < length xs → get_or xs k 0 ≢ x) → has x xs ≡ false
has-nowhere x [] none = refl
has-nowhere x (y ∷ xs) none = or-false (nat_eq x y) (has x xs) (apart_numbers x y (λ e. none 0 (omega arith) (sym e))) (has-nowhere x xs (λ k low. none (suc k) (omega arith)))

pub rises_to : (xs : List ℕ) → IsStrictlyIncreasing xs → (i j : ℕ) → i ≤ j → j < length xs → get_or xs i 0 ≤ get_or xs j 0
rises_to xs rises i j i_j low = by (near i j i_j)
  where
    near : (a b : ℕ) → a ≤ b → (a ≡ b) ⊎ (a < b)
    near a b h = grind arith

    by : (i ≡ j) ⊎ (i < j) → get_or xs i 0 ≤ get_or xs j 0
    by (inl e) = omega (arith, ap (λ k. get_or xs k 0) e)
    by (inr less) = omega (arith, AllPairs-from_increasing xs rises i j 0 less low)

-- a search that fails looked for what isn't there
pub absent : (xs : List ℕ) (x i : ℕ) → IsStrictlyIncreasing xs → IsBinarySearchResult (λ y. nat_cmp y x) xs (Err i) → has x xs ≡ false
absent xs x i rises found =
    has-nowhere x xs (λ k low e. at k low e (side k i))
  where
    at : (k : ℕ) → k < length xs → get_or xs k 0 ≡ x → (k < i) ⊎ (i ≤ k) → ⊥
    at k low e (inl less) = let h = (searched xs x (Err i) found (rises_to xs rises)).1 k less in omega (arith, h)
    at k low e (inr more) = let h = (searched xs x (Err i) found (rises_to xs rises)).2 k more low in omega (arith, h)

module _ {V : Type 0} where
  -- the value written at a place of an ascending list stands at its location
  pub written-at : (store : ℕ → V) (ls : List ℕ) (vs : List V) (p : ℕ) (d : V) → IsStrictlyIncreasing ls → p < length ls → p < length vs → written store ls vs (get_or ls p 0) ≡ get_or vs p d
  written-at store [] vs p d rises low v_low = absurd (omega arith)
  written-at store (l ∷ ls) [] p d rises low v_low = absurd (omega arith)
  written-at store (l ∷ ls) (v ∷ vs) zero d rises low v_low = ap (λ b. cond b v (written store ls vs l)) (same l)
    where
      same : (n : ℕ) → nat_eq n n ≡ true
      same n = grind (arith, nat_tests)
  written-at store (l ∷ ls) (v ∷ vs) (suc p) d rises low v_low =
      ap (λ b. cond b v (written store ls vs (get_or ls p 0))) (later (get_or ls p 0) l (AllPairs-from_increasing (l ∷ ls) rises 0 (suc p) 0 (omega arith) low))
      ∙ written-at store ls vs p d (rest_rises l ls rises) (omega arith) (omega arith)
    where
      later : (a b : ℕ) → b < a → nat_eq a b ≡ false
      later a b h = grind (arith, nat_tests)

  -- elsewhere a new value at that place changes nothing
  pub written-set_other : (store : ℕ → V) (ls : List ℕ) (vs : List V) (p : ℕ) (w : V) (l : ℕ) → p < length ls → l ≢ get_or ls p 0 → written store ls (set vs p w) l ≡ written store ls vs l
  written-set_other store [] vs p w l low apart = absurd (omega arith)
  written-set_other store (k ∷ ls) [] p w l low apart = refl
  written-set_other store (k ∷ ls) (v ∷ vs) zero w l low apart = ap (λ b. cond b w (written store ls vs l)) (apart_numbers l k apart) ∙ sym (ap (λ b. cond b v (written store ls vs l)) (apart_numbers l k apart))
  written-set_other store (k ∷ ls) (v ∷ vs) (suc p) w l low apart = ap (λ r. cond (nat_eq l k) v r) (written-set_other store ls vs p w l (omega arith) apart)

  -- and at its location it stands
  pub written-set_same : (store : ℕ → V) (ls : List ℕ) (vs : List V) (p : ℕ) (w : V) → IsStrictlyIncreasing ls → p < length ls → p < length vs → written store ls (set vs p w) (get_or ls p 0) ≡ w
  written-set_same store [] vs p w rises low v_low = absurd (omega arith)
  written-set_same store (l ∷ ls) [] p w rises low v_low = absurd (omega arith)
  written-set_same store (l ∷ ls) (v ∷ vs) zero w rises low v_low = ap (λ b. cond b w (written store ls vs l)) (same l)
    where
      same : (n : ℕ) → nat_eq n n ≡ true
      same n = grind (arith, nat_tests)
  written-set_same store (l ∷ ls) (v ∷ vs) (suc p) w rises low v_low =
      ap (λ b. cond b v (written store ls (set vs p w) (get_or ls p 0))) (later (get_or ls p 0) l (AllPairs-from_increasing (l ∷ ls) rises 0 (suc p) 0 (omega arith) low))
      ∙ written-set_same store ls vs p w (rest_rises l ls rises) (omega arith) (omega arith)
    where
      later : (a b : ℕ) → b < a → nat_eq a b ≡ false
      later a b h = grind (arith, nat_tests)
