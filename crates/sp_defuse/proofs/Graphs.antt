-- The places of nodes.
use Rattle.std.proofs.Common.{◌≡◌, ◌≢◌, ◌⊎◌, inl, inr, ℕ, zero, suc, ◌<◌, ◌≤◌, Bool, true, false, ◌&&◌, ◌||◌, nat_eq, nat_lt, List, [], ◌∷◌, length, get_or, refl, sym, ap, ◌∙◌, arith}
use Rattle.std.specs.List.Sorted.{IsStrictlyIncreasing}
use Rattle.std.proofs.lemmas.Bool.Decides.{nat_tests}
use Rattle.std.proofs.lemmas.List.Kept.{AllPairs-from_increasing}
use Rattle.sp_effect_rows.proofs.Numbers.{which, side, same_number, apart_numbers}
use Rattle.sp_defuse.specs.Sources.{stands_at}

pub is-lower : (k n : ℕ) → k < n → nat_lt k n ≡ true
is-lower k n h = grind (arith, nat_tests, h)

not-lower : (k n : ℕ) → n ≤ k → nat_lt k n ≡ false
not-lower k n h = grind (arith, nat_tests, h)

pub any-default : (xs : List ℕ) (k d e : ℕ) → k < length xs → get_or xs k d ≡ get_or xs k e
any-default [] k d e h = absurd (omega arith)
any-default (x ∷ xs) zero d e h = refl
any-default (x ∷ xs) (suc k) d e h = any-default xs k d e (omega arith)

-- a node stands at one place of an ascending list
pub one-place : (nodes : List ℕ) (node p : ℕ) → IsStrictlyIncreasing nodes → p < length nodes → get_or nodes p 0 ≡ node → (j : ℕ) → nat_eq j p ≡ stands_at nodes node j
one-place nodes node p rises low at j = by (which j p)
  where
    apart : (j < p) ⊎ (p ≤ j) → j ≢ p → j < length nodes → node ≢ get_or nodes j 0
    apart (inl less) other there = λ e. omega (arith, e, at, AllPairs-from_increasing nodes rises j p 0 less low)
    apart (inr more) other there = λ e. omega (arith, e, at, AllPairs-from_increasing nodes rises p j 0 (grind (arith, more, other)) there)

    elsewhere : j ≢ p → (j < length nodes) ⊎ (length nodes ≤ j) → false ≡ stands_at nodes node j
    elsewhere other (inl there) = sym (ap (λ b. b && nat_eq node (get_or nodes j 0)) (is-lower j (length nodes) there) ∙ apart_numbers node (get_or nodes j 0) (apart (side j p) other there))
    elsewhere other (inr past) = sym (ap (λ b. b && nat_eq node (get_or nodes j 0)) (not-lower j (length nodes) past))

    by : (j ≡ p) ⊎ (j ≢ p) → nat_eq j p ≡ stands_at nodes node j
    by (inl e) = ap (λ k. nat_eq k p) e ∙ same_number p
        ∙ sym (ap (λ k. stands_at nodes node k) e ∙ ap (λ b. b && nat_eq node (get_or nodes p 0)) (is-lower p (length nodes) low) ∙ ap (λ n. nat_eq node n) at ∙ same_number node)
    by (inr other) = apart_numbers j p other ∙ elsewhere other (side j (length nodes))

pub either-way : (a b : Bool) → (a || b) ≡ (b || a)
either-way true true = refl
either-way true false = refl
either-way false true = refl
either-way false false = refl
