-- The numbers of regions that pass a test ascend, and are among those of the regions.
use Rattle.std.proofs.Common.{ℕ, zero, suc, ◌+◌, ◌<◌, ◌≤◌, Bool, true, false, cond, List, [], ◌∷◌, length, arith}
use Rattle.std.specs.Prelude.{All, AllPairs}
use Rattle.std.specs.List.Sorted.{IsStrictlyIncreasing}
use Rattle.std.proofs.lemmas.List.Kept.{AllPairs-cons}
use Rattle.sp_ir.specs.Regions.{Region, numbers_of}

-- each number is below the next where it is below all later ones
pub rising : (xs : List ℕ) → AllPairs (λ x y. x < y) xs → IsStrictlyIncreasing xs
rising xs h k low = h k (k + 1) 0 (omega arith) low

module _ (test : Region → Bool) where
  pub numbers-within : (n : ℕ) (rs : List Region) → All (λ q. (n ≤ q) × (q < n + length rs)) (numbers_of test n rs)
  numbers-within n [] k d low = absurd (omega (arith, low))
  numbers-within n (r ∷ rs) k d low = by (test r) (numbers-within (n + 1) rs) k d low
    where
      by : (b : Bool) → All (λ q. (n + 1 ≤ q) × (q < n + 1 + length rs)) (numbers_of test (n + 1) rs)
          → All (λ q. (n ≤ q) × (q < n + suc (length rs))) (cond b (n ∷ numbers_of test (n + 1) rs) (numbers_of test (n + 1) rs))
      by true rest zero d low = (omega arith, omega arith)
      by true rest (suc k) d low = let h = rest k d (omega (arith, low)) in (omega (arith, h.0), omega (arith, h.1))
      by false rest k d low = let h = rest k d low in (omega (arith, h.0), omega (arith, h.1))

  numbers-ordered : (n : ℕ) (rs : List Region) → AllPairs (λ x y. x < y) (numbers_of test n rs)
  numbers-ordered n [] i j d less low = absurd (omega (arith, low))
  numbers-ordered n (r ∷ rs) i j d less low = by (test r) (numbers-ordered (n + 1) rs) (numbers-within (n + 1) rs) i j d less low
    where
      by : (b : Bool) → AllPairs (λ x y. x < y) (numbers_of test (n + 1) rs) → All (λ q. (n + 1 ≤ q) × (q < n + 1 + length rs)) (numbers_of test (n + 1) rs)
          → AllPairs (λ x y. x < y) (cond b (n ∷ numbers_of test (n + 1) rs) (numbers_of test (n + 1) rs))
      by true rest within = AllPairs-cons (λ x y. x < y) n (numbers_of test (n + 1) rs) (λ k d low. let h = (within k d low).0 in omega (arith, h)) rest
      by false rest within = rest

  pub numbers-rise : (n : ℕ) (rs : List Region) → IsStrictlyIncreasing (numbers_of test n rs)
  numbers-rise n rs = rising (numbers_of test n rs) (numbers-ordered n rs)

  pub numbers-few : (n : ℕ) (rs : List Region) → length (numbers_of test n rs) ≤ length rs
  numbers-few n [] = omega arith
  numbers-few n (r ∷ rs) = by (test r) (numbers-few (n + 1) rs)
    where
      by : (b : Bool) → length (numbers_of test (n + 1) rs) ≤ length rs → length (cond b (n ∷ numbers_of test (n + 1) rs) (numbers_of test (n + 1) rs)) ≤ suc (length rs)
      by true h = omega (arith, h)
      by false h = omega (arith, h)
