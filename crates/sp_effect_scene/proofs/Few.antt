-- No cell may point to more regions than there are.
use Rattle.std.proofs.Common.{◌≡◌, ℕ, zero, suc, ◌+◌, ◌<◌, ◌≤◌, true, List, length, get_or, refl, subst, arith}
use Rattle.std.specs.List.Sorted.{IsStrictlyIncreasing}
use Rattle.sp_base_sets.specs.Sets.{has}
use Rattle.sp_base_sets.specs.Reached.{row}
use Rattle.sp_base_sets.proofs.Members.{has_there}
use Rattle.sp_points_rules.specs.Puts.{rules_of}
use Rattle.sp_points_rules.proofs.Putting.{program_rules}
use Rattle.sp_effect_scene.specs.Analysed.{Analysed}
use Rattle.sp_effect_scene.specs.Whole.{IsAnalysed}
use Rattle.sp_effect_scene.proofs.Finding.{table-within}

grows : (xs : List ℕ) → IsStrictlyIncreasing xs → (k : ℕ) → k < length xs → k ≤ get_or xs k 0
grows xs rises zero low = omega arith
grows xs rises (suc k) low =
    let before = grows xs rises k (omega (arith, low)) in
    let step = rises k (omega (arith, low)) in
    let next : k + 1 ≡ suc k = omega arith in
    subst (λ j. suc k ≤ get_or xs j 0) next (omega (arith, before, step))

-- an ascending list of numbers below n has at most n
pub ascending-few : (xs : List ℕ) (n : ℕ) → IsStrictlyIncreasing xs → ((x : ℕ) → has x xs ≡ true → x < n) → length xs ≤ n
ascending-few xs n rises low = by (length xs) refl
  where
    by : (m : ℕ) → length xs ≡ m → length xs ≤ n
    by zero e = omega (arith, e)
    by (suc m) e =
        let last = low (get_or xs m 0) (has_there xs (get_or xs m 0) m (omega (arith, e)) refl) in
        let far = grows xs rises m (omega (arith, e)) in
        omega (arith, e, last, far)

module _ (a : Analysed) (whole : IsAnalysed a) where
  pub regions-there : (c r : ℕ) → has r (row a.told.rows c) ≡ true → (c < length a.program.regions) × (r < length a.program.regions)
  regions-there c r h = table-within (length a.program.regions) (row a.told.rows) (rules_of a.program) (length a.program.nodes) (program_rules a.program whole.formed) whole.points_to c r h

  pub targets-few : (c : ℕ) → length (row a.told.rows c) ≤ length a.program.regions
  targets-few c = ascending-few (row a.told.rows c) (length a.program.regions) (whole.ascending c) (λ r h. (regions-there c r h).1)
