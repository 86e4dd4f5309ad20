-- How large a table can be, and that each service makes less to do.
use Rattle.std.proofs.Common.{◌≡◌, ◌⊎◌, inl, inr, ℕ, zero, suc, ◌+◌, ◌-◌, ◌*◌, ◌<◌, ◌≤◌, true, List, [], length, get_or, refl, ap, arith}
use Rattle.std.proofs.lemmas.Nat.{mul-le}
use Rattle.std.proofs.lemmas.List.{get_or_default}
use Rattle.std.proofs.lemmas.List.Sums.{sum_by-le}
use Rattle.sp_base_sets.specs.Sets.{has, Ascends}
use Rattle.sp_points_expr.specs.Tables.{Rules}
use Rattle.sp_points_expr.specs.Growing.{size, Working}
use Rattle.sp_points_expr.specs.declared.growing.Growing.{Growing}
use Rattle.sp_base_sets.proofs.Members.{has_there}

rises_past : (xs : List ℕ) → Ascends xs → (k : ℕ) → k < length xs → k ≤ get_or xs k 0
rises_past xs rises zero low = omega arith
rises_past xs rises (suc k) low =
    let before = rises_past xs rises k (omega arith) in
    let less = rises k (suc k) 0 (omega arith) low in
    omega (arith, before, less)

pub short : (xs : List ℕ) (n : ℕ) → Ascends xs → ((x : ℕ) → has x xs ≡ true → x < n) → length xs ≤ n
short xs n rises low = by (length xs) refl
  where
    by : (k : ℕ) → length xs ≡ k → length xs ≤ n
    by zero e = omega (arith, e)
    by (suc k) e =
        let last = rises_past xs rises k (omega (arith, e)) in
        let less = low (get_or xs k 0) (has_there xs (get_or xs k 0) k (omega (arith, e)) refl) in
        omega (arith, e, last, less)

pub size_low : (rules : Rules) (height count point : ℕ) (s : Growing) → Working rules height count point s → size s ≤ height * height
size_low rules height count point s working =
    let total = sum_by-le length (height) s.rows.items (λ c d low. omega (arith, ap length (get_or_default s.rows.items c d [] low), short (get_or s.rows.items c []) (height) (working.ascending c) (working.low c))) in
    omega (arith, total, ap (λ n. n * height) working.rows)

pub smaller : (most a b n q r : ℕ) → (a < b) × (b ≤ most) × (r ≤ n) ⊎ (a ≡ b) × (r < q) → (most - b) * (n + 1) + r < (most - a) * (n + 1) + q
smaller most a b n q r (inl (up, low, few)) =
    let less = mul-le (most - b + 1) (n + 1) (most - a) (n + 1) (omega arith) (omega arith) in
    let e : (most - b + 1) * (n + 1) ≡ (most - b) * (n + 1) + (n + 1) = grind arith in
    omega (arith, less, e)
smaller most a b n q r (inr (same, less)) = omega (arith, less, ap (λ x. (most - x) * (n + 1)) same)
