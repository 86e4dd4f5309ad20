-- No more dependencies lead into a node than there are triples.
use Rattle.std.proofs.Common.{◌≡◌, ℕ, zero, suc, ◌+◌, ◌<◌, ◌≤◌, Bool, true, false, cond, ◌&&◌, ◌||◌, nat_eq, List, [], ◌∷◌, length, get_or, sum_by, AllPairs, refl, ap, ◌∙◌, subst, arith, eqb-true}
use Rattle.std.specs.List.{list_any}
use Rattle.std.specs.List.Sorted.{IsStrictlyIncreasing}
use Rattle.std.proofs.lemmas.Bool.Decides.{nat_tests}
use Rattle.std.proofs.lemmas.List.Sums.{sum_by-cons}
use Rattle.std.proofs.lemmas.List.Kept.{AllPairs-from_increasing}
use Rattle.sp_lattice.specs.System.{Meaning}
use Rattle.sp_lattice.specs.Bound.{sum_below, dependencies_into}
use Rattle.sp_lattice.proofs.Ranks.{sum_below-le}
use Rattle.sp_sparse.proofs.Summing.{sum_below-first}
use Rattle.sp_lattice.specs.Flat.{row_at}
use Rattle.sp_deps.specs.Rows.{same_pair, held, total}

-- a test of a cons, counted
count-or : (a b : Bool) → cond {A = ℕ} (a || b) 1 0 ≤ cond a 1 0 + cond b 1 0
count-or true b = omega arith
count-or false b = omega arith

count-and : (a b : Bool) → cond {A = ℕ} (a && b) 1 0 ≤ cond a 1 0
count-and true true = omega arith
count-and true false = omega arith
count-and false b = omega arith

sum_by-le_sum : (f g h : ℕ → ℕ) (ls : List ℕ) → ((l : ℕ) → f l ≤ g l + h l) → sum_by f ls ≤ sum_by g ls + sum_by h ls
sum_by-le_sum f g h [] each = omega arith
sum_by-le_sum f g h (l ∷ ls) each = omega (arith, sum_by-cons f l ls, sum_by-cons g l ls, sum_by-cons h l ls, each l, sum_by-le_sum f g h ls each)

sum_by-none : (ls : List ℕ) → sum_by (λ l. 0) ls ≡ 0
sum_by-none [] = refl
sum_by-none (l ∷ ls) = omega (arith, sum_by-cons (λ k. 0) l ls, sum_by-none ls)

-- a number stands once at most in an ascending list
equal_above : (ls : List ℕ) (p : ℕ) → ((k : ℕ) → k < length ls → p < get_or ls k 0) → sum_by (λ l. cond (nat_eq l p) 1 0) ls ≡ 0
equal_above [] p above = refl
equal_above (l ∷ ls) p above =
    let not_here : cond {A = ℕ} (nat_eq l p) 1 0 ≡ 0 = ap (λ b. cond b 1 0) (apart l p (above 0 (omega arith))) in
    omega (arith, sum_by-cons (λ k. cond (nat_eq k p) 1 0) l ls, not_here, equal_above ls p (λ k low. above (suc k) (omega arith)))
  where
    apart : (a b : ℕ) → b < a → nat_eq a b ≡ false
    apart a b h = grind (arith, nat_tests)

-- what is left of an ascending list ascends
pub rest_rises : (l : ℕ) (ls : List ℕ) → IsStrictlyIncreasing (l ∷ ls) → IsStrictlyIncreasing ls
rest_rises l ls rises k low =
    let next : suc k + 1 ≡ suc (k + 1) = omega arith in
    subst (λ j. get_or (l ∷ ls) (suc k) 0 < get_or (l ∷ ls) j 0) next (rises (suc k) (omega arith))

once : (ls : List ℕ) (p : ℕ) → IsStrictlyIncreasing ls → sum_by (λ l. cond (nat_eq l p) 1 0) ls ≤ 1
once [] p rises = omega arith
once (l ∷ ls) p rises = by (nat_eq l p) refl (once ls p (rest_rises l ls rises))
  where
    pairs : AllPairs (λ x y. x < y) (l ∷ ls)
    pairs = AllPairs-from_increasing (l ∷ ls) rises

    by : (b : Bool) → nat_eq l p ≡ b → sum_by (λ k. cond (nat_eq k p) 1 0) ls ≤ 1 → sum_by (λ k. cond (nat_eq k p) 1 0) (l ∷ ls) ≤ 1
    by true is more =
        let here : cond {A = ℕ} (nat_eq l p) 1 0 ≡ 1 = ap (λ b. cond b 1 0) is in
        let none = equal_above ls p (λ k low. subst (λ z. z < get_or ls k 0) (eqb-true l p is) (pairs 0 (suc k) 0 (omega arith) (omega arith))) in
        omega (arith, sum_by-cons (λ k. cond (nat_eq k p) 1 0) l ls, here, none)
    by false is more =
        let here : cond {A = ℕ} (nat_eq l p) 1 0 ≡ 0 = ap (λ b. cond b 1 0) is in
        omega (arith, sum_by-cons (λ k. cond (nat_eq k p) 1 0) l ls, here, more)

-- the locations at which pairs lead to one node
row_few : (ls : List ℕ) (c : ℕ) (row : List (ℕ × ℕ)) → IsStrictlyIncreasing ls → sum_by (λ l. cond (list_any (same_pair (l, c)) row) 1 0) ls ≤ length row
row_few ls c [] rises = omega (arith, sum_by-none ls)
row_few ls c (p ∷ row) rises =
    omega (
      arith,
      sum_by-le_sum (λ l. cond (list_any (same_pair (l, c)) (p ∷ row)) 1 0) (λ l. cond (nat_eq l p.0) 1 0) (λ l. cond (list_any (same_pair (l, c)) row) 1 0) ls
          (λ l. omega (arith, count-or (same_pair (l, c) p) (list_any (same_pair (l, c)) row), count-and (nat_eq l p.0) (nat_eq c p.1))),
      once ls p.0 rises,
      row_few ls c row rises,
    )

-- sums over a list and below a bound, the one inside the other
swap_sums : (ls : List ℕ) (n : ℕ) (f : ℕ → ℕ → ℕ) → sum_by (λ l. sum_below n (λ b. f b l)) ls ≡ sum_below n (λ b. sum_by (λ l. f b l) ls)
swap_sums ls zero f = sum_by-none ls
swap_sums ls (suc n) f = add ls ∙ ap (λ s. s + sum_by (λ l. f n l) ls) (swap_sums ls n f)
  where
    add : (ks : List ℕ) → sum_by (λ l. sum_below n (λ b. f b l) + f n l) ks ≡ sum_by (λ l. sum_below n (λ b. f b l)) ks + sum_by (λ l. f n l) ks
    add [] = refl
    add (k ∷ ks) = omega (arith, sum_by-cons (λ l. sum_below n (λ b. f b l) + f n l) k ks, sum_by-cons (λ l. sum_below n (λ b. f b l)) k ks, sum_by-cons (λ l. f n l) k ks, add ks)

total-rows : (rows : List (List (ℕ × ℕ))) → sum_below (length rows) (λ b. length (row_at rows b)) ≡ total rows
total-rows [] = refl
total-rows (row ∷ rows) = omega (arith, sum_below-first (length rows) (λ b. length (row_at (row ∷ rows) b)), total-rows rows, sum_by-cons (λ (r : List (ℕ × ℕ)). length r) row rows)

pub dependencies_few : {V : Type 0} (m : Meaning V) (rows : List (List (ℕ × ℕ))) (c : ℕ) → length rows ≡ m.nodes → IsStrictlyIncreasing (m.uses c) → dependencies_into m (held rows) c ≤ total rows
dependencies_few m rows c long rises =
    omega (
      arith,
      swap_sums (m.uses c) m.nodes (λ b l. cond (held rows b l c) 1 0),
      sum_below-le m.nodes (λ b. sum_by (λ l. cond (held rows b l c) 1 0) (m.uses c)) (λ b. length (row_at rows b)) (λ b low. row_few (m.uses c) c (row_at rows b) rises),
      ap (λ n. sum_below n (λ b. length (row_at rows b))) long,
      total-rows rows,
    )
