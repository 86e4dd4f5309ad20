-- The entries of the other calls are proper too.
use Rattle.std.proofs.Common.{◌≡◌, ◌≢◌, ◌⊎◌, inl, inr, ℕ, ◌+◌, ◌*◌, ◌<◌, ◌≤◌, max, ◌==◌, ◌||◌, Bool, true, false, cond, ℤ, pos, neg_ℤ, ◌+ℤ◌, ◌≤ℤ◌, ◌^◌, refl, sym, ap, ◌∙◌, subst, arith}
use Rattle.std.specs.Int.{int_min}
use Rattle.std.proofs.lemmas.Int.{ints}
use Rattle.std.proofs.lemmas.Bool.Decides.{nat_tests}
use Rattle.sp_lattice.specs.declared.relations.Relation.{Relation}
use Rattle.sp_lattice.specs.declared.relations.Relation.TheVariants.{Less, LessEqual, Greater, GreaterEqual, Equal, Different}
use Rattle.sp_interval.specs.declared.interval.Interval.{Interval}
use Rattle.sp_interval.specs.declared.interval.Interval.TheVariants.{Empty, Of}
use Rattle.sp_interval.specs.Interval.{IsFormed}
use Rattle.sp_octagon.specs.Entries.{Entries, unbounded, least_bound, greatest_bound, negative}
use Rattle.sp_octagon.specs.Facts.{IsInRange, IsMatrix}
use Rattle.sp_octagon.specs.Changes.{no_bounds, with_pair, lowered, stands_for, forgotten, moved, tied, assigned, bounded_by, difference_at_most, constrained}
use Rattle.sp_octagon.proofs.Numbers.{which}
use Rattle.sp_octagon.proofs.Closures.{IsProper}
use Rattle.sp_octagon.proofs.Matrices.{matrix-from, changed_pair, changed_pair-proper, pair_inside, bound-in_range, min-in_range}
use Rattle.sp_octagon.proofs.ChangeLaws.{forgotten-proper, moved-proper}

changed-matrix : (size r c : ℕ) (m : Entries) (g : ℤ → ℤ) → size ≤ 8 → IsMatrix size m → r < 2 * size → c < 2 * size → r ≢ c → ((z : ℤ) → IsInRange z → IsInRange (g z)) → IsMatrix size (changed_pair m r c g)
changed-matrix size r c m g few matrix hr hc different keeps =
    matrix-from size m (changed_pair m r c g) (changed_pair m r c g) few matrix (changed_pair-proper size r c m g few matrix hr hc different keeps)
    (λ i j hi hj. refl)
    (λ i j hi hj far. ap (λ b. cond b (g (m i j)) (m i j)) (pair_inside size r c m g few matrix hr hc different i j far))

pub forgotten-matrix : (size x : ℕ) (m : Entries) → size ≤ 8 → x < size → IsMatrix size m → IsMatrix size (forgotten m x)
forgotten-matrix size x m few hx matrix =
    matrix-from size m (forgotten m x) (forgotten m x) few matrix (forgotten-proper size x m few matrix)
    (λ i j hi hj. refl)
    (λ i j hi hj far. out i j hi hj far (which (i == j)) (which (stands_for x i || stands_for x j)))
  where
    out : (i j : ℕ) → i < 16 → j < 16 → 2 * size ≤ max i j → ((i == j) ≡ true) ⊎ ((i == j) ≡ false) → ((stands_for x i || stands_for x j) ≡ true) ⊎ ((stands_for x i || stands_for x j) ≡ false) → forgotten m x i j ≡ m i j
    out i j hi hj far (inl s) t = ap (λ b. cond b (m i j) (cond (stands_for x i || stands_for x j) unbounded (m i j))) s
    out i j hi hj far (inr s) (inr t) =
        ap (λ b. cond b (m i j) (cond (stands_for x i || stands_for x j) unbounded (m i j))) s ∙ ap (λ b. cond b unbounded (m i j)) t
    out i j hi hj far (inr s) (inl t) =
        let other : i ≢ j = differ i j s in
        ap (λ b. cond b (m i j) (cond (stands_for x i || stands_for x j) unbounded (m i j))) s ∙ ap (λ b. cond b unbounded (m i j)) t ∙ sym (matrix.outside i j hi hj far other)
      where
        differ : (a b : ℕ) → (a == b) ≡ false → a ≢ b
        differ a b h = λ e. grind (arith, nat_tests)

pub tied-proper : (size x y : ℕ) (k : ℤ) (m : Entries) → size ≤ 8 → x < size → y < size → x ≢ y → neg_ℤ (pos (2 ^ 64)) ≤ℤ k → k ≤ℤ pos (2 ^ 64) → IsMatrix size m → IsProper (2 * size) (tied m x y k)
tied-proper size x y k m few hx hy other low high matrix =
    changed_pair-proper size (2 * x) (2 * y) (with_pair (forgotten m x) (2 * y) (2 * x) k) (λ z. neg_ℤ k) few
    (changed-matrix size (2 * y) (2 * x) (forgotten m x) (λ z. k) few (forgotten-matrix size x m few hx matrix) (omega arith) (omega arith) (λ e. other (omega arith)) (λ z h. bound-in_range k (omega (arith, ints, low)) (omega (arith, ints, high))))
    (omega arith) (omega arith) (λ e. other (omega arith)) (λ z h. bound-in_range (neg_ℤ k) (omega (arith, ints, high)) (omega (arith, ints, low)))

pub assigned-proper : (size x y : ℕ) (k : ℤ) (m : Entries) → size ≤ 8 → x < size → y < size → neg_ℤ (pos (2 ^ 64)) ≤ℤ k → k ≤ℤ pos (2 ^ 64) → IsMatrix size m → IsProper (2 * size) (assigned m x y k)
assigned-proper size x y k m few hx hy low high matrix = by (which (x == y))
  where
    differ : (x == y) ≡ false → x ≢ y
    differ h = λ e. grind (arith, nat_tests)

    by : ((x == y) ≡ true) ⊎ ((x == y) ≡ false) → IsProper (2 * size) (assigned m x y k)
    by (inl s) = subst (λ (t : Bool). IsProper (2 * size) (cond t (moved m x k) (tied m x y k))) (sym s) (moved-proper size x k m few matrix)
    by (inr s) = subst (λ (t : Bool). IsProper (2 * size) (cond t (moved m x k) (tied m x y k))) (sym s) (tied-proper size x y k m few hx hy (differ s) low high matrix)

pub lowered-matrix : (size r c : ℕ) (v : ℤ) (m : Entries) → size ≤ 8 → IsMatrix size m → r < 2 * size → c < 2 * size → r ≢ c → least_bound ≤ℤ v → v ≤ℤ greatest_bound → IsMatrix size (lowered m r c v)
lowered-matrix size r c v m few matrix hr hc different low high =
    changed-matrix size r c m (int_min v) few matrix hr hc different (λ z h. min-in_range v z low high h)

lowered-proper : (size r c : ℕ) (v : ℤ) (m : Entries) → size ≤ 8 → IsMatrix size m → r < 2 * size → c < 2 * size → r ≢ c → least_bound ≤ℤ v → v ≤ℤ greatest_bound → IsProper (2 * size) (lowered m r c v)
lowered-proper size r c v m few matrix hr hc different low high =
    changed_pair-proper size r c m (int_min v) few matrix hr hc different (λ z h. min-in_range v z low high h)

pub matrix-proper : (size : ℕ) (m : Entries) → size ≤ 8 → IsMatrix size m → IsProper (2 * size) m
matrix-proper size m few matrix = record {
  diagonal = λ r hr. matrix.diagonal r (omega arith);
  coherent = λ r c hr hc. matrix.coherent r c (omega arith) (omega arith);
  in_range = λ r c hr hc. matrix.in_range r c (omega arith) (omega arith);
}

pub bounded_by-proper : (size x : ℕ) (to : Interval) (m : Entries) → size ≤ 8 → x < size → IsFormed to → IsMatrix size m → IsProper (2 * size) (bounded_by m x to)
bounded_by-proper size x Empty m few hx formed matrix = matrix-proper size m few matrix
bounded_by-proper size x (Of lo hi) m few hx formed matrix =
    let a = formed.1.0 in
    let b = formed.1.1 in
    let d = formed.2.0 in
    let e = formed.2.1 in
    lowered-proper size (2 * x) (2 * x + 1) (neg_ℤ (lo +ℤ lo)) (lowered m (2 * x + 1) (2 * x) (hi +ℤ hi)) few
    (lowered-matrix size (2 * x + 1) (2 * x) (hi +ℤ hi) m few matrix (omega arith) (omega arith) (λ f. absurd (omega arith)) (omega (arith, ints, d)) (omega (arith, ints, e)))
    (omega arith) (omega arith) (λ f. absurd (omega arith)) (omega (arith, ints, b)) (omega (arith, ints, a))

at_most-matrix : (size x y : ℕ) (v : ℤ) (m : Entries) → size ≤ 8 → x < size → y < size → x ≢ y → least_bound ≤ℤ v → v ≤ℤ greatest_bound → IsMatrix size m → IsMatrix size (difference_at_most m x y v)
at_most-matrix size x y v m few hx hy other low high matrix =
    lowered-matrix size (2 * y) (2 * x) v m few matrix (omega arith) (omega arith) (λ e. other (omega arith)) low high

pub constrained-proper : (size x : ℕ) (op : Relation) (y : ℕ) (m : Entries) → size ≤ 8 → x < size → y < size → x ≢ y → IsMatrix size m → IsProper (2 * size) (constrained m x op y)
constrained-proper size x Less y m few hx hy other matrix =
    matrix-proper size (difference_at_most m x y (neg_ℤ (pos 1))) few (at_most-matrix size x y (neg_ℤ (pos 1)) m few hx hy other (omega (arith, ints)) (omega (arith, ints)) matrix)
constrained-proper size x LessEqual y m few hx hy other matrix =
    matrix-proper size (difference_at_most m x y (pos 0)) few (at_most-matrix size x y (pos 0) m few hx hy other (omega (arith, ints)) (omega (arith, ints)) matrix)
constrained-proper size x Greater y m few hx hy other matrix =
    matrix-proper size (difference_at_most m y x (neg_ℤ (pos 1))) few (at_most-matrix size y x (neg_ℤ (pos 1)) m few hy hx (λ e. other (sym e)) (omega (arith, ints)) (omega (arith, ints)) matrix)
constrained-proper size x GreaterEqual y m few hx hy other matrix =
    matrix-proper size (difference_at_most m y x (pos 0)) few (at_most-matrix size y x (pos 0) m few hy hx (λ e. other (sym e)) (omega (arith, ints)) (omega (arith, ints)) matrix)
constrained-proper size x Equal y m few hx hy other matrix =
    matrix-proper size (difference_at_most (difference_at_most m x y (pos 0)) y x (pos 0)) few
    (at_most-matrix size y x (pos 0) (difference_at_most m x y (pos 0)) few hy hx (λ e. other (sym e)) (omega (arith, ints)) (omega (arith, ints))
    (at_most-matrix size x y (pos 0) m few hx hy other (omega (arith, ints)) (omega (arith, ints)) matrix))
constrained-proper size x Different y m few hx hy other matrix = matrix-proper size m few matrix

-- no bounds at all
pub no_bounds-proper : (count : ℕ) → IsProper count no_bounds
no_bounds-proper count = record {
  diagonal = λ r hr. diagonal r;
  coherent = λ r c hr hc. ap (λ b. cond b (pos 0) unbounded) (turned r c);
  in_range = λ r c hr hc. range (r == c);
}
  where
    diagonal : (r : ℕ) → no_bounds r r ≡ pos 0
    diagonal r = let same : (r == r) ≡ true = grind (arith, nat_tests) in rw same refl

    turned : (r c : ℕ) → (negative c == negative r) ≡ (r == c)
    turned r c = by (which (negative c == negative r)) (which (r == c))
      where
        same : (a b : ℕ) → (a == b) ≡ true → a ≡ b
        same a b e = grind (arith, nat_tests)

        other : (a b : ℕ) → (a == b) ≡ false → a ≡ b → ⊥
        other a b e f = grind (arith, nat_tests)

        by : ((negative c == negative r) ≡ true) ⊎ ((negative c == negative r) ≡ false) → ((r == c) ≡ true) ⊎ ((r == c) ≡ false) → (negative c == negative r) ≡ (r == c)
        by (inl e) (inl f) = e ∙ sym f
        by (inr e) (inr f) = e ∙ sym f
        by (inl e) (inr f) = absurd (other r c f (let p = same (negative c) (negative r) e in omega (arith, p)))
        by (inr e) (inl f) = absurd (other (negative c) (negative r) e (ap negative (sym (same r c f))))

    range : (b : Bool) → IsInRange (cond b (pos 0) unbounded)
    range true = record { low = omega (arith, ints); high = λ b. omega (arith, ints); most = omega (arith, ints) }
    range false = record { low = omega (arith, ints); high = λ b. absurd (omega (arith, ints, b)); most = omega (arith, ints) }
