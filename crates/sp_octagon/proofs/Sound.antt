-- Each call keeps the points that it should: what holds of whole numbers before still holds after.
use Rattle.std.proofs.Common.{◌≡◌, ◌⊎◌, inl, inr, ℕ, ◌+◌, ◌*◌, ◌/◌, ◌%◌, ◌<◌, ◌==◌, Bool, true, false, cond, List, ℤ, pos, neg_ℤ, ◌+ℤ◌, ◌-ℤ◌, ◌≤ℤ◌, ◌<ℤ◌, refl, sym, ap, ◌∙◌, subst, arith}
use Rattle.std.specs.Int.{int_min, int_max}
use Rattle.std.proofs.lemmas.Int.{ints, clamps}
use Rattle.std.proofs.lemmas.Bool.Decides.{nat_tests}
use Rattle.sp_lattice.specs.Ladder.{lowest, IsLadder, InBounds}
use Rattle.sp_lattice.proofs.Snaps.{int_lt_true, int_le_true, int_lt_false, snapped_up_is, lt_from_int_lt, le_from_int_le, same_int}
use Rattle.sp_lattice.specs.Relation.{holds}
use Rattle.sp_lattice.specs.declared.relations.Relation.{Relation}
use Rattle.sp_lattice.specs.declared.relations.Relation.TheVariants.{Less, LessEqual, Greater, GreaterEqual, Equal, Different}
use Rattle.sp_interval.specs.declared.interval.Interval.{Interval}
use Rattle.sp_interval.specs.declared.interval.Interval.TheVariants.{Empty, Of}
use Rattle.sp_interval.specs.Interval.{Holds as IntervalHolds}
use Rattle.sp_octagon.specs.Entries.{Entries, unbounded, IsBound, cut, half, doubled, negative}
use Rattle.sp_octagon.specs.Order.{Below}
use Rattle.sp_octagon.specs.Points.{Point, value_at, Holds, whole_point, replaced}
use Rattle.sp_octagon.specs.Changes.{is_pair, with_pair, lowered, stands_for, forgotten, growth, moved, tied, assigned, bounded_by, difference_at_most, constrained, snapped_bound, snapped_entries, projected}
use Rattle.sp_octagon.proofs.Numbers.{which, below_or_not, half-is, nat_same, nat_other, CutCases, raised, stays, taken, cut_cases}
use Rattle.sp_octagon.proofs.PointLaws.{value_even, value_odd, negative-value, parity}
use Rattle.sp_octagon.proofs.Matrices.{PairCases, itself, its_equal, apart, pair_cases}
use Rattle.sp_octagon.proofs.ChangeLaws.{SnapCases, past, onto, snap_cases, projected-exact}

same_nat : (a b : ℕ) → (a == b) ≡ true → a ≡ b
same_nat a b h = grind (arith, nat_tests)

other_nat : (a b : ℕ) → (a == b) ≡ false → a ≡ b → ⊥
other_nat a b h e = grind (arith, nat_tests)

-- a greater octagon holds more
pub holds-below : (n : ℕ) (a b : Entries) (p : Point) → Below n a b → Holds n a p → Holds n b p
holds-below n a b p below h = record {
  within = λ r c hr hc bound. let le = below r c hr hc in omega (arith, ints, le, h.within r c hr hc (omega (arith, ints, le, bound)));
}

-- ---- what rows stand for at a point of whole numbers

row_even : (v : ℕ → ℤ) (i : ℕ) → value_at (whole_point v) (2 * i) ≡ (v i +ℤ v i)
row_even v i =
    let even : (2 * i) % 2 ≡ 0 = omega arith in
    let member : (2 * i) / 2 ≡ i = omega arith in
    value_even (whole_point v) (2 * i) even ∙ ap (λ j. v j +ℤ v j) member

row_odd : (v : ℕ → ℤ) (i : ℕ) → value_at (whole_point v) (2 * i + 1) ≡ neg_ℤ (v i +ℤ v i)
row_odd v i =
    let odd : (2 * i + 1) % 2 ≡ 1 = omega arith in
    let member : (2 * i + 1) / 2 ≡ i = omega arith in
    value_odd (whole_point v) (2 * i + 1) odd ∙ ap (λ j. neg_ℤ (v j +ℤ v j)) member

-- of a row that doesn't stand for x, another value of x changes nothing
row_same : (v : ℕ → ℤ) (x : ℕ) (w : ℤ) (r : ℕ) → stands_for x r ≡ false → value_at (whole_point (replaced v x w)) r ≡ value_at (whole_point v) r
row_same v x w r off = by (parity r)
  where
    member : replaced v x w (r / 2) ≡ v (r / 2)
    member = ap (λ t. cond t w (v (r / 2))) off

    by : (r % 2 ≡ 0) ⊎ (r % 2 ≡ 1) → value_at (whole_point (replaced v x w)) r ≡ value_at (whole_point v) r
    by (inl even) = value_even (whole_point (replaced v x w)) r even ∙ ap (λ z. z +ℤ z) member ∙ sym (value_even (whole_point v) r even)
    by (inr odd) = value_odd (whole_point (replaced v x w)) r odd ∙ ap (λ z. neg_ℤ (z +ℤ z)) member ∙ sym (value_odd (whole_point v) r odd)

replaced_at : (v : ℕ → ℤ) (x : ℕ) (w : ℤ) → replaced v x w x ≡ w
replaced_at v x w = ap (λ t. cond t w (v x)) (nat_same x x refl)

replaced_other : (v : ℕ → ℤ) (x : ℕ) (w : ℤ) (y : ℕ) → (y ≡ x → ⊥) → replaced v x w y ≡ v y
replaced_other v x w y ne = ap (λ t. cond t w (v y)) (nat_other y x ne)

-- ---- pairs

-- a pair that is met by a point
module _ (n : ℕ) (m : Entries) (p : Point) (r c : ℕ) (v : ℤ) (h : Holds n m p) (met : (value_at p c -ℤ value_at p r) ≤ℤ (v +ℤ v)) where
  pair_met : (i j : ℕ) → is_pair r c i j ≡ true → (value_at p j -ℤ value_at p i) ≤ℤ (v +ℤ v)
  pair_met i j on = by (pair_cases r c i j)
    where
      by : PairCases r c i j → (value_at p j -ℤ value_at p i) ≤ℤ (v +ℤ v)
      by (itself e f t) = let a = ap (value_at p) e in let b = ap (value_at p) f in omega (arith, ints, a, b, met)
      by (its_equal e f t) =
          let a = ap (value_at p) e in
          let b = ap (value_at p) f in
          omega (arith, ints, a, b, negative-value p r, negative-value p c, met)
      by (apart ne ne' t) = absurd (off (sym t ∙ on))
        where
          off : false ≡ true → ⊥
          off e = cc

  pub with_pair-holds : Holds n (with_pair m r c v) p
  with_pair-holds = record { within = λ i j hi hj bound. by i j hi hj (which (is_pair r c i j)) bound }
    where
      by : (i j : ℕ) → i < n → j < n → (is_pair r c i j ≡ true) ⊎ (is_pair r c i j ≡ false) → IsBound (with_pair m r c v i j) → (value_at p j -ℤ value_at p i) ≤ℤ (with_pair m r c v i j +ℤ with_pair m r c v i j)
      by i j hi hj (inl t) bound = let e : with_pair m r c v i j ≡ v = rw t refl in omega (arith, ints, e, pair_met i j t)
      by i j hi hj (inr t) bound = let e : with_pair m r c v i j ≡ m i j = rw t refl in omega (arith, ints, e, h.within i j hi hj (subst IsBound e bound))

  pub lowered-holds : Holds n (lowered m r c v) p
  lowered-holds = record { within = λ i j hi hj bound. by i j hi hj (which (is_pair r c i j)) (below_or_not (m i j) v) bound }
    where
      by : (i j : ℕ) → i < n → j < n → (is_pair r c i j ≡ true) ⊎ (is_pair r c i j ≡ false) → (m i j <ℤ v) ⊎ (v ≤ℤ m i j) → IsBound (lowered m r c v i j) → (value_at p j -ℤ value_at p i) ≤ℤ (lowered m r c v i j +ℤ lowered m r c v i j)
      by i j hi hj (inl t) (inl less) bound =
          let e : lowered m r c v i j ≡ int_min v (m i j) = rw t refl in
          let f : lowered m r c v i j ≡ m i j = omega (arith, ints, clamps, e, less) in
          omega (arith, ints, f, h.within i j hi hj (subst IsBound f bound))
      by i j hi hj (inl t) (inr more) bound =
          let e : lowered m r c v i j ≡ int_min v (m i j) = rw t refl in
          omega (arith, ints, clamps, e, more, pair_met i j t)
      by i j hi hj (inr t) o bound =
          let e : lowered m r c v i j ≡ m i j = rw t refl in
          omega (arith, ints, e, h.within i j hi hj (subst IsBound e bound))

-- ---- the calls

pub bounded_by-holds : (n : ℕ) (m : Entries) (x : ℕ) (to : Interval) (v : ℕ → ℤ) → Holds n m (whole_point v) → IntervalHolds to (v x) → Holds n (bounded_by m x to) (whole_point v)
bounded_by-holds n m x Empty v h i = absurd i
bounded_by-holds n m x (Of lo hi) v h i =
    lowered-holds n (lowered m (2 * x + 1) (2 * x) (hi +ℤ hi)) (whole_point v) (2 * x) (2 * x + 1) (neg_ℤ (lo +ℤ lo))
    (lowered-holds n m (whole_point v) (2 * x + 1) (2 * x) (hi +ℤ hi) h (omega (arith, ints, row_even v x, row_odd v x, i.1)))
    (omega (arith, ints, row_even v x, row_odd v x, i.0))

at_most-holds : (n : ℕ) (m : Entries) (x y : ℕ) (z : ℤ) (v : ℕ → ℤ) → Holds n m (whole_point v) → (v x -ℤ v y) ≤ℤ z → Holds n (difference_at_most m x y z) (whole_point v)
at_most-holds n m x y z v h met = lowered-holds n m (whole_point v) (2 * y) (2 * x) z h (omega (arith, ints, row_even v x, row_even v y, met))

pub constrained-holds : (n : ℕ) (m : Entries) (x : ℕ) (op : Relation) (y : ℕ) (v : ℕ → ℤ) → Holds n m (whole_point v) → holds op (v x) (v y) ≡ true → Holds n (constrained m x op y) (whole_point v)
constrained-holds n m x Less y v h t = at_most-holds n m x y (neg_ℤ (pos 1)) v h (omega (arith, ints, lt_from_int_lt (v x) (v y) t))
constrained-holds n m x LessEqual y v h t = at_most-holds n m x y (pos 0) v h (omega (arith, ints, le_from_int_le (v x) (v y) t))
constrained-holds n m x Greater y v h t = at_most-holds n m y x (neg_ℤ (pos 1)) v h (omega (arith, ints, lt_from_int_lt (v y) (v x) t))
constrained-holds n m x GreaterEqual y v h t = at_most-holds n m y x (pos 0) v h (omega (arith, ints, le_from_int_le (v y) (v x) t))
constrained-holds n m x Equal y v h t =
    let same = same_int (v x) (v y) t in
    at_most-holds n (difference_at_most m x y (pos 0)) y x (pos 0) v (at_most-holds n m x y (pos 0) v h (omega (arith, ints, same))) (omega (arith, ints, same))
constrained-holds n m x Different y v h t = h

-- with any value of x
pub forgotten-holds : (n : ℕ) (m : Entries) (x : ℕ) (w : ℤ) (v : ℕ → ℤ) → Holds n m (whole_point v) → Holds n (forgotten m x) (whole_point (replaced v x w))
forgotten-holds n m x w v h = record { within = λ r c hr hc bound. by r c hr hc (r == c) refl (stands_for x r) refl (stands_for x c) refl bound }
  where
    by : (r c : ℕ) → r < n → c < n → (s : Bool) → (r == c) ≡ s → (t : Bool) → stands_for x r ≡ t → (u : Bool) → stands_for x c ≡ u → IsBound (forgotten m x r c) → (value_at (whole_point (replaced v x w)) c -ℤ value_at (whole_point (replaced v x w)) r) ≤ℤ (forgotten m x r c +ℤ forgotten m x r c)
    by r c hr hc true e t f u g bound =
        let is : forgotten m x r c ≡ m r c = rw e refl in
        let same = same_nat r c e in
        let here = ap (value_at (whole_point (replaced v x w))) same in
        let there = ap (value_at (whole_point v)) same in
        omega (arith, ints, is, here, there, h.within r c hr hc (subst IsBound is bound))
    by r c hr hc false e true f u g bound = let is : forgotten m x r c ≡ unbounded = rw (e, f) refl in absurd (omega (arith, ints, is, bound))
    by r c hr hc false e false f true g bound = let is : forgotten m x r c ≡ unbounded = rw (e, f, g) refl in absurd (omega (arith, ints, is, bound))
    by r c hr hc false e false f false g bound =
        let is : forgotten m x r c ≡ m r c = rw (e, f, g) refl in
        omega (arith, ints, is, row_same v x w r f, row_same v x w c g, h.within r c hr hc (subst IsBound is bound))

-- what a row stands for grows with its member
row_moved : (v : ℕ → ℤ) (x : ℕ) (k : ℤ) (r : ℕ) → value_at (whole_point (replaced v x (v x +ℤ k))) r ≡ (value_at (whole_point v) r +ℤ (growth x k r +ℤ growth x k r))
row_moved v x k r = by (r == 2 * x) refl (r == 2 * x + 1) refl
  where
    w : ℕ → ℤ
    w = replaced v x (v x +ℤ k)

    by : (s : Bool) → (r == 2 * x) ≡ s → (t : Bool) → (r == 2 * x + 1) ≡ t → value_at (whole_point (replaced v x (v x +ℤ k))) r ≡ (value_at (whole_point v) r +ℤ (growth x k r +ℤ growth x k r))
    by true e t f =
        let same = same_nat r (2 * x) e in
        let g : growth x k r ≡ k = rw e refl in
        let new = ap (value_at (whole_point (replaced v x (v x +ℤ k)))) same ∙ row_even (replaced v x (v x +ℤ k)) x ∙ ap (λ z. z +ℤ z) (replaced_at v x (v x +ℤ k)) in
        let old = ap (value_at (whole_point v)) same ∙ row_even v x in
        omega (arith, ints, g, new, old)
    by false e true f =
        let same = same_nat r (2 * x + 1) f in
        let g : growth x k r ≡ neg_ℤ k = rw (e, f) refl in
        let new = ap (value_at (whole_point (replaced v x (v x +ℤ k)))) same ∙ row_odd (replaced v x (v x +ℤ k)) x ∙ ap (λ z. neg_ℤ (z +ℤ z)) (replaced_at v x (v x +ℤ k)) in
        let old = ap (value_at (whole_point v)) same ∙ row_odd v x in
        omega (arith, ints, g, new, old)
    by false e false f =
        let g : growth x k r ≡ pos 0 = rw (e, f) refl in
        let ne = other_nat r (2 * x) e in
        let ne' = other_nat r (2 * x + 1) f in
        let off : stands_for x r ≡ false = nat_other (r / 2) x (λ q. apart_from q ne ne') in
        omega (arith, ints, g, row_same v x (v x +ℤ k) r off)
      where
        apart_from : r / 2 ≡ x → (r ≡ 2 * x → ⊥) → (r ≡ 2 * x + 1 → ⊥) → ⊥
        apart_from q a b = grind arith

pub moved-holds : (n : ℕ) (m : Entries) (x : ℕ) (k : ℤ) (v : ℕ → ℤ) → Holds n m (whole_point v) → Holds n (moved m x k) (whole_point (replaced v x (v x +ℤ k)))
moved-holds n m x k v h = record { within = λ r c hr hc bound. by r c hr hc (below_or_not (m r c) unbounded) bound }
  where
    by : (r c : ℕ) → r < n → c < n → (m r c <ℤ unbounded) ⊎ (unbounded ≤ℤ m r c) → IsBound (moved m x k r c) → (value_at (whole_point (replaced v x (v x +ℤ k))) c -ℤ value_at (whole_point (replaced v x (v x +ℤ k))) r) ≤ℤ (moved m x k r c +ℤ moved m x k r c)
    by r c hr hc (inr none) bound =
        let is : moved m x k r c ≡ unbounded = ap (λ t. cond t (cut (m r c +ℤ (growth x k c -ℤ growth x k r))) unbounded) (int_lt_false (m r c) unbounded none) in
        absurd (omega (arith, ints, is, bound))
    by r c hr hc (inl b) bound =
        let is : moved m x k r c ≡ cut (m r c +ℤ (growth x k c -ℤ growth x k r)) = ap (λ t. cond t (cut (m r c +ℤ (growth x k c -ℤ growth x k r))) unbounded) (int_lt_true (m r c) unbounded b) in
        let old = h.within r c hr hc b in
        let row = row_moved v x k r in
        let column = row_moved v x k c in
        from is old row column (cut_cases (m r c +ℤ (growth x k c -ℤ growth x k r)))
      where
        from : moved m x k r c ≡ cut (m r c +ℤ (growth x k c -ℤ growth x k r)) → (value_at (whole_point v) c -ℤ value_at (whole_point v) r) ≤ℤ (m r c +ℤ m r c) → value_at (whole_point (replaced v x (v x +ℤ k))) r ≡ (value_at (whole_point v) r +ℤ (growth x k r +ℤ growth x k r)) → value_at (whole_point (replaced v x (v x +ℤ k))) c ≡ (value_at (whole_point v) c +ℤ (growth x k c +ℤ growth x k c)) → CutCases (m r c +ℤ (growth x k c -ℤ growth x k r)) → (value_at (whole_point (replaced v x (v x +ℤ k))) c -ℤ value_at (whole_point (replaced v x (v x +ℤ k))) r) ≤ℤ (moved m x k r c +ℤ moved m x k r c)
        from is old row column (raised low e) = omega (arith, ints, is, old, row, column, low, e)
        from is old row column (stays low high e) = omega (arith, ints, is, old, row, column, e)
        from is old row column (taken over e) = absurd (omega (arith, ints, is, e, bound))

tied-holds : (n : ℕ) (m : Entries) (x y : ℕ) (k : ℤ) (v : ℕ → ℤ) → (x ≡ y → ⊥) → Holds n m (whole_point v) → Holds n (tied m x y k) (whole_point (replaced v x (v y +ℤ k)))
tied-holds n m x y k v ne h =
    with_pair-holds n (with_pair (forgotten m x) (2 * y) (2 * x) k) (whole_point w) (2 * x) (2 * y) (neg_ℤ k)
    (with_pair-holds n (forgotten m x) (whole_point w) (2 * y) (2 * x) k (forgotten-holds n m x (v y +ℤ k) v h) (omega (arith, ints, at_x, at_y)))
    (omega (arith, ints, at_x, at_y))
  where
    w : ℕ → ℤ
    w = replaced v x (v y +ℤ k)

    at_x : value_at (whole_point w) (2 * x) ≡ ((v y +ℤ k) +ℤ (v y +ℤ k))
    at_x = row_even w x ∙ ap (λ z. z +ℤ z) (replaced_at v x (v y +ℤ k))

    at_y : value_at (whole_point w) (2 * y) ≡ (v y +ℤ v y)
    at_y = row_even w y ∙ ap (λ z. z +ℤ z) (replaced_other v x (v y +ℤ k) y (λ e. ne (sym e)))

pub assigned-holds : (n : ℕ) (m : Entries) (x y : ℕ) (k : ℤ) (v : ℕ → ℤ) → Holds n m (whole_point v) → Holds n (assigned m x y k) (whole_point (replaced v x (v y +ℤ k)))
assigned-holds n m x y k v h = by (x == y) refl
  where
    by : (t : Bool) → (x == y) ≡ t → Holds n (cond t (moved m x k) (tied m x y k)) (whole_point (replaced v x (v y +ℤ k)))
    by true e = subst (λ (j : ℕ). Holds n (moved m x k) (whole_point (replaced v x (v j +ℤ k)))) (same_nat x y e) (moved-holds n m x k v h)
    by false e = tied-holds n m x y k v (other_nat x y e) h

pub snapped-holds : (n : ℕ) (points : List ℤ) (m : Entries) (v : ℕ → ℤ) → IsLadder points → Holds n m (whole_point v) → Holds n (snapped_entries points m) (whole_point v)
snapped-holds n points m v ladder h = record { within = λ r c hr hc bound. by r c hr hc (r == c) refl (c == negative r) refl bound }
  where
    above : (z : ℤ) → SnapCases points z → z ≤ℤ unbounded → z ≤ℤ snapped_bound points z
    above z (past over e) most = omega (arith, ints, e, most)
    above z (onto low e b) most =
        let s = snapped_up_is points (int_max lowest z) ladder (omega (arith, ints, clamps), omega (arith, ints, clamps, low)) in
        omega (arith, ints, clamps, e, s.not_below)

    small : (z : ℤ) → IsBound (snapped_bound points z) → SnapCases points z → z ≤ℤ unbounded
    small z bound (past over e) = absurd (omega (arith, ints, e, bound))
    small z bound (onto low e b) = omega (arith, ints, low)

    halved : (r : ℕ) → (t : ℤ) × (value_at (whole_point v) r ≡ (t +ℤ t))
    halved r = one (parity r)
      where
        one : (r % 2 ≡ 0) ⊎ (r % 2 ≡ 1) → (t : ℤ) × (value_at (whole_point v) r ≡ (t +ℤ t))
        one (inl even) = (v (r / 2), value_even (whole_point v) r even)
        one (inr odd) = let e = value_odd (whole_point v) r odd in (neg_ℤ (v (r / 2)), omega (arith, ints, e))

    doubles : (z : ℤ) → (z <ℤ unbounded) ⊎ (unbounded ≤ℤ z) → IsBound (doubled z) → (doubled z ≡ (z +ℤ z)) × IsBound z
    doubles z (inl b) bound = (ap (λ t. cond t (z +ℤ z) unbounded) (int_lt_true z unbounded b), b)
    doubles z (inr none) bound =
        let e : doubled z ≡ unbounded = ap (λ t. cond t (z +ℤ z) unbounded) (int_lt_false z unbounded none) in
        absurd (omega (arith, ints, e, bound))

    by : (r c : ℕ) → r < n → c < n → (s : Bool) → (r == c) ≡ s → (t : Bool) → (c == negative r) ≡ t → IsBound (snapped_entries points m r c) → (value_at (whole_point v) c -ℤ value_at (whole_point v) r) ≤ℤ (snapped_entries points m r c +ℤ snapped_entries points m r c)
    by r c hr hc true e t f bound =
        let is : snapped_entries points m r c ≡ m r c = rw e refl in
        omega (arith, ints, is, h.within r c hr hc (subst IsBound is bound))
    by r c hr hc false e true f bound =
        let is : snapped_entries points m r c ≡ doubled (snapped_bound points (half (m r c))) = rw (e, f) refl in
        let d = doubles (snapped_bound points (half (m r c))) (below_or_not (snapped_bound points (half (m r c))) unbounded) (subst IsBound is bound) in
        let cases = snap_cases points (half (m r c)) ladder in
        let less = small (half (m r c)) d.1 cases in
        let up = above (half (m r c)) cases less in
        let same = same_nat c (negative r) f in
        let turned = ap (value_at (whole_point v)) same ∙ negative-value (whole_point v) r in
        let row = halved r in
        unary r c hr hc is d.0 d.1 cases up turned row.0 row.1
      where
        unary : (a b : ℕ) → a < n → b < n → snapped_entries points m a b ≡ doubled (snapped_bound points (half (m a b))) → doubled (snapped_bound points (half (m a b))) ≡ (snapped_bound points (half (m a b)) +ℤ snapped_bound points (half (m a b))) → IsBound (snapped_bound points (half (m a b))) → SnapCases points (half (m a b)) → half (m a b) ≤ℤ snapped_bound points (half (m a b)) → value_at (whole_point v) b ≡ neg_ℤ (value_at (whole_point v) a) → (t : ℤ) → value_at (whole_point v) a ≡ (t +ℤ t) → (value_at (whole_point v) b -ℤ value_at (whole_point v) a) ≤ℤ (snapped_entries points m a b +ℤ snapped_entries points m a b)
        unary a b ha hb is d bound' (past over e') up turned t row = absurd (omega (arith, ints, e', bound'))
        unary a b ha hb is d bound' (onto low e' in_bounds) up turned t row =
            let old = h.within a b ha hb (omega (arith, ints, low, half-is (m a b))) in
            omega (arith, ints, is, d, up, turned, row, old, half-is (m a b))
    by r c hr hc false e false f bound =
        let is : snapped_entries points m r c ≡ snapped_bound points (m r c) = rw (e, f) refl in
        let b = subst IsBound is bound in
        let cases = snap_cases points (m r c) ladder in
        let up = above (m r c) cases (small (m r c) b cases) in
        omega (arith, ints, is, up, h.within r c hr hc (omega (arith, ints, up, b)))

pub projected-holds : (size : ℕ) (m : Entries) (x : ℕ) (v : ℕ → ℤ) → x < size → Holds (2 * size) m (whole_point v) → InBounds (v x) → IntervalHolds (projected m x) (v x)
projected-holds size m x v hx h in_bounds =
    (projected-exact m x (v x)).1 (
      in_bounds,
      record {
        at_most = λ b. omega (arith, ints, row_even v x, row_odd v x, h.within (2 * x + 1) (2 * x) (omega arith) (omega arith) b);
        at_least = λ b. omega (arith, ints, row_even v x, row_odd v x, h.within (2 * x) (2 * x + 1) (omega arith) (omega arith) b);
      },
    )

-- ---- and no others

lowered-at : (m : Entries) (r c : ℕ) (v : ℤ) → lowered m r c v r c ≡ int_min v (m r c)
lowered-at m r c v = rw (nat_same r r refl, nat_same c c refl) refl

lowered-below : (n : ℕ) (m : Entries) (r c : ℕ) (v : ℤ) → Below n (lowered m r c v) m
lowered-below n m r c v i j hi hj = by (which (is_pair r c i j))
  where
    by : (is_pair r c i j ≡ true) ⊎ (is_pair r c i j ≡ false) → lowered m r c v i j ≤ℤ m i j
    by (inl t) = let e : lowered m r c v i j ≡ int_min v (m i j) = rw t refl in omega (arith, ints, clamps, e)
    by (inr t) = let e : lowered m r c v i j ≡ m i j = rw t refl in omega (arith, ints, e)

lowered-met : (n : ℕ) (m : Entries) (p : Point) (r c : ℕ) (v : ℤ) → r < n → c < n → v <ℤ unbounded → Holds n (lowered m r c v) p → (value_at p c -ℤ value_at p r) ≤ℤ (v +ℤ v)
lowered-met n m p r c v hr hc low h =
    let e = lowered-at m r c v in
    omega (arith, ints, clamps, e, h.within r c hr hc (omega (arith, ints, clamps, e, low)))

at_most-met : (n : ℕ) (m : Entries) (x y : ℕ) (z : ℤ) (v : ℕ → ℤ) → 2 * x < n → 2 * y < n → z <ℤ unbounded → Holds n (difference_at_most m x y z) (whole_point v) → (v x -ℤ v y) ≤ℤ z
at_most-met n m x y z v hx hy low h = omega (arith, ints, row_even v x, row_even v y, lowered-met n m (whole_point v) (2 * y) (2 * x) z hy hx low h)

pub constrained-met : (n : ℕ) (m : Entries) (x : ℕ) (op : Relation) (y : ℕ) (v : ℕ → ℤ) → 2 * x < n → 2 * y < n → (op ≡ Different → ⊥) → Holds n (constrained m x op y) (whole_point v) → Holds n m (whole_point v) × (holds op (v x) (v y) ≡ true)
constrained-met n m x Less y v hx hy other h =
    let met = at_most-met n m x y (neg_ℤ (pos 1)) v hx hy (omega (arith, ints)) h in
    (holds-below n (difference_at_most m x y (neg_ℤ (pos 1))) m (whole_point v) (lowered-below n m (2 * y) (2 * x) (neg_ℤ (pos 1))) h, int_lt_true (v x) (v y) (omega (arith, ints, met)))
constrained-met n m x LessEqual y v hx hy other h =
    let met = at_most-met n m x y (pos 0) v hx hy (omega (arith, ints)) h in
    (holds-below n (difference_at_most m x y (pos 0)) m (whole_point v) (lowered-below n m (2 * y) (2 * x) (pos 0)) h, int_le_true (v x) (v y) (omega (arith, ints, met)))
constrained-met n m x Greater y v hx hy other h =
    let met = at_most-met n m y x (neg_ℤ (pos 1)) v hy hx (omega (arith, ints)) h in
    (holds-below n (difference_at_most m y x (neg_ℤ (pos 1))) m (whole_point v) (lowered-below n m (2 * x) (2 * y) (neg_ℤ (pos 1))) h, int_lt_true (v y) (v x) (omega (arith, ints, met)))
constrained-met n m x GreaterEqual y v hx hy other h =
    let met = at_most-met n m y x (pos 0) v hy hx (omega (arith, ints)) h in
    (holds-below n (difference_at_most m y x (pos 0)) m (whole_point v) (lowered-below n m (2 * x) (2 * y) (pos 0)) h, int_le_true (v y) (v x) (omega (arith, ints, met)))
constrained-met n m x Equal y v hx hy other h =
    let first = difference_at_most m x y (pos 0) in
    let back = at_most-met n first y x (pos 0) v hy hx (omega (arith, ints)) h in
    let inner = holds-below n (difference_at_most first y x (pos 0)) first (whole_point v) (lowered-below n first (2 * x) (2 * y) (pos 0)) h in
    let there = at_most-met n m x y (pos 0) v hx hy (omega (arith, ints)) inner in
    let same : v x ≡ v y = omega (arith, ints, there, back) in
    (holds-below n first m (whole_point v) (lowered-below n m (2 * y) (2 * x) (pos 0)) inner, equal_true (v x) (v y) same)
  where
    equal_true : (a b : ℤ) → a ≡ b → holds Equal a b ≡ true
    equal_true a b e = grind (arith, ints)
constrained-met n m x Different y v hx hy other h = absurd (other refl)

pub bounded_by-met : (n : ℕ) (m : Entries) (x : ℕ) (lo hi : ℤ) (v : ℕ → ℤ) → 2 * x + 1 < n → InBounds lo → InBounds hi → Holds n (bounded_by m x (Of lo hi)) (whole_point v) → Holds n m (whole_point v) × IntervalHolds (Of lo hi) (v x)
bounded_by-met n m x lo hi v hx low high h =
    let first = lowered m (2 * x + 1) (2 * x) (hi +ℤ hi) in
    let below = lowered-met n first (whole_point v) (2 * x) (2 * x + 1) (neg_ℤ (lo +ℤ lo)) (omega arith) hx (omega (arith, ints, low.0)) h in
    let inner = holds-below n (lowered first (2 * x) (2 * x + 1) (neg_ℤ (lo +ℤ lo))) first (whole_point v) (lowered-below n first (2 * x) (2 * x + 1) (neg_ℤ (lo +ℤ lo))) h in
    let above = lowered-met n m (whole_point v) (2 * x + 1) (2 * x) (hi +ℤ hi) hx (omega arith) (omega (arith, ints, high.1)) inner in
    (holds-below n first m (whole_point v) (lowered-below n m (2 * x + 1) (2 * x) (hi +ℤ hi)) inner, (omega (arith, ints, row_even v x, row_odd v x, below), omega (arith, ints, row_even v x, row_odd v x, above)))

with_pair-at : (m : Entries) (r c : ℕ) (v : ℤ) → with_pair m r c v r c ≡ v
with_pair-at m r c v = rw (nat_same r r refl, nat_same c c refl) refl

-- both bounds of x - y
pub assigned-met : (n : ℕ) (m : Entries) (x y : ℕ) (k : ℤ) (v : ℕ → ℤ) → 2 * x < n → 2 * y < n → (x ≡ y → ⊥) → IsBound k → IsBound (neg_ℤ k) → Holds n (assigned m x y k) (whole_point v) → v x ≡ (v y +ℤ k)
assigned-met n m x y k v hx hy other low low' h =
    let one = with_pair (forgotten m x) (2 * y) (2 * x) k in
    let is : (i j : ℕ) → assigned m x y k i j ≡ tied m x y k i j = λ i j. rw (nat_other x y other) refl in
    let below : assigned m x y k (2 * x) (2 * y) ≡ neg_ℤ k = is (2 * x) (2 * y) ∙ with_pair-at one (2 * x) (2 * y) (neg_ℤ k) in
    let apart_rows : (2 * y == 2 * x) ≡ false = nat_other (2 * y) (2 * x) (λ e. other (omega (arith, e))) in
    let apart_row : (2 * y == negative (2 * y)) ≡ false = nat_other (2 * y) (negative (2 * y)) (λ e. omega (arith, e)) in
    let off : is_pair (2 * x) (2 * y) (2 * y) (2 * x) ≡ false = rw (apart_rows, apart_row) refl in
    let outer : tied m x y k (2 * y) (2 * x) ≡ one (2 * y) (2 * x) = rw off refl in
    let above : assigned m x y k (2 * y) (2 * x) ≡ k = is (2 * y) (2 * x) ∙ outer ∙ with_pair-at (forgotten m x) (2 * y) (2 * x) k in
    let up = h.within (2 * y) (2 * x) hy hx (subst IsBound (sym above) low) in
    let down = h.within (2 * x) (2 * y) hx hy (subst IsBound (sym below) low') in
    omega (arith, ints, row_even v x, row_even v y, above, below, up, down)

-- what lowers entries makes nothing greater
lowered_below-below : (n : ℕ) (a m : Entries) (r c : ℕ) (v : ℤ) → Below n a m → Below n (lowered a r c v) m
lowered_below-below n a m r c v h i j hi hj = omega (arith, ints, h i j hi hj, lowered-below n a r c v i j hi hj)

pub constrained-below : (n : ℕ) (m : Entries) (x : ℕ) (op : Relation) (y : ℕ) → Below n (constrained m x op y) m
constrained-below n m x Less y = lowered-below n m (2 * y) (2 * x) (neg_ℤ (pos 1))
constrained-below n m x LessEqual y = lowered-below n m (2 * y) (2 * x) (pos 0)
constrained-below n m x Greater y = lowered-below n m (2 * x) (2 * y) (neg_ℤ (pos 1))
constrained-below n m x GreaterEqual y = lowered-below n m (2 * x) (2 * y) (pos 0)
constrained-below n m x Equal y = lowered_below-below n (difference_at_most m x y (pos 0)) m (2 * x) (2 * y) (pos 0) (lowered-below n m (2 * y) (2 * x) (pos 0))
constrained-below n m x Different y = λ i j hi hj. omega (arith, ints)

pub bounded_by-below : (n : ℕ) (m : Entries) (x : ℕ) (to : Interval) → Below n (bounded_by m x to) m
bounded_by-below n m x Empty = λ i j hi hj. omega (arith, ints)
bounded_by-below n m x (Of lo hi) = lowered_below-below n (lowered m (2 * x + 1) (2 * x) (hi +ℤ hi)) m (2 * x) (2 * x + 1) (neg_ℤ (lo +ℤ lo)) (lowered-below n m (2 * x + 1) (2 * x) (hi +ℤ hi))
