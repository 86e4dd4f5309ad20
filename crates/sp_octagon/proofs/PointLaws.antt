-- Points: none where a closed walk is negative, one where none is; and what walks say of them.
use Rattle.std.proofs.Common.{◌≡◌, ◌⊎◌, inl, inr, ℕ, zero, suc, ◌+◌, ◌*◌, ◌/◌, ◌%◌, ◌<◌, ◌≤◌, ℤ, pos, neg_ℤ, ◌+ℤ◌, ◌-ℤ◌, ◌≤ℤ◌, ◌<ℤ◌, refl, sym, ap, ◌∙◌, subst, arith}
use Rattle.std.specs.Int.{int_min}
use Rattle.std.proofs.lemmas.Int.{ints, clamps}
use Rattle.sp_octagon.specs.Entries.{Entries, IsBound, negative}
use Rattle.sp_octagon.specs.Points.{Point, value_at, Holds}
use Rattle.sp_octagon.specs.Walks.{Walk, entry, onward, HasNegativeWalk}
use Rattle.sp_octagon.proofs.Numbers.{below_or_not, negative-lt}
use Rattle.sp_octagon.specs.inner.Rounds.{AfterRounds}

-- what an even and an odd row stand for
pub value_even : (p : Point) (r : ℕ) → r % 2 ≡ 0 → value_at p r ≡ p (r / 2)
value_even p r h = rw h refl

pub value_odd : (p : Point) (r : ℕ) → r % 2 ≡ 1 → value_at p r ≡ neg_ℤ (p (r / 2))
value_odd p r h = rw h refl

pub parity : (r : ℕ) → (r % 2 ≡ 0) ⊎ (r % 2 ≡ 1)
parity r = grind arith

pub negative-value : (p : Point) (r : ℕ) → value_at p (negative r) ≡ neg_ℤ (value_at p r)
negative-value p r = by (parity r)
  where
    by : (r % 2 ≡ 0) ⊎ (r % 2 ≡ 1) → value_at p (negative r) ≡ neg_ℤ (value_at p r)
    by (inl even) =
        let odd : negative r % 2 ≡ 1 = omega arith in
        let same : negative r / 2 ≡ r / 2 = omega arith in
        value_odd p (negative r) odd ∙ ap (λ i. neg_ℤ (p i)) same ∙ ap neg_ℤ (sym (value_even p r even))
    by (inr odd) =
        let even : negative r % 2 ≡ 0 = omega arith in
        let same : negative r / 2 ≡ r / 2 = omega arith in
        let there : value_at p (negative r) ≡ p (r / 2) = value_even p (negative r) even ∙ ap p same in
        let here = value_odd p r odd in
        omega (arith, ints, there, here)

-- ---- a walk bounds the difference of its ends

pub walk_holds : (count : ℕ) (m : Entries) (p : Point) → Holds count m p → (from to : ℕ) (w : ℤ) → from < count → Walk count m from to w → (value_at p to -ℤ value_at p from) ≤ℤ (w +ℤ w)
walk_holds count m p h from to w here (entry low bound is) = omega (arith, ints, h.within from to here low bound, is)
walk_holds count m p h from to w here (onward {mid = j} {before = u} q low bound is) =
    omega (arith, ints, h.within j to (walk_end from j u q) low bound, is, walk_holds count m p h from j u here q)
  where
    walk_end : (f t : ℕ) (v : ℤ) → Walk count m f t v → t < count
    walk_end f t v (entry low' e g) = low'
    walk_end f t v (onward q' low' e g) = low'

pub no_point : (count : ℕ) (m : Entries) (p : Point) → HasNegativeWalk count m → Holds count m p → ⊥
no_point count m p n h = absurd (omega (arith, ints, walk_holds count m p h n.at n.at n.weight n.below n.walk, n.is_negative))

-- ---- the point of least walks from anywhere

-- the least of 0 and d 0 c, .., d (n-1) c
nearest : Entries → ℕ → ℕ → ℤ
nearest d zero c = pos 0
nearest d (suc n) c = int_min (nearest d n c) (d n c)

nearest-zero : (d : Entries) (c : ℕ) → nearest d 0 c ≡ pos 0
unfolding nearest
nearest-zero d c = refl

nearest-suc : (d : Entries) (n c : ℕ) → nearest d (suc n) c ≡ int_min (nearest d n c) (d n c)
unfolding nearest
nearest-suc d n c = refl

nearest-le : (d : Entries) (n c s : ℕ) → s < n → nearest d n c ≤ℤ d s c
nearest-le d zero c s h = absurd (omega arith)
nearest-le d (suc n) c s h = by (order s n) (λ less. nearest-le d n c s less)
  where
    order : (a b : ℕ) → (a < b) ⊎ (b ≤ a)
    order a b = grind arith

    by : (s < n) ⊎ (n ≤ s) → (s < n → nearest d n c ≤ℤ d s c) → nearest d (suc n) c ≤ℤ d s c
    by (inl less) rest = omega (arith, ints, clamps, nearest-suc d n c, rest less)
    by (inr more) rest = let e : s ≡ n = omega arith in let f = ap (λ x. d x c) e in omega (arith, ints, clamps, nearest-suc d n c, f)

nearest_not_positive : (d : Entries) (n c : ℕ) → nearest d n c ≤ℤ pos 0
nearest_not_positive d zero c = omega (arith, ints, nearest-zero d c)
nearest_not_positive d (suc n) c = omega (arith, ints, clamps, nearest-suc d n c, nearest_not_positive d n c)

data Attained (d : Entries) (n c : ℕ) : Type 0 where
  at_start : nearest d n c ≡ pos 0 → Attained d n c
  from : (s : ℕ) → s < n → nearest d n c ≡ d s c → Attained d n c

attained : (d : Entries) (n c : ℕ) → Attained d n c
attained d zero c = at_start (nearest-zero d c)
attained d (suc n) c = by (below_or_not (d n c) (nearest d n c)) (attained d n c)
  where
    by : (d n c <ℤ nearest d n c) ⊎ (nearest d n c ≤ℤ d n c) → Attained d n c → Attained d (suc n) c
    by (inl less) o = from n (omega arith) (omega (arith, ints, clamps, nearest-suc d n c, less))
    by (inr more) (at_start e) = at_start (omega (arith, ints, clamps, nearest-suc d n c, more, e))
    by (inr more) (from s low e) = from s (omega arith) (omega (arith, ints, clamps, nearest-suc d n c, more, e))

module _ (size : ℕ) (m d : Entries) (coherent : (r c : ℕ) → r < 2 * size → c < 2 * size → m (negative c) (negative r) ≡ m r c) (all : AfterRounds (2 * size) m (2 * size) d) where
  -- it grows along an entry by no more than the entry
  nearest-entry : (r c : ℕ) → r < 2 * size → c < 2 * size → IsBound (m r c) → nearest d (2 * size) c ≤ℤ (nearest d (2 * size) r +ℤ m r c)
  nearest-entry r c hr hc bound = by (attained d (2 * size) r)
    where
      step : d r c ≤ℤ m r c
      step = all.lesser r c hr hc

      by : Attained d (2 * size) r → nearest d (2 * size) c ≤ℤ (nearest d (2 * size) r +ℤ m r c)
      by (at_start e) = omega (arith, ints, e, step, nearest-le d (2 * size) c r hr)
      by (from s hs e) =
          let bound_s : IsBound (d s r) = omega (arith, ints, e, nearest_not_positive d (2 * size) r) in
          let bound_r : IsBound (d r c) = omega (arith, ints, step, bound) in
          omega (arith, ints, e, step, all.through s r c hs hr hc bound_s bound_r, nearest-le d (2 * size) c s hs)

  -- member i has the difference of what its two rows have
  nearest_point : Point
  nearest_point i = nearest d (2 * size) (2 * i) -ℤ nearest d (2 * size) (2 * i + 1)

  nearest-value : (r : ℕ) → value_at nearest_point r ≡ (nearest d (2 * size) r -ℤ nearest d (2 * size) (negative r))
  unfolding nearest_point
  nearest-value r = by (parity r)
    where
      by : (r % 2 ≡ 0) ⊎ (r % 2 ≡ 1) → value_at nearest_point r ≡ (nearest d (2 * size) r -ℤ nearest d (2 * size) (negative r))
      by (inl even) =
          let e : 2 * (r / 2) ≡ r = omega arith in
          let f : 2 * (r / 2) + 1 ≡ negative r = omega arith in
          value_even nearest_point r even ∙ ap (λ i. nearest d (2 * size) i -ℤ nearest d (2 * size) (2 * (r / 2) + 1)) e ∙ ap (λ i. nearest d (2 * size) r -ℤ nearest d (2 * size) i) f
      by (inr odd) =
          let e : 2 * (r / 2) ≡ negative r = omega arith in
          let f : 2 * (r / 2) + 1 ≡ r = omega arith in
          let v : value_at nearest_point r ≡ neg_ℤ (nearest d (2 * size) (2 * (r / 2)) -ℤ nearest d (2 * size) (2 * (r / 2) + 1)) = value_odd nearest_point r odd in
          let x = ap (nearest d (2 * size)) e in
          let y = ap (nearest d (2 * size)) f in
          omega (arith, ints, v, x, y)

  pub nearest-held : (p : Point) × Holds (2 * size) m p
  nearest-held = (
    nearest_point,
    record {
      within = λ r c hr hc bound.
          let there = nearest-entry r c hr hc bound in
          let same = coherent r c hr hc in
          let back = nearest-entry (negative c) (negative r) (negative-lt c size hc) (negative-lt r size hr) (subst IsBound (sym same) bound) in
          omega (arith, ints, nearest-value r, nearest-value c, there, back, same);
    },
  )
