-- Shortest paths by rounds (Floyd 1962, Warshall 1962): round k lets walks pass through k.
use Rattle.std.proofs.Common.{◌≡◌, ◌⊎◌, inl, inr, ℕ, suc, ◌+◌, ◌^◌, ◌<◌, ◌≤◌, ℤ, pos, ◌+ℤ◌, ◌≤ℤ◌, ◌<ℤ◌, refl, sym, ap, ◌∙◌, subst, arith}
use Rattle.std.proofs.lemmas.Int.{ints, clamps}
use Rattle.std.proofs.Math.Nat.{two-pow-succ}
use Rattle.std.proofs.lemmas.Nat.{pow_below}
use Rattle.sp_octagon.specs.Entries.{Entries, unbounded, IsBound}
use Rattle.sp_octagon.specs.Facts.{IsMatrix}
use Rattle.sp_octagon.specs.Walks.{Walk, entry, onward, IsLeastWalk, HasNegativeWalk}
use Rattle.sp_octagon.specs.inner.Rounds.{reach, IsWithin, AfterRounds}
use Rattle.sp_octagon.specs.Functions.{round}
use Rattle.sp_octagon.proofs.Numbers.{below_or_not, sum_of-is, sum_of-none_left, sum_of-none_right}
use Rattle.sp_octagon.proofs.WalkLaws.{walk_joined, walk_same}

reach-next : (k : ℕ) → reach (k + 1) ≡ reach k + reach k
reach-next k = let e : 100 + (k + 1) ≡ suc (100 + k) = omega arith in ap (λ x. 2 ^ x) e ∙ two-pow-succ (100 + k)

reach-le : (k : ℕ) → k ≤ 16 → reach k ≤ reach 16
reach-le k h = by (order k)
  where
    order : (a : ℕ) → (a < 16) ⊎ (16 ≤ a)
    order a = grind arith

    by : (k < 16) ⊎ (16 ≤ k) → reach k ≤ reach 16
    by (inl less) = omega (arith, pow_below (100 + k) (100 + 16) (omega arith))
    by (inr more) = let e : k ≡ 16 = omega arith in rw e (omega arith)

pub rounds-first : (count : ℕ) (size : ℕ) (m : Entries) → count ≤ 16 → IsMatrix size m → AfterRounds count m 0 m
rounds-first count size m few h = record {
  lesser = λ r c hr hc. omega (arith, ints);
  through = λ r j c hr hj hc. absurd (omega arith);
  reached = λ r c hr hc bound. entry hc bound refl;
  diagonal = λ r hr. h.diagonal r (omega arith);
  within = λ r c hr hc. let i = h.in_range r c (omega arith) (omega arith) in record { low = i.low; high = i.high; most = i.most };
}

module _ (count : ℕ) (m : Entries) (k : ℕ) (d : Entries) (few : k < 16) (here : k < count) (before : AfterRounds count m k d) where
  -- two bounds through k have a sum that is a bound
  sum_bound : (r c : ℕ) → r < count → c < count → IsBound (d r k) → IsBound (d k c) → (d r k +ℤ d k c) <ℤ unbounded
  sum_bound r c hr hc b b' =
      let w = before.within r k hr here in
      let w' = before.within k c here hc in
      omega (arith, ints, w.high b, w'.high b', reach-le k (omega arith))

  round-within : (r c : ℕ) → r < count → c < count → IsWithin (reach (k + 1)) (round k d r c)
  round-within r c hr hc = by (below_or_not (d r k) unbounded) (below_or_not (d k c) unbounded)
    where
      by : (d r k <ℤ unbounded) ⊎ (unbounded ≤ℤ d r k) → (d k c <ℤ unbounded) ⊎ (unbounded ≤ℤ d k c) → IsWithin (reach (k + 1)) (round k d r c)
      by (inl b) (inl b') =
          let w = before.within r k hr here in
          let w' = before.within k c here hc in
          let o = before.within r c hr hc in
          let s = sum_of-is (d r k) (d k c) b b' in
          record {
            low = omega (arith, ints, clamps, s, w.low, w'.low, o.low, reach-next k);
            high = λ bound. omega (arith, ints, clamps, s, w.high b, w'.high b', reach-next k);
            most = omega (arith, ints, clamps, o.most);
          }
      by (inr n) o' =
          let o = before.within r c hr hc in
          let s = sum_of-none_left (d r k) (d k c) n in
          record {
            low = omega (arith, ints, clamps, s, o.low, reach-next k, reach-le k (omega arith));
            high = λ bound. let old : IsBound (d r c) = omega (arith, ints, clamps, s, bound) in omega (arith, ints, clamps, s, o.high old, reach-next k);
            most = omega (arith, ints, clamps, o.most);
          }
      by o' (inr n) =
          let o = before.within r c hr hc in
          let s = sum_of-none_right (d r k) (d k c) n in
          record {
            low = omega (arith, ints, clamps, s, o.low, reach-next k, reach-le k (omega arith));
            high = λ bound. let old : IsBound (d r c) = omega (arith, ints, clamps, s, bound) in omega (arith, ints, clamps, s, o.high old, reach-next k);
            most = omega (arith, ints, clamps, o.most);
          }

  -- an entry after the round is the old one, or the sum of two bounds through k
  data Cases (r c : ℕ) : Type 0 where
    kept : round k d r c ≡ d r c → Cases r c
    passed : IsBound (d r k) → IsBound (d k c) → round k d r c ≡ (d r k +ℤ d k c) → Cases r c

  cases : (r c : ℕ) → r < count → c < count → Cases r c
  cases r c hr hc = by (below_or_not (d r k) unbounded) (below_or_not (d k c) unbounded)
    where
      by : (d r k <ℤ unbounded) ⊎ (unbounded ≤ℤ d r k) → (d k c <ℤ unbounded) ⊎ (unbounded ≤ℤ d k c) → Cases r c
      by (inl b) (inl b') = least (below_or_not (d r k +ℤ d k c) (d r c))
        where
          least : ((d r k +ℤ d k c) <ℤ d r c) ⊎ (d r c ≤ℤ (d r k +ℤ d k c)) → Cases r c
          least (inl less) = passed b b' (omega (arith, ints, clamps, less, sum_of-is (d r k) (d k c) b b'))
          least (inr more) = kept (omega (arith, ints, clamps, more, sum_of-is (d r k) (d k c) b b'))
      by (inr n) o = kept (omega (arith, ints, clamps, sum_of-none_left (d r k) (d k c) n, (before.within r c hr hc).most))
      by o (inr n) = kept (omega (arith, ints, clamps, sum_of-none_right (d r k) (d k c) n, (before.within r c hr hc).most))

  -- it is no greater than either
  le_old : (r c : ℕ) → round k d r c ≤ℤ d r c
  le_old r c = omega (arith, ints, clamps)

  le_sum : (r c : ℕ) → IsBound (d r k) → IsBound (d k c) → round k d r c ≤ℤ (d r k +ℤ d k c)
  le_sum r c b b' = omega (arith, ints, clamps, sum_of-is (d r k) (d k c) b b')

  -- row k and column k stay
  row_stays : (c : ℕ) → c < count → round k d k c ≡ d k c
  row_stays c hc = by (cases k c here hc)
    where
      by : Cases k c → round k d k c ≡ d k c
      by (kept e) = e
      by (passed b b' e) = omega (arith, ints, e, before.diagonal k here)

  column_stays : (r : ℕ) → r < count → round k d r k ≡ d r k
  column_stays r hr = by (cases r k hr here)
    where
      by : Cases r k → round k d r k ≡ d r k
      by (kept e) = e
      by (passed b b' e) = omega (arith, ints, e, before.diagonal k here)

  -- the weight of each bound is that of a walk
  round-reached : (r c : ℕ) → r < count → c < count → IsBound (round k d r c) → Walk count m r c (round k d r c)
  round-reached r c hr hc bound = by (cases r c hr hc)
    where
      by : Cases r c → Walk count m r c (round k d r c)
      by (kept e) = walk_same count m r c (d r c) (round k d r c) (sym e) (before.reached r c hr hc (subst IsBound e bound))
      by (passed b b' e) =
          walk_same count m r c (d r k +ℤ d k c) (round k d r c) (sym e)
          (walk_joined count m r k c (d r k) (d k c) (before.reached r k hr here b) (before.reached k c here hc b'))

  -- two bounds through an earlier row bound their sum's entry
  bound_of : (a i b : ℕ) → a < count → i < k → b < count → IsBound (d a i) → IsBound (d i b) → IsBound (d a b)
  bound_of a i b ha hi hb x y =
      let t = before.through a i b ha hi hb x y in
      let w = before.within a i ha (omega arith) in
      let w' = before.within i b (omega arith) hb in
      omega (arith, ints, t, w.high x, w'.high y, reach-le k (omega arith))

  -- through an earlier row
  through_earlier : (r j c : ℕ) → r < count → j < k → c < count → IsBound (round k d r j) → IsBound (round k d j c) → round k d r c ≤ℤ (round k d r j +ℤ round k d j c)
  through_earlier r j c hr hj hc bound bound' = by (cases r j hr (omega arith)) (cases j c (omega arith) hc)
    where
      by : Cases r j → Cases j c → round k d r c ≤ℤ (round k d r j +ℤ round k d j c)
      by (kept e) (kept f) =
          let t = before.through r j c hr hj hc (subst IsBound e bound) (subst IsBound f bound') in
          omega (arith, ints, e, f, t, le_old r c)
      by (passed b b' e) (kept f) =
          let g = subst IsBound f bound' in
          let t = before.through k j c here hj hc b' g in
          let s : IsBound (d k c) = omega (arith, ints, t, before.within k c here hc, bound_of k j c here hj hc b' g) in
          omega (arith, ints, e, f, t, le_sum r c b s)
      by (kept e) (passed b b' f) =
          let g = subst IsBound e bound in
          let t = before.through r j k hr hj here g b in
          let s : IsBound (d r k) = bound_of r j k hr hj here g b in
          omega (arith, ints, e, f, t, le_sum r c s b')
      by (passed b b' e) (passed g g' f) =
          let t = before.through k j k here hj here b' g in
          omega (arith, ints, e, f, t, before.diagonal k here, le_sum r c b g')

  -- so the next round's entries are those after the rounds to k, unless one on the diagonal is negative
  pub rounds-next : ((r : ℕ) → r < count → pos 0 ≤ℤ round k d r r) → AfterRounds count m (k + 1) (round k d)
  rounds-next proper = record {
    lesser = λ r c hr hc. omega (arith, ints, le_old r c, before.lesser r c hr hc);
    through = λ r j c hr hj hc b b'. by r j c hr hj hc b b' (order j k);
    reached = round-reached;
    diagonal = λ r hr. omega (arith, ints, proper r hr, le_old r r, before.diagonal r hr);
    within = round-within;
  }
    where
      order : (a b : ℕ) → (a < b) ⊎ (b ≤ a)
      order a b = grind arith

      by : (r j c : ℕ) → r < count → j < k + 1 → c < count → IsBound (round k d r j) → IsBound (round k d j c) → (j < k) ⊎ (k ≤ j) → round k d r c ≤ℤ (round k d r j +ℤ round k d j c)
      by r j c hr hj hc b b' (inl low) = through_earlier r j c hr low hc b b'
      by r j c hr hj hc b b' (inr high) = at_k j (omega arith) b b'
        where
          at_k : (i : ℕ) → i ≡ k → IsBound (round k d r i) → IsBound (round k d i c) → round k d r c ≤ℤ (round k d r i +ℤ round k d i c)
          at_k i same x y =
              let left : round k d r i ≡ d r k = ap (round k d r) same ∙ column_stays r hr in
              let right : round k d i c ≡ d k c = ap (λ a. round k d a c) same ∙ row_stays c hc in
              omega (arith, ints, left, right, le_sum r c (subst IsBound left x) (subst IsBound right y))

  -- a negative entry on the diagonal is a closed walk
  pub round_negative : (r : ℕ) → r < count → round k d r r <ℤ pos 0 → HasNegativeWalk count m
  round_negative r hr less = record {
    at = r;
    weight = round k d r r;
    below = hr;
    walk = round-reached r r hr hr (omega (arith, ints, less));
    is_negative = less;
  }

-- after all rounds the entries are the least walks
module _ (count : ℕ) (m d : Entries) (few : count ≤ 16) (all : AfterRounds count m count d) where
  no_greater : (from to : ℕ) (w : ℤ) → from < count → Walk count m from to w → IsBound (d from to) × (d from to ≤ℤ w)
  no_greater from to w here (entry low bound is) =
      let le = all.lesser from to here low in
      (omega (arith, ints, le, bound), omega (arith, ints, le, is))
  no_greater from to w here (onward {mid = j} {before = u} p low bound is) =
      let first = no_greater from j u here p in
      let last = all.lesser j to (walk_end from j u p) low in
      let last_bound : IsBound (d j to) = omega (arith, ints, last, bound) in
      let t = all.through from j to here (walk_end from j u p) low first.0 last_bound in
      let a = all.within from j here (walk_end from j u p) in
      let b = all.within j to (walk_end from j u p) low in
      (omega (arith, ints, t, a.high first.0, b.high last_bound, reach-le count few), omega (arith, ints, t, first.1, last, is))
    where
      walk_end : (f t : ℕ) (v : ℤ) → Walk count m f t v → t < count
      walk_end f t v (entry low' e g) = low'
      walk_end f t v (onward q low' e g) = low'

  pub rounds-least : (r c : ℕ) → r < count → c < count → IsLeastWalk count m r c (d r c)
  rounds-least r c hr hc = record {
    most = (all.within r c hr hc).most;
    reached = all.reached r c hr hc;
    least = λ w walk. no_greater r c w hr walk;
  }

  -- no closed walk is negative
  pub rounds_proper : HasNegativeWalk count m → ⊥
  rounds_proper n =
      let g = no_greater n.at n.at n.weight n.below n.walk in
      absurd (omega (arith, ints, g.1, all.diagonal n.at n.below, n.is_negative))

-- ---- as the code goes, whose entries are those of the round

module _ (count : ℕ) (m : Entries) (k : ℕ) (d e : Entries) (few : count ≤ 16) (here : k < count) (before : AfterRounds count m k d) (is : (r c : ℕ) → r < count → c < count → e r c ≡ round k d r c) where
  pub rounds-step : ((r : ℕ) → r < count → pos 0 ≤ℤ e r r) → AfterRounds count m (k + 1) e
  rounds-step proper =
      let next = rounds-next count m k d (omega arith) here before (λ r hr. omega (arith, ints, is r r hr hr, proper r hr)) in
      record {
        lesser = λ r c hr hc. omega (arith, ints, is r c hr hc, next.lesser r c hr hc);
        through = λ r j c hr hj hc b b'.
            let first = is r j hr (omega arith) in
            let last = is j c (omega arith) hc in
            omega (arith, ints, is r c hr hc, first, last, next.through r j c hr hj hc (subst IsBound first b) (subst IsBound last b'));
        reached = λ r c hr hc b. walk_same count m r c (round k d r c) (e r c) (sym (is r c hr hc)) (next.reached r c hr hc (subst IsBound (is r c hr hc) b));
        diagonal = λ r hr. is r r hr hr ∙ next.diagonal r hr;
        within = λ r c hr hc. subst (IsWithin (reach (k + 1))) (sym (is r c hr hc)) (next.within r c hr hc);
      }

  pub step_negative : (r : ℕ) → r < count → e r r <ℤ pos 0 → HasNegativeWalk count m
  step_negative r hr less = round_negative count m k d (omega arith) here before r hr (omega (arith, ints, is r r hr hr, less))

-- what is within an early reach is within the last
pub within_all : (count : ℕ) (m : Entries) (k : ℕ) (d : Entries) → k ≤ 16 → AfterRounds count m k d → (r c : ℕ) → r < count → c < count → IsWithin (reach 16) (d r c)
within_all count m k d few all r c hr hc =
    let w = all.within r c hr hc in
    record {
      low = omega (arith, ints, w.low, reach-le k few);
      high = λ b. omega (arith, ints, w.high b, reach-le k few);
      most = w.most;
    }
