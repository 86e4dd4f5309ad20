-- The closure is a matrix again, no greater, monotone, and holds every point of whole numbers that was held.
use Rattle.std.proofs.Common.{◌≡◌, ◌⊎◌, inl, inr, ℕ, ◌*◌, ◌/◌, ◌%◌, ◌<◌, ◌≤◌, ℤ, pos, neg_ℤ, ◌+ℤ◌, ◌-ℤ◌, ◌≤ℤ◌, ◌<ℤ◌, refl, ap, ◌∙◌, subst, arith}
use Rattle.std.specs.Int.{int_min}
use Rattle.std.proofs.lemmas.Int.{ints, clamps}
use Rattle.sp_octagon.specs.Entries.{Entries, unbounded, IsBound, cut, half, half_sum, negative}
use Rattle.sp_octagon.specs.Facts.{IsInRange, IsMatrix}
use Rattle.sp_octagon.specs.Points.{value_at, Holds, whole_point}
use Rattle.sp_octagon.specs.Walks.{Walk, entry, IsLeastWalk, HasNegativeWalk, closed_entry, IsClosure}
use Rattle.sp_octagon.specs.Order.{Below}
use Rattle.sp_octagon.proofs.Numbers.{below_or_not, half-is, negative_twice, negative-lt, half_sum-comm, half_sum-le, HalfCases, both, none, half_cases, cut-in_range, cut-le, cut-same, CutCases, raised, stays, taken, cut_cases}
use Rattle.sp_octagon.proofs.WalkLaws.{walk_reversed, walk_below, least_walk-le, least_walk_unique}
use Rattle.sp_octagon.specs.inner.Rounds.{AfterRounds}
use Rattle.sp_octagon.proofs.Rounds.{rounds-least}
use Rattle.sp_octagon.proofs.PointLaws.{walk_holds, negative-value, parity, value_even, value_odd}

-- what is asked of the entries of an octagon's own rows and columns
pub record IsProper (count : ℕ) (f : Entries) : Type 0 where
  pub diagonal : (r : ℕ) → r < count → f r r ≡ pos 0
  pub coherent : (r c : ℕ) → r < count → c < count → f (negative c) (negative r) ≡ f r c
  pub in_range : (r c : ℕ) → r < count → c < count → IsInRange (f r c)

module _ (size : ℕ) (m d : Entries) (few : size ≤ 8) (matrix : IsMatrix size m) (all : AfterRounds (2 * size) m (2 * size) d) where
  inner : (r c : ℕ) → r < 2 * size → c < 2 * size → m (negative c) (negative r) ≡ m r c
  inner r c hr hc = matrix.coherent r c (omega arith) (omega arith)

  least : (r c : ℕ) → r < 2 * size → c < 2 * size → IsLeastWalk (2 * size) m r c (d r c)
  least = rounds-least (2 * size) m d (omega arith) all

  -- the least walk, turned round
  least-reversed : (r c : ℕ) → r < 2 * size → c < 2 * size → IsLeastWalk (2 * size) m r c (d (negative c) (negative r))
  least-reversed r c hr hc =
      let hr' = negative-lt r size hr in
      let hc' = negative-lt c size hc in
      let there = least (negative c) (negative r) hc' hr' in
      record {
        most = there.most;
        reached = λ bound. back (d (negative c) (negative r)) (turned (negative c) (negative r) (d (negative c) (negative r)) hc' (there.reached bound));
        least = λ w walk. there.least w (turned r c w hr walk);
      }
    where
      turned : (a b : ℕ) (w : ℤ) → a < 2 * size → Walk (2 * size) m a b w → Walk (2 * size) m (negative b) (negative a) w
      turned a b w ha walk = walk_reversed (2 * size) m (λ x h. negative-lt x size h) inner a b w ha walk

      back : (w : ℤ) → Walk (2 * size) m (negative (negative r)) (negative (negative c)) w → Walk (2 * size) m r c w
      back w walk =
          subst (λ (x : ℕ). Walk (2 * size) m r x w) (negative_twice c)
          (subst (λ (x : ℕ). Walk (2 * size) m x (negative (negative c)) w) (negative_twice r) walk)

  walks-coherent : (r c : ℕ) → r < 2 * size → c < 2 * size → d (negative c) (negative r) ≡ d r c
  walks-coherent r c hr hc = least_walk_unique (2 * size) m r c (d (negative c) (negative r)) (d r c) (least-reversed r c hr hc) (least r c hr hc)

  -- walks there and back aren't negative
  back_and_forth : (r : ℕ) → r < 2 * size → IsBound (d r (negative r)) → IsBound (d (negative r) r) → pos 0 ≤ℤ (d r (negative r) +ℤ d (negative r) r)
  back_and_forth r hr b b' =
      omega (arith, ints, all.through r (negative r) r hr (negative-lt r size hr) hr b b', all.diagonal r hr)

  closed-diagonal : (r : ℕ) → r < 2 * size → closed_entry d r r ≡ pos 0
  closed-diagonal r hr = by (half_cases (d r (negative r)) (d (negative r) r))
    where
      zero_stays : (z : ℤ) → z ≡ pos 0 → cut z ≡ pos 0
      zero_stays z e = rw e refl

      by : HalfCases (d r (negative r)) (d (negative r) r) → closed_entry d r r ≡ pos 0
      by (both b b' e) =
          zero_stays (int_min (d r r) (half_sum (d r (negative r)) (d (negative r) r)))
          (omega (arith, ints, clamps, all.diagonal r hr, e, half-is (d r (negative r) +ℤ d (negative r) r), back_and_forth r hr b b'))
      by (none e f) =
          zero_stays (int_min (d r r) (half_sum (d r (negative r)) (d (negative r) r)))
          (omega (arith, ints, clamps, all.diagonal r hr, e))

  closed-coherent : (r c : ℕ) → r < 2 * size → c < 2 * size → closed_entry d (negative c) (negative r) ≡ closed_entry d r c
  closed-coherent r c hr hc =
      ap cut (ap (λ x. int_min x (half_sum (d (negative c) (negative (negative c))) (d (negative (negative r)) (negative r)))) (walks-coherent r c hr hc)
      ∙ ap (λ x. int_min (d r c) (half_sum (d (negative c) x) (d (negative (negative r)) (negative r)))) (negative_twice c)
      ∙ ap (λ x. int_min (d r c) (half_sum (d (negative c) c) (d x (negative r)))) (negative_twice r)
      ∙ ap (λ x. int_min (d r c) x) (half_sum-comm (d (negative c) c) (d r (negative r))))

  pub closure-from : (closed : Entries) → ((r c : ℕ) → r < 2 * size → c < 2 * size → closed r c ≡ closed_entry d r c) → IsClosure (2 * size) m closed
  closure-from closed is = record { walks = d; are_least = least; entries = is }

  pub closed-proper : IsProper (2 * size) (closed_entry d)
  closed-proper = record {
    diagonal = closed-diagonal;
    coherent = closed-coherent;
    in_range = λ r c hr hc. cut-in_range (int_min (d r c) (half_sum (d r (negative r)) (d (negative c) c)));
  }

-- ---- the laws that speak of the closure alone

min_le : (a b c e : ℤ) → a ≤ℤ c → (b ≤ℤ e) ⊎ (e ≡ unbounded) → c ≤ℤ unbounded → int_min a b ≤ℤ int_min c e
min_le a b c e h (inl g) most = omega (arith, ints, clamps, h, g)
min_le a b c e h (inr g) most = omega (arith, ints, clamps, h, g, most)

-- of lesser entries the closure is no greater
pub closure-monotone : (size : ℕ) (a b a' b' : Entries) → Below (2 * size) a b → IsClosure (2 * size) a a' → IsClosure (2 * size) b b' → Below (2 * size) a' b'
closure-monotone size a b a' b' below x y r c hr hc =
    let here = le r c hr hc in
    let left = le r (negative r) hr (negative-lt r size hr) in
    let right = le (negative c) c (negative-lt c size hc) hc in
    let halves = half_sum-le (x.walks r (negative r)) (x.walks (negative c) c) (y.walks r (negative r)) (y.walks (negative c) c) left right in
    let lesser = min_le (x.walks r c) (half_sum (x.walks r (negative r)) (x.walks (negative c) c)) (y.walks r c) (half_sum (y.walks r (negative r)) (y.walks (negative c) c)) here halves (y.are_least r c hr hc).most in
    rw (x.entries r c hr hc, y.entries r c hr hc) (cut-le (int_min (x.walks r c) (half_sum (x.walks r (negative r)) (x.walks (negative c) c))) (int_min (y.walks r c) (half_sum (y.walks r (negative r)) (y.walks (negative c) c))) lesser)
  where
    le : (i j : ℕ) → i < 2 * size → j < 2 * size → x.walks i j ≤ℤ y.walks i j
    le i j hi hj = least_walk-le (2 * size) a b i j (x.walks i j) (y.walks i j) below hi (x.are_least i j hi hj) (y.are_least i j hi hj)

-- it is no greater than the entries that it closes
pub closure-below : (size : ℕ) (m closed : Entries) → size ≤ 8 → IsMatrix size m → IsClosure (2 * size) m closed → Below (2 * size) closed m
closure-below size m closed few matrix is r c hr hc =
    let low = int_min (is.walks r c) (half_sum (is.walks r (negative r)) (is.walks (negative c) c)) in
    let less : low ≤ℤ m r c = omega (arith, ints, clamps, least (below_or_not (m r c) unbounded)) in
    let cut_less = cut-le low (m r c) less in
    omega (arith, ints, is.entries r c hr hc, cut_less, cut-same (m r c) (matrix.in_range r c (omega arith) (omega arith)))
  where
    least : (m r c <ℤ unbounded) ⊎ (unbounded ≤ℤ m r c) → is.walks r c ≤ℤ m r c
    least (inl b) = ((is.are_least r c hr hc).least (m r c) (entry hc b refl)).1
    least (inr n) = omega (arith, ints, n, (is.are_least r c hr hc).most)

-- and where the greater have a negative closed walk, so have the lesser
pub negative_walk-monotone : (count : ℕ) (a b : Entries) → Below count a b → HasNegativeWalk count b → HasNegativeWalk count a
negative_walk-monotone count a b below n =
    let l = walk_below count a b below n.at n.at n.weight n.below n.walk in
    record { at = n.at; weight = l.weight; below = n.below; walk = l.walk; is_negative = omega (arith, ints, l.le, n.is_negative) }

-- entries have one closure
pub closure_unique : (size : ℕ) (m a b : Entries) → IsClosure (2 * size) m a → IsClosure (2 * size) m b → (r c : ℕ) → r < 2 * size → c < 2 * size → a r c ≡ b r c
closure_unique size m a b x y r c hr hc =
    let there = closure-monotone size m m a b (λ i j hi hj. omega (arith, ints)) x y r c hr hc in
    let back = closure-monotone size m m b a (λ i j hi hj. omega (arith, ints)) y x r c hr hc in
    omega (arith, ints, there, back)

-- a point of whole numbers that is held stays held
module _ (size : ℕ) (m closed : Entries) (is : IsClosure (2 * size) m closed) (v : ℕ → ℤ) (holds : Holds (2 * size) m (whole_point v)) where
  walks_hold : (r c : ℕ) → r < 2 * size → c < 2 * size → IsBound (is.walks r c) → (value_at (whole_point v) c -ℤ value_at (whole_point v) r) ≤ℤ (is.walks r c +ℤ is.walks r c)
  walks_hold r c hr hc bound = walk_holds (2 * size) m (whole_point v) holds r c (is.walks r c) hr ((is.are_least r c hr hc).reached bound)

  whole : (r : ℕ) → (t : ℤ) × (value_at (whole_point v) r ≡ (t +ℤ t))
  whole r = by (parity r)
    where
      by : (r % 2 ≡ 0) ⊎ (r % 2 ≡ 1) → (t : ℤ) × (value_at (whole_point v) r ≡ (t +ℤ t))
      by (inl even) = (v (r / 2), value_even (whole_point v) r even)
      by (inr odd) = let e = value_odd (whole_point v) r odd in (neg_ℤ (v (r / 2)), omega (arith, ints, e))

  halves : (r c : ℕ) → r < 2 * size → c < 2 * size → IsBound (is.walks r (negative r)) → IsBound (is.walks (negative c) c) → (value_at (whole_point v) c -ℤ value_at (whole_point v) r) ≤ℤ (half (is.walks r (negative r) +ℤ is.walks (negative c) c) +ℤ half (is.walks r (negative r) +ℤ is.walks (negative c) c))
  halves r c hr hc x y =
      let row = whole r in
      let column = whole c in
      let down = walks_hold r (negative r) hr (negative-lt r size hr) x in
      let up = walks_hold (negative c) c (negative-lt c size hc) hc y in
      omega (arith, ints, row.1, column.1, down, up, negative-value (whole_point v) r, negative-value (whole_point v) c, half-is (is.walks r (negative r) +ℤ is.walks (negative c) c))

  lesser : (r c : ℕ) → r < 2 * size → c < 2 * size → IsBound (int_min (is.walks r c) (half_sum (is.walks r (negative r)) (is.walks (negative c) c))) → (value_at (whole_point v) c -ℤ value_at (whole_point v) r) ≤ℤ (int_min (is.walks r c) (half_sum (is.walks r (negative r)) (is.walks (negative c) c)) +ℤ int_min (is.walks r c) (half_sum (is.walks r (negative r)) (is.walks (negative c) c)))
  lesser r c hr hc bound = by (half_cases (is.walks r (negative r)) (is.walks (negative c) c)) (below_or_not (is.walks r c) unbounded)
    where
      by : HalfCases (is.walks r (negative r)) (is.walks (negative c) c) → (is.walks r c <ℤ unbounded) ⊎ (unbounded ≤ℤ is.walks r c) → (value_at (whole_point v) c -ℤ value_at (whole_point v) r) ≤ℤ (int_min (is.walks r c) (half_sum (is.walks r (negative r)) (is.walks (negative c) c)) +ℤ int_min (is.walks r c) (half_sum (is.walks r (negative r)) (is.walks (negative c) c)))
      by (none e f) (inl b) = omega (arith, ints, clamps, e, walks_hold r c hr hc b)
      by (none e f) (inr n) = absurd (omega (arith, ints, clamps, e, n, bound))
      by (both x y e) (inl b) =
          omega (arith, ints, clamps, e, walks_hold r c hr hc b, halves r c hr hc x y)
      by (both x y e) (inr n) =
          omega (arith, ints, clamps, e, n, bound, halves r c hr hc x y)

  pub closure-holds : Holds (2 * size) closed (whole_point v)
  closure-holds = record { within = λ r c hr hc bound. at r c hr hc bound }
    where
      at : (r c : ℕ) → r < 2 * size → c < 2 * size → IsBound (closed r c) → (value_at (whole_point v) c -ℤ value_at (whole_point v) r) ≤ℤ (closed r c +ℤ closed r c)
      at r c hr hc bound =
          let low = int_min (is.walks r c) (half_sum (is.walks r (negative r)) (is.walks (negative c) c)) in
          by (cut_cases low)
        where
          by : CutCases (int_min (is.walks r c) (half_sum (is.walks r (negative r)) (is.walks (negative c) c))) → (value_at (whole_point v) c -ℤ value_at (whole_point v) r) ≤ℤ (closed r c +ℤ closed r c)
          by (raised less e) = omega (arith, ints, is.entries r c hr hc, e, less, lesser r c hr hc (omega (arith, ints, less)))
          by (stays low high e) = omega (arith, ints, is.entries r c hr hc, e, lesser r c hr hc (omega (arith, ints, high)))
          by (taken past e) = absurd (omega (arith, ints, is.entries r c hr hc, e, bound))
