-- Each change gives proper entries again, and is monotone.
use Rattle.std.proofs.Common.{◌≡◌, ◌≢◌, ◌⊎◌, inl, inr, ℕ, ◌+◌, ◌*◌, ◌/◌, ◌^◌, ◌<◌, ◌≤◌, ◌==◌, Bool, true, false, cond, ◌||◌, List, ℤ, pos, neg_ℤ, ◌+ℤ◌, ◌-ℤ◌, ◌≤ℤ◌, ◌<ℤ◌, refl, sym, ap, ◌∙◌, subst, arith}
use Rattle.std.specs.Prelude.{int_lt}
use Rattle.std.specs.Int.{int_min, int_max}
use Rattle.std.proofs.lemmas.Int.{ints, clamps}
use Rattle.std.proofs.lemmas.Bool.{false≢true}
use Rattle.std.proofs.lemmas.Bool.Decides.{nat_tests}
use Rattle.sp_lattice.specs.Ladder.{lowest, highest, snapped_up, IsLadder, InBounds}
use Rattle.sp_lattice.proofs.Snaps.{int_lt_true, lt_from_int_lt, int_lt_false, snapped_up-le, snapped_up_is, point_bounded}
use Rattle.sp_lattice.specs.declared.relations.Relation.{Relation}
use Rattle.sp_lattice.specs.declared.relations.Relation.TheVariants.{Less, LessEqual, Greater, GreaterEqual, Equal, Different}
use Rattle.sp_interval.specs.declared.interval.Interval.{Interval}
use Rattle.sp_interval.specs.declared.interval.Interval.TheVariants.{Empty, Of}
use Rattle.sp_interval.specs.Interval.{interval_le, Holds, IsFormed}
use Rattle.sp_interval.specs.Inclusion.{bounds_from_le}
use Rattle.sp_interval.proofs.Betweens.{between-monotone, between-within, between-ordered, Holds-from_between, Holds-to_between}
use Rattle.sp_interval.proofs.Hulls.{formed_below}
use Rattle.sp_octagon.specs.Entries.{Entries, unbounded, IsBound, cut, half, doubled, negative}
use Rattle.sp_octagon.specs.Facts.{IsInRange, IsMatrix}
use Rattle.sp_octagon.specs.Order.{Below, joined}
use Rattle.sp_octagon.specs.Changes.{is_pair, with_pair, lowered, stands_for, forgotten, growth, moved, tied, assigned, bounded_by, difference_at_most, constrained, snapped_bound, snapped_entries, projected, Allows}
use Rattle.sp_octagon.proofs.Numbers.{which, nat_same, nat_other, not_less, below_or_not, half-is, half-le, cut-in_range, cut-le, cut-same}
use Rattle.sp_octagon.proofs.Closures.{IsProper}
use Rattle.sp_octagon.proofs.Matrices.{PairCases, itself, its_equal, apart, pair_cases}

unbounded-in_range : IsInRange unbounded
unbounded-in_range = record { low = omega (arith, ints); high = λ b. absurd (omega (arith, ints, b)); most = omega (arith, ints) }

negative_equal : (i j : ℕ) → (negative j == negative i) ≡ (i == j)
negative_equal i j = by (i == j) refl (negative j == negative i) refl
  where
    by : (s : Bool) → (i == j) ≡ s → (t : Bool) → (negative j == negative i) ≡ t → t ≡ s
    by true e true f = refl
    by false e false f = refl
    by true e false f = let same : i ≡ j = grind (arith, nat_tests) in let other : negative j ≡ negative i → ⊥ = λ x. grind (arith, nat_tests) in absurd (other (omega arith))
    by false e true f = let same : negative j ≡ negative i = grind (arith, nat_tests) in let other : i ≡ j → ⊥ = λ x. grind (arith, nat_tests) in absurd (other (omega arith))

-- ---- the least entries above both

pub joined-proper : (size : ℕ) (a b : Entries) → size ≤ 8 → IsMatrix size a → IsMatrix size b → IsProper (2 * size) (joined a b)
joined-proper size a b few x y = record {
  diagonal = λ r hr. let e = x.diagonal r (omega arith) in let f = y.diagonal r (omega arith) in omega (arith, ints, clamps, e, f);
  coherent = λ r c hr hc.
      ap (λ z. int_max z (b (negative c) (negative r))) (x.coherent r c (omega arith) (omega arith))
      ∙ ap (int_max (a r c)) (y.coherent r c (omega arith) (omega arith));
  in_range = λ r c hr hc.
      let p = x.in_range r c (omega arith) (omega arith) in
      let q = y.in_range r c (omega arith) (omega arith) in
      record {
        low = omega (arith, ints, clamps, p.low);
        high = λ h. let hp : IsBound (a r c) = omega (arith, ints, clamps, h) in let hq : IsBound (b r c) = omega (arith, ints, clamps, h) in omega (arith, ints, clamps, p.high hp, q.high hq);
        most = omega (arith, ints, clamps, p.most, q.most);
      };
}

pub joined-monotone : (count : ℕ) (a b a' b' : Entries) → Below count a a' → Below count b b' → Below count (joined a b) (joined a' b')
joined-monotone count a b a' b' x y r c hr hc = omega (arith, ints, clamps, x r c hr hc, y r c hr hc)

-- ---- pairs

pub with_pair-monotone : (count r c : ℕ) (v : ℤ) (a b : Entries) → Below count a b → Below count (with_pair a r c v) (with_pair b r c v)
with_pair-monotone count r c v a b below i j hi hj = by (is_pair r c i j)
  where
    by : (t : Bool) → cond t v (a i j) ≤ℤ cond t v (b i j)
    by true = omega (arith, ints)
    by false = below i j hi hj

pub lowered-monotone : (count r c : ℕ) (v w : ℤ) (a b : Entries) → v ≤ℤ w → Below count a b → Below count (lowered a r c v) (lowered b r c w)
lowered-monotone count r c v w a b le below i j hi hj = by (is_pair r c i j)
  where
    by : (t : Bool) → cond t (int_min v (a i j)) (a i j) ≤ℤ cond t (int_min w (b i j)) (b i j)
    by true = omega (arith, ints, clamps, le, below i j hi hj)
    by false = below i j hi hj

-- ---- forget

stands_negative : (x r : ℕ) → stands_for x (negative r) ≡ stands_for x r
stands_negative x r = let e : negative r / 2 ≡ r / 2 = omega arith in ap (λ q. q == x) e

or_comm : (s t : Bool) → (s || t) ≡ (t || s)
or_comm true true = refl
or_comm true false = refl
or_comm false true = refl
or_comm false false = refl

pub forgotten-proper : (size x : ℕ) (m : Entries) → size ≤ 8 → IsMatrix size m → IsProper (2 * size) (forgotten m x)
forgotten-proper size x m few h = record {
  diagonal = λ r hr. diagonal r (h.diagonal r (omega arith));
  coherent = λ r c hr hc.
      ap (λ t. cond t (m (negative c) (negative r)) (cond (stands_for x (negative c) || stands_for x (negative r)) unbounded (m (negative c) (negative r)))) (negative_equal r c)
      ∙ ap (λ t. cond (r == c) (m (negative c) (negative r)) (cond t unbounded (m (negative c) (negative r)))) (or_comm (stands_for x (negative c)) (stands_for x (negative r)))
      ∙ ap (λ t. cond (r == c) (m (negative c) (negative r)) (cond (t || stands_for x (negative c)) unbounded (m (negative c) (negative r)))) (stands_negative x r)
      ∙ ap (λ t. cond (r == c) (m (negative c) (negative r)) (cond (stands_for x r || t) unbounded (m (negative c) (negative r)))) (stands_negative x c)
      ∙ ap (λ z. cond (r == c) z (cond (stands_for x r || stands_for x c) unbounded z)) (h.coherent r c (omega arith) (omega arith));
  in_range = λ r c hr hc. in_range (m r c) (h.in_range r c (omega arith) (omega arith)) (r == c) (stands_for x r || stands_for x c);
}
  where
    diagonal : (r : ℕ) → m r r ≡ pos 0 → cond (r == r) (m r r) (cond (stands_for x r || stands_for x r) unbounded (m r r)) ≡ pos 0
    diagonal r e = let same : (r == r) ≡ true = grind (arith, nat_tests) in rw same e

    in_range : (z : ℤ) → IsInRange z → (s t : Bool) → IsInRange (cond s z (cond t unbounded z))
    in_range z i true t = i
    in_range z i false true = unbounded-in_range
    in_range z i false false = i

pub forgotten-monotone : (size x : ℕ) (a b : Entries) → Below (2 * size) a b → Below (2 * size) (forgotten a x) (forgotten b x)
forgotten-monotone size x a b below r c hr hc = by (r == c) (stands_for x r || stands_for x c)
  where
    by : (s t : Bool) → cond s (a r c) (cond t unbounded (a r c)) ≤ℤ cond s (b r c) (cond t unbounded (b r c))
    by true t = below r c hr hc
    by false true = omega (arith, ints)
    by false false = below r c hr hc

-- ---- x becomes x + k

growth-negative : (x : ℕ) (k : ℤ) (r : ℕ) → growth x k (negative r) ≡ neg_ℤ (growth x k r)
growth-negative x k r = by (r == 2 * x) refl (r == 2 * x + 1) refl (negative r == 2 * x) refl (negative r == 2 * x + 1) refl
  where
    same : (a b : ℕ) → (a == b) ≡ true → a ≡ b
    same a b h = grind (arith, nat_tests)

    other : (a b : ℕ) → (a == b) ≡ false → a ≡ b → ⊥
    other a b h e = grind (arith, nat_tests)

    by : (s : Bool) → (r == 2 * x) ≡ s → (t : Bool) → (r == 2 * x + 1) ≡ t → (v : Bool) → (negative r == 2 * x) ≡ v → (w : Bool) → (negative r == 2 * x + 1) ≡ w → growth x k (negative r) ≡ neg_ℤ (growth x k r)
    by true a t b v e true f = let ne : v ≡ false = off v e in rw (e, ne, f, a) refl
      where
        off : (u : Bool) → (negative r == 2 * x) ≡ u → u ≡ false
        off true g = let p = same r (2 * x) a in let q = same (negative r) (2 * x) g in absurd (omega arith)
        off false g = refl
    by true a t b v e false f = let p = same r (2 * x) a in absurd (other (negative r) (2 * x + 1) f (omega arith))
    by false a true b true e w f = rw (e, a, b) (omega (arith, ints))
    by false a true b false e w f = let p = same r (2 * x + 1) b in absurd (other (negative r) (2 * x) e (omega arith))
    by false a false b true e w f = let p = same (negative r) (2 * x) e in absurd (other r (2 * x + 1) b (omega arith))
    by false a false b false e true f = let p = same (negative r) (2 * x + 1) f in absurd (other r (2 * x) a (omega arith))
    by false a false b false e false f = rw (e, f, a, b) refl

pub moved-proper : (size x : ℕ) (k : ℤ) (m : Entries) → size ≤ 8 → IsMatrix size m → IsProper (2 * size) (moved m x k)
moved-proper size x k m few h = record {
  diagonal = λ r hr. diagonal r (h.diagonal r (omega arith));
  coherent = λ r c hr hc.
      let grown : (growth x k (negative r) -ℤ growth x k (negative c)) ≡ (growth x k c -ℤ growth x k r) = omega (arith, ints, growth-negative x k r, growth-negative x k c) in
      ap (λ z. cond (int_lt z unbounded) (cut (z +ℤ (growth x k (negative r) -ℤ growth x k (negative c)))) unbounded) (h.coherent r c (omega arith) (omega arith))
      ∙ ap (λ g. cond (int_lt (m r c) unbounded) (cut (m r c +ℤ g)) unbounded) grown;
  in_range = λ r c hr hc. in_range (int_lt (m r c) unbounded) (m r c +ℤ (growth x k c -ℤ growth x k r));
}
  where
    diagonal : (r : ℕ) → m r r ≡ pos 0 → moved m x k r r ≡ pos 0
    diagonal r e =
        let none : (m r r +ℤ (growth x k r -ℤ growth x k r)) ≡ pos 0 = omega (arith, ints, e) in
        let bound : int_lt (m r r) unbounded ≡ true = int_lt_true (m r r) unbounded (omega (arith, ints, e)) in
        rw (bound, none) refl

    in_range : (t : Bool) (z : ℤ) → IsInRange (cond t (cut z) unbounded)
    in_range true z = cut-in_range z
    in_range false z = unbounded-in_range

cut_most : (z : ℤ) → cut z ≤ℤ unbounded
cut_most z = (cut-in_range z).most

pub moved-monotone : (size x : ℕ) (k : ℤ) (a b : Entries) → Below (2 * size) a b → Below (2 * size) (moved a x k) (moved b x k)
moved-monotone size x k a b below r c hr hc = by (int_lt (a r c) unbounded) refl (int_lt (b r c) unbounded) refl
  where
    g : ℤ
    g = growth x k c -ℤ growth x k r

    by : (s : Bool) → int_lt (a r c) unbounded ≡ s → (t : Bool) → int_lt (b r c) unbounded ≡ t → cond s (cut (a r c +ℤ (growth x k c -ℤ growth x k r))) unbounded ≤ℤ cond t (cut (b r c +ℤ (growth x k c -ℤ growth x k r))) unbounded
    by true e true f = cut-le (a r c +ℤ (growth x k c -ℤ growth x k r)) (b r c +ℤ (growth x k c -ℤ growth x k r)) (omega (arith, ints, below r c hr hc))
    by true e false f = cut_most (a r c +ℤ (growth x k c -ℤ growth x k r))
    by false e true f = absurd (omega (arith, ints, below r c hr hc, not_less (a r c) unbounded e, lt_from_int_lt (b r c) unbounded f))
    by false e false f = omega (arith, ints)

pub tied-monotone : (size x y : ℕ) (k : ℤ) (a b : Entries) → Below (2 * size) a b → Below (2 * size) (tied a x y k) (tied b x y k)
tied-monotone size x y k a b below =
    with_pair-monotone (2 * size) (2 * x) (2 * y) (neg_ℤ k) (with_pair (forgotten a x) (2 * y) (2 * x) k) (with_pair (forgotten b x) (2 * y) (2 * x) k)
    (with_pair-monotone (2 * size) (2 * y) (2 * x) k (forgotten a x) (forgotten b x) (forgotten-monotone size x a b below))

pub assigned-monotone : (size x y : ℕ) (k : ℤ) (a b : Entries) → Below (2 * size) a b → Below (2 * size) (assigned a x y k) (assigned b x y k)
assigned-monotone size x y k a b below r c hr hc = by (x == y)
  where
    by : (t : Bool) → (cond t (moved a x k) (tied a x y k)) r c ≤ℤ (cond t (moved b x k) (tied b x y k)) r c
    by true = moved-monotone size x k a b below r c hr hc
    by false = tied-monotone size x y k a b below r c hr hc

-- ---- bounds and relations

pub bounded_by-monotone : (size x : ℕ) (i j : Interval) (a b : Entries) → i ≢ Empty → interval_le i j ≡ true → Below (2 * size) a b → Below (2 * size) (bounded_by a x i) (bounded_by b x j)
bounded_by-monotone size x Empty j a b some le below = absurd (some refl)
bounded_by-monotone size x (Of lo hi) Empty a b some le below = absurd (false≢true le)
bounded_by-monotone size x (Of lo hi) (Of lo' hi') a b some le below =
    let e = bounds_from_le lo hi lo' hi' le in
    lowered-monotone (2 * size) (2 * x) (2 * x + 1) (neg_ℤ (lo +ℤ lo)) (neg_ℤ (lo' +ℤ lo')) (lowered a (2 * x + 1) (2 * x) (hi +ℤ hi)) (lowered b (2 * x + 1) (2 * x) (hi' +ℤ hi')) (omega (arith, ints, e.0))
    (lowered-monotone (2 * size) (2 * x + 1) (2 * x) (hi +ℤ hi) (hi' +ℤ hi') a b (omega (arith, ints, e.1)) below)

at_most-monotone : (size x y : ℕ) (v : ℤ) (a b : Entries) → Below (2 * size) a b → Below (2 * size) (difference_at_most a x y v) (difference_at_most b x y v)
at_most-monotone size x y v a b below = lowered-monotone (2 * size) (2 * y) (2 * x) v v a b (omega (arith, ints)) below

pub constrained-monotone : (size x : ℕ) (op : Relation) (y : ℕ) (a b : Entries) → Below (2 * size) a b → Below (2 * size) (constrained a x op y) (constrained b x op y)
constrained-monotone size x Less y a b below = at_most-monotone size x y (neg_ℤ (pos 1)) a b below
constrained-monotone size x LessEqual y a b below = at_most-monotone size x y (pos 0) a b below
constrained-monotone size x Greater y a b below = at_most-monotone size y x (neg_ℤ (pos 1)) a b below
constrained-monotone size x GreaterEqual y a b below = at_most-monotone size y x (pos 0) a b below
constrained-monotone size x Equal y a b below =
    at_most-monotone size y x (pos 0) (difference_at_most a x y (pos 0)) (difference_at_most b x y (pos 0)) (at_most-monotone size x y (pos 0) a b below)
constrained-monotone size x Different y a b below = below

-- ---- snapping

snapped_bound-is : (points : List ℤ) (z : ℤ) → IsLadder points → z ≤ℤ highest → InBounds (snapped_up points (int_max lowest z))
snapped_bound-is points z ladder h =
    let s = snapped_up_is points (int_max lowest z) ladder (omega (arith, ints, clamps), omega (arith, ints, clamps, h)) in
    point_bounded points (snapped_up points (int_max lowest z)) ladder s.point

-- a snapped bound lies within the bounds of the ladder, or there is none
pub data SnapCases (points : List ℤ) (z : ℤ) : Type 0 where
  past : highest <ℤ z → snapped_bound points z ≡ unbounded → SnapCases points z
  onto : z ≤ℤ highest → snapped_bound points z ≡ snapped_up points (int_max lowest z) → InBounds (snapped_up points (int_max lowest z)) → SnapCases points z

pub snap_cases : (points : List ℤ) (z : ℤ) → IsLadder points → SnapCases points z
snap_cases points z ladder = by (int_lt highest z) refl
  where
    by : (t : Bool) → int_lt highest z ≡ t → SnapCases points z
    by true e = past (lt_from_int_lt highest z e) (rw e refl)
    by false e = let h = not_less highest z e in onto h (rw e refl) (snapped_bound-is points z ladder h)

pub snapped_bound-le : (points : List ℤ) (y z : ℤ) → IsLadder points → y ≤ℤ z → snapped_bound points y ≤ℤ snapped_bound points z
snapped_bound-le points y z ladder le = by (snap_cases points y ladder) (snap_cases points z ladder)
  where
    by : SnapCases points y → SnapCases points z → snapped_bound points y ≤ℤ snapped_bound points z
    by (past h e) (past h' e') = omega (arith, ints, e, e')
    by (past h e) (onto h' e' b') = absurd (omega (arith, ints, h, h', le))
    by (onto h e b) (past h' e') = omega (arith, ints, e, e', b.1)
    by (onto h e b) (onto h' e' b') =
        let s = snapped_up-le points (int_max lowest y) (int_max lowest z) ladder (omega (arith, ints, clamps), omega (arith, ints, clamps, h)) (omega (arith, ints, clamps), omega (arith, ints, clamps, h')) (omega (arith, ints, clamps, le)) in
        omega (arith, ints, e, e', s)

snapped_bound-in_range : (points : List ℤ) (z : ℤ) → IsLadder points → IsInRange (snapped_bound points z)
snapped_bound-in_range points z ladder = by (snap_cases points z ladder)
  where
    by : SnapCases points z → IsInRange (snapped_bound points z)
    by (past h e) = rw e unbounded-in_range
    by (onto h e b) = rw e (record { low = omega (arith, ints, b.0); high = λ x. omega (arith, ints, b.1); most = omega (arith, ints, b.1) })

-- twice a snapped bound
pub data DoubleCases (points : List ℤ) (z : ℤ) : Type 0 where
  none : snapped_bound points z ≡ unbounded → doubled (snapped_bound points z) ≡ unbounded → DoubleCases points z
  twice : IsBound (snapped_bound points z) → doubled (snapped_bound points z) ≡ (snapped_bound points z +ℤ snapped_bound points z) → InBounds (snapped_bound points z) → DoubleCases points z

pub double_cases : (points : List ℤ) (z : ℤ) → IsLadder points → DoubleCases points z
double_cases points z ladder = by (snap_cases points z ladder)
  where
    by : SnapCases points z → DoubleCases points z
    by (past h e) = none e (rw e refl)
    by (onto h e b) =
        let bound : IsBound (snapped_bound points z) = omega (arith, ints, e, b.1) in
        let in_bounds = subst InBounds (sym e) b in
        twice bound (ap (λ t. cond t (snapped_bound points z +ℤ snapped_bound points z) unbounded) (int_lt_true (snapped_bound points z) unbounded bound)) in_bounds

doubled-in_range : (points : List ℤ) (z : ℤ) → IsLadder points → IsInRange (doubled (snapped_bound points z))
doubled-in_range points z ladder = by (double_cases points z ladder)
  where
    by : DoubleCases points z → IsInRange (doubled (snapped_bound points z))
    by (none s e) = rw e unbounded-in_range
    by (twice h e b) = record { low = omega (arith, ints, e, b.0); high = λ x. omega (arith, ints, e, b.1); most = omega (arith, ints, e, b.1) }

doubled-le : (points : List ℤ) (y z : ℤ) → IsLadder points → y ≤ℤ z → doubled (snapped_bound points y) ≤ℤ doubled (snapped_bound points z)
doubled-le points y z ladder le = by (double_cases points y ladder) (double_cases points z ladder)
  where
    by : DoubleCases points y → DoubleCases points z → doubled (snapped_bound points y) ≤ℤ doubled (snapped_bound points z)
    by (none s e) (none s' e') = omega (arith, ints, e, e')
    by (none s e) (twice h' e' b') = absurd (omega (arith, ints, s, h', snapped_bound-le points y z ladder le))
    by (twice h e b) (none s' e') = omega (arith, ints, e, e', b.1)
    by (twice h e b) (twice h' e' b') = omega (arith, ints, e, e', snapped_bound-le points y z ladder le)

unary_turned : (r c : ℕ) → (negative r == negative (negative c)) ≡ (c == negative r)
unary_turned r c = by (c == negative r) refl (negative r == negative (negative c)) refl
  where
    by : (s : Bool) → (c == negative r) ≡ s → (t : Bool) → (negative r == negative (negative c)) ≡ t → t ≡ s
    by true e true f = refl
    by false e false f = refl
    by true e false f = let same : c ≡ negative r = grind (arith, nat_tests) in let other : negative r ≡ negative (negative c) → ⊥ = λ x. grind (arith, nat_tests) in absurd (other (omega arith))
    by false e true f = let same : negative r ≡ negative (negative c) = grind (arith, nat_tests) in let other : c ≡ negative r → ⊥ = λ x. grind (arith, nat_tests) in absurd (other (omega arith))

pub snapped-proper : (size : ℕ) (points : List ℤ) (m : Entries) → size ≤ 8 → IsLadder points → IsMatrix size m → IsProper (2 * size) (snapped_entries points m)
snapped-proper size points m few ladder h = record {
  diagonal = λ r hr. diagonal r (h.diagonal r (omega arith));
  coherent = λ r c hr hc.
      ap (λ t. cond t (m (negative c) (negative r)) (cond (negative r == negative (negative c)) (doubled (snapped_bound points (half (m (negative c) (negative r))))) (snapped_bound points (m (negative c) (negative r))))) (negative_equal r c)
      ∙ ap (λ t. cond (r == c) (m (negative c) (negative r)) (cond t (doubled (snapped_bound points (half (m (negative c) (negative r))))) (snapped_bound points (m (negative c) (negative r))))) (unary_turned r c)
      ∙ ap (λ z. cond (r == c) z (cond (c == negative r) (doubled (snapped_bound points (half z))) (snapped_bound points z))) (h.coherent r c (omega arith) (omega arith));
  in_range = λ r c hr hc. in_range (m r c) (h.in_range r c (omega arith) (omega arith)) (r == c) (c == negative r);
}
  where
    diagonal : (r : ℕ) → m r r ≡ pos 0 → snapped_entries points m r r ≡ pos 0
    diagonal r e = let same : (r == r) ≡ true = grind (arith, nat_tests) in rw same e

    in_range : (z : ℤ) → IsInRange z → (s t : Bool) → IsInRange (cond s z (cond t (doubled (snapped_bound points (half z))) (snapped_bound points z)))
    in_range z i true t = i
    in_range z i false true = doubled-in_range points (half z) ladder
    in_range z i false false = snapped_bound-in_range points z ladder

pub snapped-monotone : (size : ℕ) (points : List ℤ) (a b : Entries) → IsLadder points → Below (2 * size) a b → Below (2 * size) (snapped_entries points a) (snapped_entries points b)
snapped-monotone size points a b ladder below r c hr hc = by (r == c) (c == negative r)
  where
    by : (s t : Bool) → cond s (a r c) (cond t (doubled (snapped_bound points (half (a r c)))) (snapped_bound points (a r c))) ≤ℤ cond s (b r c) (cond t (doubled (snapped_bound points (half (b r c)))) (snapped_bound points (b r c)))
    by true t = below r c hr hc
    by false true = doubled-le points (half (a r c)) (half (b r c)) ladder (half-le (a r c) (b r c) (below r c hr hc))
    by false false = snapped_bound-le points (a r c) (b r c) ladder (below r c hr hc)

-- ---- projection

pub projected-monotone : (size x : ℕ) (a b : Entries) → x < size → Below (2 * size) a b → interval_le (projected a x) (projected b x) ≡ true
projected-monotone size x a b hx below =
    let low = half-le (a (2 * x) (2 * x + 1)) (b (2 * x) (2 * x + 1)) (below (2 * x) (2 * x + 1) (omega arith) (omega arith)) in
    let high = half-le (a (2 * x + 1) (2 * x)) (b (2 * x + 1) (2 * x)) (below (2 * x + 1) (2 * x) (omega arith) (omega arith)) in
    between-monotone (int_max lowest (neg_ℤ (half (a (2 * x) (2 * x + 1))))) (int_min highest (half (a (2 * x + 1) (2 * x)))) (int_max lowest (neg_ℤ (half (b (2 * x) (2 * x + 1))))) (int_min highest (half (b (2 * x + 1) (2 * x))))
    (omega (arith, ints, clamps, low)) (omega (arith, ints, clamps, high))

pub projected-formed : (m : Entries) (x : ℕ) → IsFormed (projected m x)
projected-formed m x =
    formed_below (projected m x) (Of lowest highest) (between-ordered (int_max lowest (neg_ℤ (half (m (2 * x) (2 * x + 1))))) (int_min highest (half (m (2 * x + 1) (2 * x)))))
    (omega (arith, ints), (omega (arith, ints), omega (arith, ints)), (omega (arith, ints), omega (arith, ints)))
    (between-within (int_max lowest (neg_ℤ (half (m (2 * x) (2 * x + 1))))) (int_min highest (half (m (2 * x + 1) (2 * x)))) lowest highest (omega (arith, ints, clamps)) (omega (arith, ints, clamps)))

-- the projection holds exactly what the unary entries allow
pub projected-exact : (m : Entries) (x : ℕ) (v : ℤ) → (Holds (projected m x) v → InBounds v × Allows m x v) × (InBounds v × Allows m x v → Holds (projected m x) v)
projected-exact m x v = (there, back)
  where
    there : Holds (projected m x) v → InBounds v × Allows m x v
    there h =
        let b = Holds-from_between (int_max lowest (neg_ℤ (half (m (2 * x) (2 * x + 1))))) (int_min highest (half (m (2 * x + 1) (2 * x)))) v h in
        let low = half-is (m (2 * x) (2 * x + 1)) in
        let high = half-is (m (2 * x + 1) (2 * x)) in (
          (omega (arith, ints, clamps, b.0), omega (arith, ints, clamps, b.1)),
          record {
            at_most = λ bound. omega (arith, ints, clamps, b.1, high.0);
            at_least = λ bound. omega (arith, ints, clamps, b.0, low.0);
          },
        )

    upper : InBounds v × Allows m x v → (m (2 * x + 1) (2 * x) <ℤ unbounded) ⊎ (unbounded ≤ℤ m (2 * x + 1) (2 * x)) → v ≤ℤ half (m (2 * x + 1) (2 * x))
    upper a (inl b) = omega (arith, ints, a.1.at_most b, half-is (m (2 * x + 1) (2 * x)))
    upper a (inr n) = omega (arith, ints, a.0.1, n, half-is (m (2 * x + 1) (2 * x)))

    lower : InBounds v × Allows m x v → (m (2 * x) (2 * x + 1) <ℤ unbounded) ⊎ (unbounded ≤ℤ m (2 * x) (2 * x + 1)) → neg_ℤ (half (m (2 * x) (2 * x + 1))) ≤ℤ v
    lower a (inl b) = omega (arith, ints, a.1.at_least b, half-is (m (2 * x) (2 * x + 1)))
    lower a (inr n) = omega (arith, ints, a.0.0, n, half-is (m (2 * x) (2 * x + 1)))

    back : InBounds v × Allows m x v → Holds (projected m x) v
    back a =
        let up = upper a (below_or_not (m (2 * x + 1) (2 * x)) unbounded) in
        let down = lower a (below_or_not (m (2 * x) (2 * x + 1)) unbounded) in
        Holds-to_between (int_max lowest (neg_ℤ (half (m (2 * x) (2 * x + 1))))) (int_min highest (half (m (2 * x + 1) (2 * x)))) v (omega (arith, ints, clamps, down, a.0.0)) (omega (arith, ints, clamps, up, a.0.1))

-- what a pass of snapping makes of a unary entry
pub snapped_unary : (points : List ℤ) (r c : ℕ) (z : ℤ) → r ≢ c → c ≡ negative r → doubled (snapped_bound points (half z)) ≡ cond (r == c) z (cond (c == negative r) (doubled (snapped_bound points (half z))) (snapped_bound points z))
snapped_unary points r c z other unary =
    let off : (r == c) ≡ false = grind (arith, nat_tests) in
    let on : (c == negative r) ≡ true = grind (arith, nat_tests) in
    rw (off, on) refl

-- with two different members
pub assigned_other : (m : Entries) (x y : ℕ) (k : ℤ) → (x ≡ y → ⊥) → assigned m x y k ≡ tied m x y k
assigned_other m x y k other = ap (λ t. cond t (moved m x k) (tied m x y k)) (nat_other x y other)

-- what x becomes leaves every bound that doesn't speak of x
pub assigned-below : (size x y : ℕ) (k : ℤ) (m : Entries) → size ≤ 8 → x < size → y < size → neg_ℤ (pos (2 ^ 64)) ≤ℤ k → k ≤ℤ pos (2 ^ 64) → IsMatrix size m → Below (2 * size) (assigned m x y k) (forgotten m x)
assigned-below size x y k m few hx hy low high h r c hr hc = by (which (x == y))
  where
    range : IsInRange (m r c)
    range = h.in_range r c (omega arith) (omega arith)

    same : (i j : ℕ) → (i == j) ≡ true → i ≡ j
    same i j e = grind (arith, nat_tests)

    other : (i j : ℕ) → (i == j) ≡ false → i ≡ j → ⊥
    other i j e f = grind (arith, nat_tests)

    still : (i : ℕ) → stands_for x i ≡ false → growth x k i ≡ pos 0
    still i e = rw (nat_other i (2 * x) (λ f. other (i / 2) x e (omega arith)), nat_other i (2 * x + 1) (λ f. other (i / 2) x e (omega arith))) refl

    moved_stays : (m r c <ℤ unbounded) ⊎ (unbounded ≤ℤ m r c) → growth x k r ≡ pos 0 → growth x k c ≡ pos 0 → moved m x k r c ≤ℤ m r c
    moved_stays (inl b) e f =
        let z : (m r c +ℤ (growth x k c -ℤ growth x k r)) ≡ m r c = omega (arith, ints, e, f) in
        let t = int_lt_true (m r c) unbounded b in
        let is : moved m x k r c ≡ m r c = ap (λ s. cond s (cut (m r c +ℤ (growth x k c -ℤ growth x k r))) unbounded) t ∙ ap cut z ∙ cut-same (m r c) range in
        omega (arith, ints, is)
    moved_stays (inr n) e f =
        let t = int_lt_false (m r c) unbounded n in
        let is : moved m x k r c ≡ unbounded = ap (λ s. cond s (cut (m r c +ℤ (growth x k c -ℤ growth x k r))) unbounded) t in
        omega (arith, ints, is, n)

    moved_most : moved m x k r c ≤ℤ unbounded
    moved_most = most (int_lt (m r c) unbounded)
      where
        most : (t : Bool) → cond t (cut (m r c +ℤ (growth x k c -ℤ growth x k r))) unbounded ≤ℤ unbounded
        most true = cut_most (m r c +ℤ (growth x k c -ℤ growth x k r))
        most false = omega (arith, ints)

    moved_diagonal : r ≡ c → moved m x k r c ≤ℤ m r c
    moved_diagonal e =
        let d : m r c ≡ pos 0 = ap (m r) (sym e) ∙ h.diagonal r (omega arith) in
        let g : growth x k c ≡ growth x k r = ap (growth x k) (sym e) in
        let z : (m r c +ℤ (growth x k c -ℤ growth x k r)) ≡ m r c = omega (arith, ints, g) in
        let b : m r c <ℤ unbounded = omega (arith, ints, d) in
        let t = int_lt_true (m r c) unbounded b in
        let is : moved m x k r c ≡ m r c = ap (λ s. cond s (cut (m r c +ℤ (growth x k c -ℤ growth x k r))) unbounded) t ∙ ap cut z ∙ cut-same (m r c) range in
        omega (arith, ints, is)

    from_moved : (s : Bool) → (r == c) ≡ s → (t : Bool) → stands_for x r ≡ t → (u : Bool) → stands_for x c ≡ u → moved m x k r c ≤ℤ forgotten m x r c
    from_moved true e t f u g = let is : forgotten m x r c ≡ m r c = rw e refl in omega (arith, ints, is, moved_diagonal (same r c e))
    from_moved false e true f u g = let is : forgotten m x r c ≡ unbounded = rw (e, f) refl in omega (arith, ints, is, moved_most)
    from_moved false e false f true g = let is : forgotten m x r c ≡ unbounded = rw (e, f, g) refl in omega (arith, ints, is, moved_most)
    from_moved false e false f false g =
        let is : forgotten m x r c ≡ m r c = rw (e, f, g) refl in
        omega (arith, ints, is, moved_stays (below_or_not (m r c) unbounded) (still r f) (still c g))

    gone : (r ≡ c → ⊥) → (stands_for x r ≡ true) ⊎ (stands_for x c ≡ true) → forgotten m x r c ≡ unbounded
    gone ne (inl t) = rw (nat_other r c ne, t) refl
    gone ne (inr t) = by_row (stands_for x r) refl
      where
        by_row : (u : Bool) → stands_for x r ≡ u → forgotten m x r c ≡ unbounded
        by_row true e = rw (nat_other r c ne, e) refl
        by_row false e = rw (nat_other r c ne, e, t) refl

    touched : (a b : ℕ) → (b ≡ a → ⊥) → (v : ℤ) → v ≤ℤ unbounded → PairCases (2 * a) (2 * b) r c → is_pair (2 * a) (2 * b) r c ≡ true → b ≡ x → v ≤ℤ forgotten m x r c
    touched a b ne v most (itself e f t) on same_x = let is = gone (λ q. ne (omega arith)) (inr (nat_same (c / 2) x (omega arith))) in omega (arith, ints, is, most)
    touched a b ne v most (its_equal e f t) on same_x = let is = gone (λ q. ne (omega arith)) (inl (nat_same (r / 2) x (omega arith))) in omega (arith, ints, is, most)
    touched a b ne v most (apart off off' t) on same_x = absurd (false≢true (sym t ∙ on))

    touched_too : (x ≡ y → ⊥) → (v : ℤ) → v ≤ℤ unbounded → PairCases (2 * x) (2 * y) r c → is_pair (2 * x) (2 * y) r c ≡ true → v ≤ℤ forgotten m x r c
    touched_too ne v most (itself e f t) on = let is = gone (λ q. ne (omega arith)) (inl (nat_same (r / 2) x (omega arith))) in omega (arith, ints, is, most)
    touched_too ne v most (its_equal e f t) on = let is = gone (λ q. ne (omega arith)) (inr (nat_same (c / 2) x (omega arith))) in omega (arith, ints, is, most)
    touched_too ne v most (apart off off' t) on = absurd (false≢true (sym t ∙ on))

    paired : (a b : ℕ) (v : ℤ) (o : Entries) → (is_pair a b r c ≡ true → v ≤ℤ forgotten m x r c) → o r c ≤ℤ forgotten m x r c → with_pair o a b v r c ≤ℤ forgotten m x r c
    paired a b v o here there = one (which (is_pair a b r c))
      where
        one : (is_pair a b r c ≡ true) ⊎ (is_pair a b r c ≡ false) → with_pair o a b v r c ≤ℤ forgotten m x r c
        one (inl t) = let is : with_pair o a b v r c ≡ v = rw t refl in omega (arith, ints, is, here t)
        one (inr t) = let is : with_pair o a b v r c ≡ o r c = rw t refl in omega (arith, ints, is, there)

    by : ((x == y) ≡ true) ⊎ ((x == y) ≡ false) → assigned m x y k r c ≤ℤ forgotten m x r c
    by (inl s) =
        let is : assigned m x y k r c ≡ moved m x k r c = rw s refl in
        omega (arith, ints, is, from_moved (r == c) refl (stands_for x r) refl (stands_for x c) refl)
    by (inr s) =
        let is : assigned m x y k r c ≡ tied m x y k r c = rw s refl in
        let base : forgotten m x r c ≤ℤ forgotten m x r c = omega (arith, ints) in
        let first = paired (2 * y) (2 * x) k (forgotten m x) (λ on. touched y x (other x y s) k (omega (arith, ints, high)) (pair_cases (2 * y) (2 * x) r c) on refl) base in
        let second = paired (2 * x) (2 * y) (neg_ℤ k) (with_pair (forgotten m x) (2 * y) (2 * x) k) (touched_too (other x y s) (neg_ℤ k) (omega (arith, ints, low)) (pair_cases (2 * x) (2 * y) r c)) first in
        omega (arith, ints, is, second)
