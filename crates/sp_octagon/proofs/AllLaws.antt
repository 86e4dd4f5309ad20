-- The laws of octagons, gathered.
use Rattle.std.proofs.Common.{◌≡◌, ◌≢◌, ◌⊎◌, inl, inr, ℕ, ◌*◌, ◌<◌, ◌==◌, true, false, List, ℤ, pos, ◌≤ℤ◌, refl, sym, ◌∙◌, subst, arith}
use Rattle.std.specs.Prelude.{Option, Some, None}
use Rattle.std.proofs.lemmas.Int.{ints}
use Rattle.std.proofs.lemmas.Bool.Decides.{nat_tests}
use Rattle.sp_lattice.specs.Ladder.{IsLadder}
use Rattle.sp_lattice.specs.declared.relations.Relation.{Relation}
use Rattle.sp_interval.specs.declared.interval.Interval.{Interval}
use Rattle.sp_interval.specs.declared.interval.Interval.TheVariants.{Empty, Of}
use Rattle.sp_interval.specs.Interval.{Holds as IntervalHolds, IsFormed}
use Rattle.sp_octagon.specs.declared.octagon.Octagon.{Octagon}
use Rattle.sp_octagon.specs.Entries.{Entries}
use Rattle.sp_octagon.specs.Facts.{IsMatrix}
use Rattle.sp_octagon.specs.Points.{Point, Holds, whole_point}
use Rattle.sp_octagon.specs.Walks.{HasNegativeWalk, IsClosure}
use Rattle.sp_octagon.specs.Held.{IsHeld, rank_of}
use Rattle.sp_octagon.specs.Order.{Below, is_below}
use Rattle.sp_octagon.specs.Order as order
use Rattle.sp_octagon.specs.Changes as changes
use Rattle.sp_octagon.specs.Changes.{no_bounds}
use Rattle.sp_octagon.specs.Octagons.{rows, entries, octagon_le, Becomes, OctagonHolds}
use Rattle.sp_octagon.specs.Functions.{joined, forgotten, shifted, bounded, constrained, snapped, closed}
use Rattle.sp_octagon.specs.Laws.{IsBelow, IsShift, outcome_le, OrderLaws, EntryLaws, MonotoneLaws, ShrinkingLaws, PointLaws, HeldLaws, OctagonLaws}
use Rattle.sp_octagon.proofs.Numbers.{which, negative-lt}
use Rattle.sp_octagon.proofs.Closures.{closure-monotone, closure-below, closure-holds, negative_walk-monotone}
use Rattle.sp_octagon.proofs.Rounds.{rounds_proper}
use Rattle.sp_octagon.proofs.PointLaws.{no_point, nearest-held}
use Rattle.sp_octagon.proofs.OrderLaws.{below_from_test, test_from_below, octagon_same, octagon_le-refl, octagon_le-trans, octagon_le-antisym, joined-left, joined-right, joined-least}
use Rattle.sp_octagon.proofs.ChangeLaws.{joined-proper, joined-monotone, forgotten-proper, forgotten-monotone, assigned-monotone, assigned-below, bounded_by-monotone, constrained-monotone, snapped-proper, snapped-monotone, projected-monotone}
use Rattle.sp_octagon.proofs.HeldLaws.{snapped-held, snapped-same, joined-held, held_equal, rank-rises, rank-most}
use Rattle.sp_octagon.proofs.Sound.{bounded_by-holds, bounded_by-met, bounded_by-below, constrained-holds, constrained-met, constrained-below, forgotten-holds, assigned-holds, assigned-met, snapped-holds, projected-holds}
use Rattle.sp_octagon.proofs.Composing.{becomes_holds, becomes_held, le_holds}
use Rattle.sp_octagon.proofs.Made.{with_entries-becomes}
use Rattle.sp_octagon.proofs.Proper.{assigned-proper, bounded_by-proper, constrained-proper}
use Rattle.sp_octagon.proofs.Closed.{Closing, closes, empty, closing}

-- ---- the order

below_of : (a b : Octagon) → IsBelow a b → Below (rows a) (entries a) (entries b)
below_of a b h = below_from_test (rows a) (entries a) (entries b) h.le

-- lesser entries make a lesser octagon
made-below : (a b x y : Octagon) (f g : Entries) → Becomes a x f → Becomes b y g → a.size ≡ b.size → Below (rows a) f g → IsBelow x y
made-below a b x y f g p q same le = record {
  same = p.size ∙ same ∙ sym q.size;
  le = test_from_below (rows x) (entries x) (entries y) (λ r k hr hk.
      let here = p.entries_are r k (omega (arith, p.size)) (omega (arith, p.size)) in
      let there = q.entries_are r k (omega (arith, p.size, same)) (omega (arith, p.size, same)) in
      omega (arith, ints, here, there, le r k (omega (arith, p.size)) (omega (arith, p.size))));
}

itself : (o : Octagon) → Becomes o o (entries o)
itself o = record { size = refl; entries_are = λ r c hr hc. refl }

-- ---- entries

joined_entries : (a b : Octagon) → a.size ≡ b.size → Becomes a (joined a b) (order.joined (entries a) (entries b))
joined_entries a b same =
    with_entries-becomes a (order.joined (entries a) (entries b))
    (joined-proper a.size (entries a) (entries b) a.facts.few a.facts.matrix (subst (λ (n : ℕ). IsMatrixOf n b) (sym same) b.facts.matrix))
  where
    IsMatrixOf : ℕ → Octagon → Type 0
    IsMatrixOf n o = IsMatrix n (entries o)

forgotten_entries : (o : Octagon) (x : ℕ) → x < o.size → Becomes o (forgotten o x) (changes.forgotten (entries o) x)
forgotten_entries o x hx = with_entries-becomes o (changes.forgotten (entries o) x) (forgotten-proper o.size x (entries o) o.facts.few o.facts.matrix)

shifted_entries : (o : Octagon) (x y : ℕ) (k : ℤ) → x < o.size → y < o.size → IsShift k → Becomes o (shifted o x y k) (changes.assigned (entries o) x y k)
shifted_entries o x y k hx hy h = with_entries-becomes o (changes.assigned (entries o) x y k) (assigned-proper o.size x y k (entries o) o.facts.few hx hy h.0 h.1 o.facts.matrix)

bounded_entries : (o : Octagon) (x : ℕ) (to : Interval) → x < o.size → IsFormed to → Becomes o (bounded o x to) (changes.bounded_by (entries o) x to)
bounded_entries o x to hx formed = with_entries-becomes o (changes.bounded_by (entries o) x to) (bounded_by-proper o.size x to (entries o) o.facts.few hx formed o.facts.matrix)

constrained_entries : (o : Octagon) (x : ℕ) (op : Relation) (y : ℕ) → x < o.size → y < o.size → x ≢ y → Becomes o (constrained o x op y) (changes.constrained (entries o) x op y)
constrained_entries o x op y hx hy other = with_entries-becomes o (changes.constrained (entries o) x op y) (constrained-proper o.size x op y (entries o) o.facts.few hx hy other o.facts.matrix)

snapped_entries : (points : List ℤ) (o : Octagon) → IsLadder points → Becomes o (snapped points o) (changes.snapped_entries points (entries o))
snapped_entries points o ladder = with_entries-becomes o (changes.snapped_entries points (entries o)) (snapped-proper o.size points (entries o) o.facts.few ladder o.facts.matrix)

some_only : (c d : Octagon) → Some c ≡ Some d → c ≡ d
some_only c d e = cc

not_some : (c : Octagon) → None ≡ Some c → ⊥
not_some c e = cc

closed_some : (o c : Octagon) → closed o ≡ Some c → (c.size ≡ o.size) × IsClosure (rows o) (entries o) (entries c)
closed_some o c e = by (closing o)
  where
    by : Closing o → (c.size ≡ o.size) × IsClosure (rows o) (entries o) (entries c)
    by (empty f n) = absurd (not_some c (sym f ∙ e))
    by (closes d all x f same closure) =
        subst (λ (y : Octagon). (y.size ≡ o.size) × IsClosure (rows o) (entries o) (entries y)) (some_only x c (sym f ∙ e)) (same, closure)

closed_none : (o : Octagon) → closed o ≡ None → HasNegativeWalk (rows o) (entries o)
closed_none o e = by (closing o)
  where
    by : Closing o → HasNegativeWalk (rows o) (entries o)
    by (empty f n) = n
    by (closes d all x f same closure) = absurd (not_some x (sym e ∙ f))

entry_laws : EntryLaws
entry_laws = record {
  joined_entries = joined_entries;
  forgotten_entries = forgotten_entries;
  shifted_entries = shifted_entries;
  bounded_entries = bounded_entries;
  constrained_entries = constrained_entries;
  snapped_entries = snapped_entries;
  closed_some = closed_some;
  closed_none = closed_none;
}

-- ---- the order's laws

top_greatest : (o other : Octagon) → other.size ≡ o.size → ((r c : ℕ) → r < rows o → c < rows o → entries o r c ≡ no_bounds r c) → octagon_le other o ≡ true
top_greatest o other same none = test_from_below (rows other) (entries other) (entries o) (λ i j hi hj.
    let e = none i j (omega (arith, same)) (omega (arith, same)) in
    rw e (below_none i j (omega (arith, other.facts.few)) (omega (arith, other.facts.few)) (which (i == j))))
  where
    same_row : (i j : ℕ) → (i == j) ≡ true → i ≡ j
    same_row i j h = grind (arith, nat_tests)

    below_none : (i j : ℕ) → i < 16 → j < 16 → ((i == j) ≡ true) ⊎ ((i == j) ≡ false) → entries other i j ≤ℤ no_bounds i j
    below_none i j hi hj (inl t) =
        let on : no_bounds i j ≡ no_bounds i i = subst (λ (k : ℕ). no_bounds i k ≡ no_bounds i i) (same_row i j t) refl in
        let here : entries other i j ≡ entries other i i = subst (λ (k : ℕ). entries other i k ≡ entries other i i) (same_row i j t) refl in
        let nought : no_bounds i j ≡ pos 0 = rw t refl in
        omega (arith, ints, nought, here, other.facts.matrix.diagonal i hi)
    below_none i j hi hj (inr t) =
        let off = (other.facts.matrix.in_range i j hi hj).most in
        rw t off

order_laws : OrderLaws
order_laws = record {
  reflexive = octagon_le-refl;
  transitive = λ a b c h g. record { same = h.same ∙ g.same; le = octagon_le-trans a b c h.same h.le g.le };
  antisymmetric = λ a b h g. octagon_le-antisym a b h.same h.le g.le;
  left = λ a b same. let j = joined_entries a b same in record { same = sym j.size; le = joined-left a b (joined a b) same j };
  right = λ a b same. let j = joined_entries a b same in record { same = sym same ∙ sym j.size; le = joined-right a b (joined a b) same j };
  least = λ a b c h g.
      let same : a.size ≡ b.size = h.same ∙ sym g.same in
      let j = joined_entries a b same in
      record { same = j.size ∙ h.same; le = joined-least a b (joined a b) same j c (sym h.same) h.le g.le };
  unbounded_greatest = top_greatest;
}

-- ---- monotone

closed_monotone : (a b : Octagon) → IsBelow a b → outcome_le (closed a) (closed b)
closed_monotone a b h = by (closing a) (closing b)
  where
    below : Below (rows a) (entries a) (entries b)
    below = below_of a b h

    closure_at : (c : Octagon) → IsClosure (rows b) (entries b) (entries c) → IsClosure (rows a) (entries b) (entries c)
    closure_at c is = subst (λ (n : ℕ). IsClosure (2 * n) (entries b) (entries c)) (sym h.same) is

    walk_at : HasNegativeWalk (rows b) (entries b) → HasNegativeWalk (rows a) (entries b)
    walk_at n = subst (λ (n : ℕ). HasNegativeWalk (2 * n) (entries b)) (sym h.same) n

    less : (c d : Octagon) → c.size ≡ a.size → d.size ≡ b.size → IsClosure (rows a) (entries a) (entries c) → IsClosure (rows b) (entries b) (entries d) → IsBelow c d
    less c d e f x y = record {
      same = e ∙ h.same ∙ sym f;
      le = test_from_below (rows c) (entries c) (entries d) (λ r k hr hk.
          closure-monotone a.size (entries a) (entries b) (entries c) (entries d) below x (closure_at d y) r k (omega (arith, e)) (omega (arith, e)));
    }

    by : Closing a → Closing b → outcome_le (closed a) (closed b)
    by (empty e n) o = subst (λ (x : Option Octagon). outcome_le x (closed b)) (sym e) tt
    by (closes d all c e same closure) (empty f n) =
        absurd (rounds_proper (rows a) (entries a) d (omega (arith, a.facts.few)) all (negative_walk-monotone (rows a) (entries a) (entries b) below (walk_at n)))
    by (closes d all c e same closure) (closes d' all' c' e' same' closure') =
        subst (λ (x : Option Octagon). outcome_le x (closed b)) (sym e) (subst (λ (y : Option Octagon). outcome_le (Some c) y) (sym e') (less c c' same same' closure closure'))

monotone_laws : MonotoneLaws
monotone_laws = record {
  joined_monotone = λ a b c d same h g.
      let there : c.size ≡ d.size = sym h.same ∙ same ∙ g.same in
      made-below a c (joined a b) (joined c d) (order.joined (entries a) (entries b)) (order.joined (entries c) (entries d)) (joined_entries a b same) (joined_entries c d there) h.same
      (joined-monotone (rows a) (entries a) (entries b) (entries c) (entries d) (below_of a c h) (subst (λ (n : ℕ). Below (2 * n) (entries b) (entries d)) (sym same) (below_of b d g)));
  closed_monotone = closed_monotone;
  forgotten_monotone = λ a b x hx h.
      made-below a b (forgotten a x) (forgotten b x) (changes.forgotten (entries a) x) (changes.forgotten (entries b) x) (forgotten_entries a x hx) (forgotten_entries b x (omega (arith, hx, h.same))) h.same
      (forgotten-monotone a.size x (entries a) (entries b) (below_of a b h));
  shifted_monotone = λ a b x y k hx hy shift h.
      made-below a b (shifted a x y k) (shifted b x y k) (changes.assigned (entries a) x y k) (changes.assigned (entries b) x y k) (shifted_entries a x y k hx hy shift) (shifted_entries b x y k (omega (arith, hx, h.same)) (omega (arith, hy, h.same)) shift) h.same
      (assigned-monotone a.size x y k (entries a) (entries b) (below_of a b h));
  bounded_monotone = λ a b x i j hx p q some le h.
      made-below a b (bounded a x i) (bounded b x j) (changes.bounded_by (entries a) x i) (changes.bounded_by (entries b) x j) (bounded_entries a x i hx p) (bounded_entries b x j (omega (arith, hx, h.same)) q) h.same
      (bounded_by-monotone a.size x i j (entries a) (entries b) some le (below_of a b h));
  constrained_monotone = λ a b x op y hx hy other h.
      made-below a b (constrained a x op y) (constrained b x op y) (changes.constrained (entries a) x op y) (changes.constrained (entries b) x op y) (constrained_entries a x op y hx hy other) (constrained_entries b x op y (omega (arith, hx, h.same)) (omega (arith, hy, h.same)) other) h.same
      (constrained-monotone a.size x op y (entries a) (entries b) (below_of a b h));
  snapped_monotone = λ points a b ladder h.
      made-below a b (snapped points a) (snapped points b) (changes.snapped_entries points (entries a)) (changes.snapped_entries points (entries b)) (snapped_entries points a ladder) (snapped_entries points b ladder) h.same
      (snapped-monotone a.size points (entries a) (entries b) ladder (below_of a b h));
  projected_monotone = λ a b x hx h. projected-monotone a.size x (entries a) (entries b) hx (below_of a b h);
}

-- ---- no greater than before

shrinking_laws : ShrinkingLaws
shrinking_laws = record {
  closed_below = λ o c e.
      let s = closed_some o c e in
      record {
        same = s.0;
        le = test_from_below (rows c) (entries c) (entries o) (λ r k hr hk. closure-below o.size (entries o) (entries c) o.facts.few o.facts.matrix s.1 r k (omega (arith, s.0)) (omega (arith, s.0)));
      };
  bounded_below = λ o x to hx formed.
      made-below o o (bounded o x to) o (changes.bounded_by (entries o) x to) (entries o) (bounded_entries o x to hx formed) (itself o) refl (bounded_by-below (rows o) (entries o) x to);
  constrained_below = λ o x op y hx hy other.
      made-below o o (constrained o x op y) o (changes.constrained (entries o) x op y) (entries o) (constrained_entries o x op y hx hy other) (itself o) refl (constrained-below (rows o) (entries o) x op y);
  shifted_below = λ o x y k hx hy shift.
      made-below o o (shifted o x y k) (forgotten o x) (changes.assigned (entries o) x y k) (changes.forgotten (entries o) x) (shifted_entries o x y k hx hy shift) (forgotten_entries o x hx) refl
      (assigned-below o.size x y k (entries o) o.facts.few hx hy shift.0 shift.1 o.facts.matrix);
}

-- ---- points

closed_point : (o c : Octagon) → closed o ≡ Some c → (p : Point) × OctagonHolds o p
closed_point o c e = by (closing o)
  where
    by : Closing o → (p : Point) × OctagonHolds o p
    by (empty f n) = absurd (not_some c (sym f ∙ e))
    by (closes d all x f same closure) =
        nearest-held o.size (entries o) d (λ r k hr hk. o.facts.matrix.coherent r k (omega (arith, o.facts.few)) (omega (arith, o.facts.few))) all

bounded_only : (o : Octagon) (x : ℕ) (to : Interval) (v : ℕ → ℤ) → x < o.size → IsFormed to → to ≢ Empty → OctagonHolds (bounded o x to) (whole_point v) → OctagonHolds o (whole_point v) × IntervalHolds to (v x)
bounded_only o x Empty v hx formed some h = absurd (some refl)
bounded_only o x (Of lo hi) v hx formed some h =
    bounded_by-met (rows o) (entries o) x lo hi v (omega (arith, hx)) formed.1 formed.2
    (becomes_held o (bounded o x (Of lo hi)) (changes.bounded_by (entries o) x (Of lo hi)) (whole_point v) (bounded_entries o x (Of lo hi) hx formed) h)

point_laws : PointLaws
point_laws = record {
  greater_holds = λ a b p h holds. le_holds a b p h.same h.le holds;
  closed_holds = λ o c v e h.
      let s = closed_some o c e in
      subst (λ (n : ℕ). Holds (2 * n) (entries c) (whole_point v)) (sym s.0) (closure-holds o.size (entries o) (entries c) s.1 v h);
  closed_point = closed_point;
  closed_pointless = λ o p e h. no_point (rows o) (entries o) p (closed_none o e) h;
  forgotten_holds = λ o x v w hx h.
      becomes_holds o (forgotten o x) (changes.forgotten (entries o) x) _ (forgotten_entries o x hx) (forgotten-holds (rows o) (entries o) x w v h);
  shifted_holds = λ o x y k v hx hy shift h.
      becomes_holds o (shifted o x y k) (changes.assigned (entries o) x y k) _ (shifted_entries o x y k hx hy shift) (assigned-holds (rows o) (entries o) x y k v h);
  shifted_only = λ o x y k v hx hy other shift h.
      assigned-met (rows o) (entries o) x y k v (omega (arith, hx)) (omega (arith, hy)) other (omega (arith, ints, shift.1)) (omega (arith, ints, shift.0))
      (becomes_held o (shifted o x y k) (changes.assigned (entries o) x y k) (whole_point v) (shifted_entries o x y k hx hy shift) h);
  bounded_holds = λ o x to v hx formed h member.
      becomes_holds o (bounded o x to) (changes.bounded_by (entries o) x to) (whole_point v) (bounded_entries o x to hx formed) (bounded_by-holds (rows o) (entries o) x to v h member);
  bounded_only = bounded_only;
  constrained_holds = λ o x op y v hx hy other h t.
      becomes_holds o (constrained o x op y) (changes.constrained (entries o) x op y) (whole_point v) (constrained_entries o x op y hx hy other) (constrained-holds (rows o) (entries o) x op y v h t);
  constrained_only = λ o x op y v hx hy other some h.
      constrained-met (rows o) (entries o) x op y v (omega (arith, hx)) (omega (arith, hy)) some
      (becomes_held o (constrained o x op y) (changes.constrained (entries o) x op y) (whole_point v) (constrained_entries o x op y hx hy other) h);
  snapped_holds = λ points o v ladder h.
      becomes_holds o (snapped points o) (changes.snapped_entries points (entries o)) (whole_point v) (snapped_entries points o ladder) (snapped-holds (rows o) points (entries o) v ladder h);
  projected_holds = λ o x v hx h in_bounds. projected-holds o.size (entries o) x v hx h in_bounds;
}

-- ---- on the ladder

held_at : (points : List ℤ) (m n : ℕ) (e : Entries) → m ≡ n → IsHeld points (2 * m) e → IsHeld points (2 * n) e
held_at points m n e same h = subst (λ (k : ℕ). IsHeld points (2 * k) e) same h

held_laws : HeldLaws
held_laws = record {
  snapped_held = λ points o ladder.
      let s = snapped_entries points o ladder in
      held_at points o.size (snapped points o).size (entries (snapped points o)) (sym s.size)
      (snapped-held points (rows o) (entries o) (entries (snapped points o)) ladder s.entries_are (λ r hr. negative-lt r o.size hr));
  snapped_same = λ points o ladder held.
      let s = snapped_entries points o ladder in
      octagon_same (snapped points o) o s.size (λ r k hr hk.
      s.entries_are r k (omega (arith, s.size)) (omega (arith, s.size)) ∙ snapped-same points (rows o) (entries o) ladder held r k (omega (arith, s.size)) (omega (arith, s.size)));
  joined_held = λ points a b same h g.
      let j = joined_entries a b same in
      held_at points a.size (joined a b).size (entries (joined a b)) (sym j.size)
      (held_equal points (rows a) (order.joined (entries a) (entries b)) (entries (joined a b)) j.entries_are (λ r hr. negative-lt r a.size hr)
      (joined-held points (rows a) (entries a) (entries b) h (held_at points b.size a.size (entries b) (sym same) g)));
  rank_rises = λ points a b le strict h g.
      subst (λ (n : ℕ). rank_of points (rows a) (entries a) < rank_of points (2 * n) (entries b)) le.same
      (rank-rises points (rows a) (entries a) (entries b) h (held_at points b.size a.size (entries b) (sym le.same) g) (below_of a b le)
      (λ r k hr hk. (b.facts.matrix.in_range r k (omega (arith, a.facts.few)) (omega (arith, a.facts.few))).most)
      (λ r hr. a.facts.matrix.diagonal r (omega (arith, a.facts.few)) ∙ sym (b.facts.matrix.diagonal r (omega (arith, a.facts.few))))
      (subst (λ (n : ℕ). is_below (2 * n) (entries b) (entries a) ≡ false) (sym le.same) strict));
  rank_most = λ points o. rank-most points (rows o) (entries o) (omega (arith, o.facts.few));
}

pub octagon_laws : OctagonLaws
octagon_laws = record {
  orders = order_laws;
  entry = entry_laws;
  monotone = monotone_laws;
  shrinking = shrinking_laws;
  point = point_laws;
  held = held_laws;
}
