-- The laws of octagons of one size and of the functions on them, as the layers above use them.
use Rattle.std.specs.Prelude.{◌≡◌, ◌≢◌, ℕ, ◌+◌, ◌*◌, ◌<◌, ◌≤◌, ◌^◌, true, false, Option, Some, None, List, length, ℤ, pos, neg_ℤ, ◌+ℤ◌, ◌≤ℤ◌}
use Rattle.sp_lattice.specs.Ladder.{InBounds, IsLadder}
use Rattle.sp_lattice.specs.Relation.{holds}
use Rattle.sp_lattice.specs.declared.relations.Relation.{Relation}
use Rattle.sp_lattice.specs.declared.relations.Relation.TheVariants.{Different}
use Rattle.sp_interval.specs.declared.interval.Interval.{Interval}
use Rattle.sp_interval.specs.declared.interval.Interval.TheVariants.{Empty}
use Rattle.sp_interval.specs.Interval.{Holds, IsFormed, interval_le}
use Rattle.sp_octagon.specs.declared.octagon.Octagon.{Octagon}
use Rattle.sp_octagon.specs.Points.{Point, whole_point, replaced}
use Rattle.sp_octagon.specs.Walks.{HasNegativeWalk, IsClosure}
use Rattle.sp_octagon.specs.Held.{IsHeld, rank_of}
use Rattle.sp_octagon.specs.Order as order
use Rattle.sp_octagon.specs.Changes as changes
use Rattle.sp_octagon.specs.Octagons.{rows, entries, octagon_le, Becomes, OctagonHolds}
use Rattle.sp_octagon.specs.Functions.{joined, forgotten, shifted, bounded, constrained, snapped, closed}

-- two octagons of one size, no entry of a above that of b
pub record IsBelow (a b : Octagon) : Type 0 where
  pub same : a.size ≡ b.size
  pub le : octagon_le a b ≡ true

-- k is a number that can be added to a member
abbrev pub IsShift : ℤ → Type 0
IsShift k = (neg_ℤ (pos (2 ^ 64)) ≤ℤ k) × (k ≤ℤ pos (2 ^ 64))

-- nothing is below every octagon
abbrev pub outcome_le : Option Octagon → Option Octagon → Type 0
outcome_le None d = Unit {0}
outcome_le (Some c) None = ⊥
outcome_le (Some c) (Some d) = IsBelow c d

-- ---- the order, and the join as least upper bound

pub record OrderLaws : Type 0 where
  pub reflexive : (a : Octagon) → octagon_le a a ≡ true
  pub transitive : (a b c : Octagon) → IsBelow a b → IsBelow b c → IsBelow a c
  pub antisymmetric : (a b : Octagon) → IsBelow a b → IsBelow b a → a ≡ b
  pub left : (a b : Octagon) → a.size ≡ b.size → IsBelow a (joined a b)
  pub right : (a b : Octagon) → a.size ≡ b.size → IsBelow b (joined a b)
  pub least : (a b c : Octagon) → IsBelow a c → IsBelow b c → IsBelow (joined a b) c
  pub unbounded_greatest : (o other : Octagon) → other.size ≡ o.size
      → ((r c : ℕ) → r < rows o → c < rows o → entries o r c ≡ changes.no_bounds r c)
      → octagon_le other o ≡ true

-- ---- what each function makes of the entries

pub record EntryLaws : Type 0 where
  pub joined_entries : (a b : Octagon) → a.size ≡ b.size
      → Becomes a (joined a b) (order.joined (entries a) (entries b))
  pub forgotten_entries : (o : Octagon) (x : ℕ) → x < o.size
      → Becomes o (forgotten o x) (changes.forgotten (entries o) x)
  pub shifted_entries : (o : Octagon) (x y : ℕ) (k : ℤ) → x < o.size → y < o.size → IsShift k
      → Becomes o (shifted o x y k) (changes.assigned (entries o) x y k)
  pub bounded_entries : (o : Octagon) (x : ℕ) (to : Interval) → x < o.size → IsFormed to
      → Becomes o (bounded o x to) (changes.bounded_by (entries o) x to)
  pub constrained_entries : (o : Octagon) (x : ℕ) (op : Relation) (y : ℕ)
      → x < o.size → y < o.size → x ≢ y
      → Becomes o (constrained o x op y) (changes.constrained (entries o) x op y)
  pub snapped_entries : (points : List ℤ) (o : Octagon) → IsLadder points
      → Becomes o (snapped points o) (changes.snapped_entries points (entries o))
  pub closed_some : (o c : Octagon) → closed o ≡ Some c
      → (c.size ≡ o.size) × IsClosure (rows o) (entries o) (entries c)
  pub closed_none : (o : Octagon) → closed o ≡ None → HasNegativeWalk (rows o) (entries o)

-- ---- monotone: the lesser octagon has the lesser result

pub record MonotoneLaws : Type 0 where
  pub joined_monotone : (a b c d : Octagon) → a.size ≡ b.size → IsBelow a c → IsBelow b d
      → IsBelow (joined a b) (joined c d)
  pub closed_monotone : (a b : Octagon) → IsBelow a b → outcome_le (closed a) (closed b)
  pub forgotten_monotone : (a b : Octagon) (x : ℕ) → x < a.size → IsBelow a b
      → IsBelow (forgotten a x) (forgotten b x)
  pub shifted_monotone : (a b : Octagon) (x y : ℕ) (k : ℤ) → x < a.size → y < a.size → IsShift k
      → IsBelow a b → IsBelow (shifted a x y k) (shifted b x y k)
  pub bounded_monotone : (a b : Octagon) (x : ℕ) (i j : Interval) → x < a.size
      → IsFormed i → IsFormed j → i ≢ Empty → interval_le i j ≡ true
      → IsBelow a b → IsBelow (bounded a x i) (bounded b x j)
  pub constrained_monotone : (a b : Octagon) (x : ℕ) (op : Relation) (y : ℕ)
      → x < a.size → y < a.size → x ≢ y → IsBelow a b
      → IsBelow (constrained a x op y) (constrained b x op y)
  pub snapped_monotone : (points : List ℤ) (a b : Octagon) → IsLadder points → IsBelow a b
      → IsBelow (snapped points a) (snapped points b)
  pub projected_monotone : (a b : Octagon) (x : ℕ) → x < a.size → IsBelow a b
      → interval_le (changes.projected (entries a) x) (changes.projected (entries b) x) ≡ true

-- ---- what is no greater than it was

pub record ShrinkingLaws : Type 0 where
  pub closed_below : (o c : Octagon) → closed o ≡ Some c → IsBelow c o
  pub bounded_below : (o : Octagon) (x : ℕ) (to : Interval) → x < o.size → IsFormed to
      → IsBelow (bounded o x to) o
  pub constrained_below : (o : Octagon) (x : ℕ) (op : Relation) (y : ℕ)
      → x < o.size → y < o.size → x ≢ y → IsBelow (constrained o x op y) o
  pub shifted_below : (o : Octagon) (x y : ℕ) (k : ℤ) → x < o.size → y < o.size → IsShift k
      → IsBelow (shifted o x y k) (forgotten o x)

-- ---- points: nothing is lost, and conditions hold afterwards

pub record PointLaws : Type 0 where
  pub greater_holds : (a b : Octagon) (p : Point) → IsBelow a b → OctagonHolds a p
      → OctagonHolds b p
  pub closed_holds : (o c : Octagon) (v : ℕ → ℤ) → closed o ≡ Some c
      → OctagonHolds o (whole_point v) → OctagonHolds c (whole_point v)
  pub closed_point : (o c : Octagon) → closed o ≡ Some c → (p : Point) × OctagonHolds o p
  pub closed_pointless : (o : Octagon) (p : Point) → closed o ≡ None → OctagonHolds o p → ⊥
  pub forgotten_holds : (o : Octagon) (x : ℕ) (v : ℕ → ℤ) (w : ℤ) → x < o.size
      → OctagonHolds o (whole_point v) → OctagonHolds (forgotten o x) (whole_point (replaced v x w))
  pub shifted_holds : (o : Octagon) (x y : ℕ) (k : ℤ) (v : ℕ → ℤ)
      → x < o.size → y < o.size → IsShift k → OctagonHolds o (whole_point v)
      → OctagonHolds (shifted o x y k) (whole_point (replaced v x (v y +ℤ k)))
  pub shifted_only : (o : Octagon) (x y : ℕ) (k : ℤ) (v : ℕ → ℤ)
      → x < o.size → y < o.size → x ≢ y → IsShift k
      → OctagonHolds (shifted o x y k) (whole_point v) → v x ≡ (v y +ℤ k)
  pub bounded_holds : (o : Octagon) (x : ℕ) (to : Interval) (v : ℕ → ℤ) → x < o.size → IsFormed to
      → OctagonHolds o (whole_point v) → Holds to (v x)
      → OctagonHolds (bounded o x to) (whole_point v)
  pub bounded_only : (o : Octagon) (x : ℕ) (to : Interval) (v : ℕ → ℤ) → x < o.size → IsFormed to
      → to ≢ Empty → OctagonHolds (bounded o x to) (whole_point v)
      → OctagonHolds o (whole_point v) × Holds to (v x)
  pub constrained_holds : (o : Octagon) (x : ℕ) (op : Relation) (y : ℕ) (v : ℕ → ℤ)
      → x < o.size → y < o.size → x ≢ y → OctagonHolds o (whole_point v)
      → holds op (v x) (v y) ≡ true → OctagonHolds (constrained o x op y) (whole_point v)
  pub constrained_only : (o : Octagon) (x : ℕ) (op : Relation) (y : ℕ) (v : ℕ → ℤ)
      → x < o.size → y < o.size → x ≢ y → op ≢ Different
      → OctagonHolds (constrained o x op y) (whole_point v)
      → OctagonHolds o (whole_point v) × (holds op (v x) (v y) ≡ true)
  pub snapped_holds : (points : List ℤ) (o : Octagon) (v : ℕ → ℤ) → IsLadder points
      → OctagonHolds o (whole_point v) → OctagonHolds (snapped points o) (whole_point v)
  pub projected_holds : (o : Octagon) (x : ℕ) (v : ℕ → ℤ) → x < o.size
      → OctagonHolds o (whole_point v) → InBounds (v x)
      → Holds (changes.projected (entries o) x) (v x)

-- ---- octagons on the ladder, and their rank

abbrev pub IsHeldOctagon : List ℤ → Octagon → Type 0
IsHeldOctagon points o = IsHeld points (rows o) (entries o)

abbrev pub rank : List ℤ → Octagon → ℕ
rank points o = rank_of points (rows o) (entries o)

pub record HeldLaws : Type 0 where
  pub snapped_held : (points : List ℤ) (o : Octagon) → IsLadder points
      → IsHeldOctagon points (snapped points o)
  pub snapped_same : (points : List ℤ) (o : Octagon) → IsLadder points → IsHeldOctagon points o
      → snapped points o ≡ o
  pub joined_held : (points : List ℤ) (a b : Octagon) → a.size ≡ b.size
      → IsHeldOctagon points a → IsHeldOctagon points b → IsHeldOctagon points (joined a b)
  pub rank_rises : (points : List ℤ) (a b : Octagon) → IsBelow a b → octagon_le b a ≡ false
      → IsHeldOctagon points a → IsHeldOctagon points b → rank points a < rank points b
  pub rank_most : (points : List ℤ) (o : Octagon) → rank points o ≤ 1 + 240 * length points

-- the laws of octagons
pub record OctagonLaws : Type 0 where
  pub orders : OrderLaws
  pub entry : EntryLaws
  pub monotone : MonotoneLaws
  pub shrinking : ShrinkingLaws
  pub point : PointLaws
  pub held : HeldLaws
