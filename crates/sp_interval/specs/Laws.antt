-- The laws of the calls on intervals, as the layers above use them.
use Rattle.std.specs.Prelude.{◌≡◌, ◌+◌, ◌<◌, ◌≤◌, ℕ, true, false, List, length, ℤ, pos, ◌≤ℤ◌}
use Rattle.std.specs.Int.{int_div_euclid}
use Rattle.sp_lattice.specs.declared.ranges.Range.{Range}
use Rattle.sp_lattice.specs.Range.{IsIntegerRange}
use Rattle.sp_lattice.specs.declared.relations.Relation.{Relation}
use Rattle.sp_lattice.specs.Lattice.{IsLattice}
use Rattle.sp_lattice.specs.Ladder.{IsLadder}
use Rattle.sp_interval.specs.declared.interval.Interval.{Interval}
use Rattle.sp_interval.specs.declared.interval.Interval.TheVariants.{Of}
use Rattle.sp_interval.specs.Interval.{Holds, IsOrdered, IsFormed, interval_le, hull, interval_order, whole, between, sum_of, difference_of, product_of, ranged, added, subtracted, multiplied, divided, remaindered, shifted_left, shifted_right, anded, ored, xored, met, refined, snapped, IsHeld, rank_of}

-- i lies in j
abbrev pub Included : Interval → Interval → Type 0
Included i j = interval_le i j ≡ true

-- of formed intervals op makes a formed one, and lesser operands give a lesser result
pub record IsOperation (op : Interval → Interval → Interval) : Type 0 where
  pub formed : (i j : Interval) → IsFormed i → IsFormed j → IsFormed (op i j)
  pub monotone : (i j k l : Interval) → IsFormed i → IsFormed j → Included i k → Included j l
      → Included (op i j) (op k l)

-- of ordered intervals op makes an ordered one, and lesser operands give a lesser result: exact
-- results, whose bounds may lie past those of all that is stored
pub record IsExact (op : Interval → Interval → Interval) : Type 0 where
  pub ordered : (i j : Interval) → IsOrdered i → IsOrdered j → IsOrdered (op i j)
  pub monotone : (i j k l : Interval) → IsOrdered i → IsOrdered j → Included i k → Included j l
      → Included (op i j) (op k l)

-- the calls with the range of a type
pub record IsRangeLawful (kind : Range) : Type 0 where
  pub added_laws : IsOperation (added kind)
  pub subtracted_laws : IsOperation (subtracted kind)
  pub multiplied_laws : IsOperation (multiplied kind)
  pub divided_laws : IsOperation (divided kind)
  pub remaindered_laws : IsOperation (remaindered kind)
  pub shifted_left_laws : IsOperation (shifted_left kind)
  pub shifted_right_laws : IsOperation (shifted_right kind)
  pub anded_laws : IsOperation (anded kind)
  pub ored_laws : IsOperation (ored kind)
  pub xored_laws : IsOperation (xored kind)
  pub every_formed : IsFormed (Of kind.lo kind.hi)
  pub ranged_formed : (i : Interval) → IsOrdered i → IsFormed (ranged kind i)
  pub ranged_within : (i : Interval) → Included (ranged kind i) (Of kind.lo kind.hi)
  pub ranged_monotone : (i j : Interval) → IsOrdered i → Included i j
      → Included (ranged kind i) (ranged kind j)

-- what is stored, on a ladder of a program
pub record IsLadderLawful (points : List ℤ) : Type 0 where
  pub snapped_held : (i : Interval) → IsFormed i → IsHeld points (snapped points i)
  pub snapped_formed : (i : Interval) → IsFormed i → IsFormed (snapped points i)
  pub snapped_above : (i : Interval) → IsFormed i → Included i (snapped points i)
  pub snapped_same : (i : Interval) → IsHeld points i → snapped points i ≡ i
  pub range_held : (kind : Range) → IsIntegerRange kind → IsHeld points (Of kind.lo kind.hi)
  pub whole_held : IsHeld points whole

-- held intervals of any list of points, and their rank: of two the strictly greater one has the
-- greater
pub record IsHeldLawful (points : List ℤ) : Type 0 where
  pub formed : (i : Interval) → IsHeld points i → IsFormed i
  pub hull_held : (i j : Interval) → IsHeld points i → IsHeld points j → IsHeld points (hull i j)
  pub met_held : (i j : Interval) → IsHeld points i → IsHeld points j → IsHeld points (met i j)
  pub snapped_monotone : (i j : Interval) → Included i j
      → Included (snapped points i) (snapped points j)
  pub rank_rises : (i j : Interval) → IsHeld points i → IsHeld points j → Included i j
      → interval_le j i ≡ false → rank_of points i < rank_of points j
  pub rank_monotone : (i j : Interval) → Included i j → rank_of points i ≤ rank_of points j
  pub rank_most : (i : Interval) → rank_of points i ≤ 1 + length points

-- the laws of all calls
pub record IntervalLaws : Type 0 where
  pub lattice : IsLattice interval_order
  pub members : (i j : Interval) (v : ℤ) → Included i j → Holds i v → Holds j v
  pub ordered : (i : Interval) → IsFormed i → IsOrdered i
  pub below_whole : (i : Interval) → IsFormed i → Included i whole
  pub formed_below : (i j : Interval) → IsOrdered i → IsFormed j → Included i j → IsFormed i
  pub hull_laws : IsOperation hull
  pub met_laws : IsOperation met
  pub met_left : (i j : Interval) → Included (met i j) i
  pub met_right : (i j : Interval) → Included (met i j) j
  pub refined_laws : (op : Relation) → IsOperation (refined op)
  pub refined_within : (op : Relation) (i j : Interval) → IsFormed i → IsFormed j
      → Included (refined op i j) i
  pub between_monotone : (a b c d : ℤ) → c ≤ℤ a → b ≤ℤ d → Included (between a b) (between c d)
  pub sum_laws : IsExact sum_of
  pub difference_laws : IsExact difference_of
  pub product_laws : IsExact product_of
  pub floor_monotone : (x y : ℤ) (n : ℕ) → 0 < n → x ≤ℤ y
      → int_div_euclid x (pos n) ≤ℤ int_div_euclid y (pos n)
  pub with_range : (kind : Range) → IsIntegerRange kind → IsRangeLawful kind
  pub on_ladder : (points : List ℤ) → IsLadder points → IsLadderLawful points
  pub held : (points : List ℤ) → IsHeldLawful points
