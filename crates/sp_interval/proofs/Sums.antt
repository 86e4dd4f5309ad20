-- Sums and differences: the least interval of the exact results, monotone, formed.
use Rattle.std.proofs.Common.{◌≡◌, true, ◌+ℤ◌, ◌-ℤ◌, refl, arith}
use Rattle.std.specs.Int.Signed.{≤ℤ_refl}
use Rattle.std.proofs.lemmas.Int.{ints}
use Rattle.std.proofs.lemmas.Bool.{false≢true}
use Rattle.sp_lattice.specs.declared.ranges.Range.{Range}
use Rattle.sp_lattice.specs.Range.{IsIntegerRange}
use Rattle.sp_interval.specs.declared.interval.Interval.{Interval}
use Rattle.sp_interval.specs.declared.interval.Interval.TheVariants.{Empty, Of}
use Rattle.sp_interval.specs.Interval.{IsOrdered, IsFormed, interval_le, IsHull, Results, IsLeastResult, IsSum, IsDifference, sum_of, difference_of, added, subtracted}
use Rattle.sp_interval.specs.Inclusion.{le_from_bounds, bounds_from_le}
use Rattle.sp_interval.proofs.Hulls.{empty_hull, hull_from_ends, ordered_from_formed}
use Rattle.sp_interval.proofs.Ranged.{ranged-monotone, ranged-formed}

pub sum_of-hull : (i j : Interval) → IsOrdered i → IsOrdered j → IsHull (Results IsSum i j) (sum_of i j)
sum_of-hull Empty j h g = empty_hull (Results IsSum Empty j) (λ v r. r.in_left)
sum_of-hull (Of a b) Empty h g = empty_hull (Results IsSum (Of a b) Empty) (λ v r. r.in_right)
sum_of-hull (Of a b) (Of c d) h g =
    hull_from_ends (Results IsSum (Of a b) (Of c d)) (a +ℤ c) (b +ℤ d)
    (record { left = a; right = c; in_left = (≤ℤ_refl a, h); in_right = (≤ℤ_refl c, g); is = refl })
    (record { left = b; right = d; in_left = (h, ≤ℤ_refl b); in_right = (g, ≤ℤ_refl d); is = refl })
    (λ v r. (omega (arith, ints, r.in_left.0, r.in_right.0, r.is), omega (arith, ints, r.in_left.1, r.in_right.1, r.is)))

pub difference_of-hull : (i j : Interval) → IsOrdered i → IsOrdered j → IsHull (Results IsDifference i j) (difference_of i j)
difference_of-hull Empty j h g = empty_hull (Results IsDifference Empty j) (λ v r. r.in_left)
difference_of-hull (Of a b) Empty h g = empty_hull (Results IsDifference (Of a b) Empty) (λ v r. r.in_right)
difference_of-hull (Of a b) (Of c d) h g =
    hull_from_ends (Results IsDifference (Of a b) (Of c d)) (a -ℤ d) (b -ℤ c)
    (record { left = a; right = d; in_left = (≤ℤ_refl a, h); in_right = (g, ≤ℤ_refl d); is = refl })
    (record { left = b; right = c; in_left = (h, ≤ℤ_refl b); in_right = (≤ℤ_refl c, g); is = refl })
    (λ v r. (omega (arith, ints, r.in_left.0, r.in_right.1, r.is), omega (arith, ints, r.in_left.1, r.in_right.0, r.is)))

pub added-least : (kind : Range) (i j : Interval) → IsFormed i → IsFormed j → IsLeastResult IsSum kind i j (added kind i j)
added-least kind i j h g = record { exact = sum_of i j; is_hull = sum_of-hull i j (ordered_from_formed i h) (ordered_from_formed j g); is_ranged = refl }

pub subtracted-least : (kind : Range) (i j : Interval) → IsFormed i → IsFormed j → IsLeastResult IsDifference kind i j (subtracted kind i j)
subtracted-least kind i j h g = record { exact = difference_of i j; is_hull = difference_of-hull i j (ordered_from_formed i h) (ordered_from_formed j g); is_ranged = refl }

pub sum_of-ordered : (i j : Interval) → IsOrdered i → IsOrdered j → IsOrdered (sum_of i j)
sum_of-ordered Empty j h g = tt
sum_of-ordered (Of a b) Empty h g = tt
sum_of-ordered (Of a b) (Of c d) h g = omega (arith, ints, h, g)

pub difference_of-ordered : (i j : Interval) → IsOrdered i → IsOrdered j → IsOrdered (difference_of i j)
difference_of-ordered Empty j h g = tt
difference_of-ordered (Of a b) Empty h g = tt
difference_of-ordered (Of a b) (Of c d) h g = omega (arith, ints, h, g)

pub added-formed : (kind : Range) (i j : Interval) → IsIntegerRange kind → IsFormed i → IsFormed j → IsFormed (added kind i j)
added-formed kind i j range h g = ranged-formed kind (sum_of i j) range (sum_of-ordered i j (ordered_from_formed i h) (ordered_from_formed j g))

pub subtracted-formed : (kind : Range) (i j : Interval) → IsIntegerRange kind → IsFormed i → IsFormed j → IsFormed (subtracted kind i j)
subtracted-formed kind i j range h g = ranged-formed kind (difference_of i j) range (difference_of-ordered i j (ordered_from_formed i h) (ordered_from_formed j g))

pub sum_of-monotone : (i j i' j' : Interval) → interval_le i i' ≡ true → interval_le j j' ≡ true → interval_le (sum_of i j) (sum_of i' j') ≡ true
sum_of-monotone Empty j i' j' p q = refl
sum_of-monotone (Of a b) Empty i' j' p q = refl
sum_of-monotone (Of a b) (Of c d) Empty j' p q = absurd (false≢true p)
sum_of-monotone (Of a b) (Of c d) (Of e f) Empty p q = absurd (false≢true q)
sum_of-monotone (Of a b) (Of c d) (Of e f) (Of k l) p q =
    let s = bounds_from_le a b e f p in
    let t = bounds_from_le c d k l q in
    le_from_bounds (a +ℤ c) (b +ℤ d) (e +ℤ k) (f +ℤ l) (omega (arith, ints, s.0, t.0)) (omega (arith, ints, s.1, t.1))

pub difference_of-monotone : (i j i' j' : Interval) → interval_le i i' ≡ true → interval_le j j' ≡ true → interval_le (difference_of i j) (difference_of i' j') ≡ true
difference_of-monotone Empty j i' j' p q = refl
difference_of-monotone (Of a b) Empty i' j' p q = refl
difference_of-monotone (Of a b) (Of c d) Empty j' p q = absurd (false≢true p)
difference_of-monotone (Of a b) (Of c d) (Of e f) Empty p q = absurd (false≢true q)
difference_of-monotone (Of a b) (Of c d) (Of e f) (Of k l) p q =
    let s = bounds_from_le a b e f p in
    let t = bounds_from_le c d k l q in
    le_from_bounds (a -ℤ d) (b -ℤ c) (e -ℤ l) (f -ℤ k) (omega (arith, ints, s.0, t.1)) (omega (arith, ints, s.1, t.0))

pub added-monotone : (kind : Range) (i j i' j' : Interval) → IsIntegerRange kind → IsFormed i → IsFormed j → interval_le i i' ≡ true → interval_le j j' ≡ true → interval_le (added kind i j) (added kind i' j') ≡ true
added-monotone kind i j i' j' range h g p q = ranged-monotone kind (sum_of i j) (sum_of i' j') range (sum_of-ordered i j (ordered_from_formed i h) (ordered_from_formed j g)) (sum_of-monotone i j i' j' p q)

pub subtracted-monotone : (kind : Range) (i j i' j' : Interval) → IsIntegerRange kind → IsFormed i → IsFormed j → interval_le i i' ≡ true → interval_le j j' ≡ true → interval_le (subtracted kind i j) (subtracted kind i' j') ≡ true
subtracted-monotone kind i j i' j' range h g p q = ranged-monotone kind (difference_of i j) (difference_of i' j') range (difference_of-ordered i j (ordered_from_formed i h) (ordered_from_formed j g)) (difference_of-monotone i j i' j' p q)
