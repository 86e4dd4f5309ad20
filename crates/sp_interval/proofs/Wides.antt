-- Products of two bounds in 128 bits and a sign, and the range rule on them.
use Rattle.std.proofs.Common.{◌≡◌, inl, inr, ◌-◌, true, cond, ℕ, ◌^◌, ◌≤◌, ℤ, pos, negsuc, ◌*ℤ◌, ◌≤ℤ◌, refl, sym, ap, ◌∙◌, arith}
use Rattle.std.specs.Prelude.{unsigned_abs}
use Rattle.std.proofs.Math.Nat.{pow-le-pow_right}
use Rattle.std.proofs.lemmas.Nat.{pow_pos}
use Rattle.std.proofs.lemmas.Int.{ints}
use Rattle.sp_lattice.specs.declared.ranges.Range.{Range}
use Rattle.sp_lattice.specs.Range.{IsWidth, IsIntegerRange}
use Rattle.sp_interval.specs.declared.interval.Interval.{Interval}
use Rattle.sp_interval.specs.declared.interval.Interval.TheVariants.{Empty, Of}
use Rattle.sp_interval.specs.Interval.{IsFormed, interval_le, ranged, corners, amounts, powers, left_shift, whole_range, shifted_left, multiplied}
use Rattle.sp_interval.specs.Inclusion.{bounds_from_le}

-- the powers by which a number is shifted are bounds
pub powers-formed : (kind : Range) (j : Interval) → IsIntegerRange kind → IsFormed j → interval_le j (amounts kind) ≡ true → IsFormed (powers j)
powers-formed kind Empty range h fits = tt
powers-formed kind (Of c d) range h fits =
    let p = bounds_from_le c d (pos 0) (pos (kind.width - 1)) fits in
    let narrow = width-small kind.width range.0 in
    let most : unsigned_abs d ≤ 63 = abs-le d 63 (omega (arith, ints, p.0, h.0)) (omega (arith, ints, p.1, narrow)) in
    let order : unsigned_abs c ≤ unsigned_abs d = sizes c d p.0 h.0 in
    let q = power-le (unsigned_abs c) (unsigned_abs d) order in
    let r = power-le (unsigned_abs d) 63 most in
    let s = pow_pos (unsigned_abs c) in
    (omega (arith, ints, q), (omega (arith, ints), omega (arith, ints, q, r)), (omega (arith, ints), omega (arith, ints, r)))
  where
    width-small : (w : ℕ) → IsWidth w → w ≤ 64
    width-small w (inl e) = omega (arith, e)
    width-small w (inr (inl e)) = omega (arith, e)
    width-small w (inr (inr (inl e))) = omega (arith, e)
    width-small w (inr (inr (inr e))) = omega (arith, e)

    power-le : (j k : ℕ) → j ≤ k → 2 ^ j ≤ 2 ^ k
    power-le j k h = pow-le-pow_right (omega arith) h

    abs-le : (y : ℤ) (n : ℕ) → pos 0 ≤ℤ y → y ≤ℤ pos n → unsigned_abs y ≤ n
    abs-le (pos m) n h g = omega (arith, ints)
    abs-le (negsuc m) n h g = absurd (omega (arith, ints))

    sizes : (y z : ℤ) → pos 0 ≤ℤ y → y ≤ℤ z → unsigned_abs y ≤ unsigned_abs z
    sizes (pos m) (pos n) h g = omega (arith, ints)
    sizes (pos m) (negsuc n) h g = absurd (omega (arith, ints))
    sizes (negsuc m) z h g = absurd (omega (arith, ints))

-- shifts to the left are products with powers of two
pub shifted_left-product : (kind : Range) (i j : Interval) → interval_le j (amounts kind) ≡ true → multiplied kind i (powers j) ≡ shifted_left kind i j
shifted_left-product kind i j fits =
    ap (ranged kind) (same i j) ∙ sym (ap (λ t. cond t (ranged kind (corners left_shift i j)) (whole_range kind i)) fits)
  where
    same : (i j : Interval) → corners (λ x y. x *ℤ y) i (powers j) ≡ corners left_shift i j
    same Empty j = refl
    same (Of a b) Empty = refl
    same (Of a b) (Of c d) = refl
