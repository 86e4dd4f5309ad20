-- Bytes, counted in elements of a size, on 128 bits.
use Rattle.std.proofs.Common.{◌≡◌, ℕ, ◌<◌, ◌-◌, ◌^◌, ℤ, pos, negsuc, neg_ℤ, ◌-ℤ◌, ◌≤ℤ◌, arith}
use Rattle.std.specs.Int.{int_div_euclid}
use Rattle.std.proofs.Math.Nat.{div-le_self}
use Rattle.std.proofs.lemmas.Int.{ints}
use Rattle.sp_lattice.specs.Ladder.{InBounds}
use Rattle.sp_interval.specs.declared.interval.Interval.{Interval}
use Rattle.sp_interval.specs.declared.interval.Interval.TheVariants.{Empty, Of}
use Rattle.sp_interval.specs.Interval.{IsFormed}
use Rattle.sp_interval.proofs.Machine.{machine}
use Rattle.sp_eval.specs.Numbers.{outward}
use Rattle.sp_eval.proofs.Wides.{IsNear, outward-exact}
use Rattle.sp_eval.proofs.Distances.{outward-ordered}

near : (z : ℤ) → InBounds z → IsNear (2 ^ 105) z
near z h = let p = h.0 in let q = h.1 in (omega (arith, ints), omega (arith, ints))

pub outward_computed : (size : ℕ) (a b q r s : ℤ) → size < 2 ^ 64 → s ≡ pos size → IsFormed (Of a b)
    → q ≡ int_div_euclid (machine a) (machine s) → r ≡ int_div_euclid (machine (pos 0 -ℤ machine b)) (machine s)
    → Of (machine q) (machine (pos 0 -ℤ machine r)) ≡ outward size (Of a b)
outward_computed size a b q r s fits is h low high = outward-exact size a b q r s fits is (near a h.1) (near b h.2) low high

-- rounded down, a quotient stays between bounds on either side of 0
floor-within : (z : ℤ) (n m q : ℕ) → neg_ℤ (pos n) ≤ℤ z → z ≤ℤ pos m → (neg_ℤ (pos n) ≤ℤ int_div_euclid z (pos q)) × (int_div_euclid z (pos q) ≤ℤ pos m)
floor-within (pos a) n m q h g = let r = div-le_self a q in (omega (arith, ints), omega (arith, ints, r))
floor-within (negsuc a) n m q h g = let r = div-le_self a q in (omega (arith, ints, r), omega (arith, ints))

pub outward-formed : (size : ℕ) (i : Interval) → 0 < size → IsFormed i → IsFormed (outward size i)
outward-formed size Empty some h = tt
outward-formed size (Of a b) some h =
    let low = floor-within a (2 ^ 63) (2 ^ 64 - 1) size h.1.0 h.1.1 in
    let high = floor-within (neg_ℤ b) (2 ^ 64 - 1) (2 ^ 63) size (omega (arith, ints, h.2.1)) (omega (arith, ints, h.2.0)) in
    (outward-ordered size some (Of a b) h.0, low, (omega (arith, ints, high.1), omega (arith, ints, high.0)))
