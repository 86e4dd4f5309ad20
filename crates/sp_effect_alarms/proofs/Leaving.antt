-- Where an access may leave its region, on 128 bits.
use Rattle.std.proofs.Common.{◌≡◌, true, false, ℤ, pos, ◌+ℤ◌, FitsSigned, sym, ap, ◌∙◌, ◌^◌, ◌-◌, arith}
use Rattle.std.specs.Prelude.{int_le, int_lt}
use Rattle.std.specs.Int.{w128}
use Rattle.std.proofs.lemmas.Int.{ints, to_z-of_z}
use Rattle.sp_lattice.specs.Ladder.{InBounds, lowest}
use Rattle.sp_lattice.proofs.Snaps.{le_from_int_le}
use Rattle.sp_interval.specs.declared.interval.Interval.TheVariants.{Of}
use Rattle.sp_interval.specs.Interval.{IsFormed, interval_le}
use Rattle.sp_interval.specs.Inclusion.{bounds_from_le}
use Rattle.sp_interval.proofs.Machine.{machine, fits_in_bounds, sum_exact}
use Rattle.sp_value.specs.Known.{is_proper_within, every_offset}
use Rattle.sp_value.specs.Tests.{first, second}
use Rattle.sp_effect_alarms.specs.Alarms.{may_leave}

offset_in : (lo hi : ℤ) → is_proper_within every_offset (Of lo hi) ≡ true → InBounds hi
offset_in lo hi h =
    let o = le_from_int_le lo hi (first (int_le lo hi) (interval_le (Of lo hi) every_offset) h) in
    let w = bounds_from_le lo hi lowest (pos (2 ^ 63 - 1)) (second (int_le lo hi) (interval_le (Of lo hi) every_offset) h) in
    (omega (arith, ints, o, w.0), omega (arith, ints, w.1))

pub late : (lo hi few many least most : ℤ) → is_proper_within every_offset (Of lo hi) ≡ true → IsFormed (Of few many) → FitsSigned w128 lo → FitsSigned w128 least
    → int_le (pos 1) (machine many) ≡ true → int_lt (machine lo) (pos 0) ≡ false
    → int_lt (machine least) (machine (machine hi +ℤ machine many)) ≡ may_leave (Of lo hi) (Of few many) (Of least most)
late lo hi few many least most offset count lo_fits least_fits some low =
    let some' : int_le (pos 1) many ≡ true = ap (int_le (pos 1)) (sym (to_z-of_z w128 many (fits_in_bounds many count.2))) ∙ some in
    let low' : int_lt lo (pos 0) ≡ false = ap (λ z. int_lt z (pos 0)) (sym (to_z-of_z w128 lo lo_fits)) ∙ low in
    let end : int_lt (machine least) (machine (machine hi +ℤ machine many)) ≡ int_lt least (hi +ℤ many) =
    ap (λ z. int_lt z (machine (machine hi +ℤ machine many))) (to_z-of_z w128 least least_fits) ∙ ap (int_lt least) (sum_exact hi many (offset_in lo hi offset) count.2) in
    rw (some', low') end
