use Rattle.std.proofs.Common.{◌≡◌, ◌∙◌, ap, sym, refl, negsuc, to_z, of_z}
use Rattle.std.proofs.Math.IntN.{neg_ℤ}
use Rattle.std.specs.Int.{w128}
use Rattle.std.proofs.lemmas.Int.{wrapping_neg_is, quot_is, to_z-of_z}
use Rattle.sp_check_constants.specs.Constants.{within, quotient}
use Rattle.sp_check_constants.proofs.Wrapping.{same_bits, not_zero, quotient_fits, div_minus_one}
use Rattle.sp_check_constants.proofs.constants.quotient.Goals as goal

pub returns-then-y-eqminus1 : goal.returns-then-y-eqminus1
returns-then-y-eqminus1 c =
    let x = to_z w128 (of_z w128 c.args.x) in
    let minus : c.args.y ≡ negsuc 0 = sym (to_z-of_z w128 c.args.y c.ranges.y) ∙ ap (to_z w128) c.if-y-eqminus1.true in
    c.kept.ensures (neg_ℤ x) (c.overflowing_neg.ensures.value ∙ wrapping_neg_is w128 x (same_bits c.args.x c.ranges.x)) c.overflowing_neg.ensures.overflow
    ∙ ap (λ a. within c.args.kind (neg_ℤ a)) (to_z-of_z w128 c.args.x c.ranges.x)
    ∙ sym (ap (quotient c.args.kind c.args.x) minus ∙ ap (within c.args.kind) (div_minus_one c.args.x))

pub returns : goal.returns
returns c =
    c.within.ensures
    ∙ ap (within c.args.kind) (quot_is w128 c.args.x c.args.y c.ranges.x c.ranges.y (quotient_fits c.args.x c.args.y c.ranges.x (λ e. c.if-y-eqminus1.false (ap (of_z w128) e))))
    ∙ rw (not_zero c.args.y c.if-y-eq0.false) refl
