use Rattle.std.proofs.Common.{◌∙◌, ap, arith, to_z, of_z}
use Rattle.std.proofs.Math.IntN.{neg_ℤ}
use Rattle.std.specs.Int.{w128}
use Rattle.std.proofs.lemmas.Int.{wrapping_neg_is, to_z-of_z, ints}
use Rattle.sp_check_constants.specs.Constants.{within}
use Rattle.sp_check_constants.proofs.Wrapping.{same_bits}
use Rattle.sp_check_constants.proofs.constants.negated.Goals as goal

pub returns-in-Minus : goal.returns-in-Minus
returns-in-Minus c =
    let z = to_z w128 (of_z w128 c.args.z) in
    rw c.in-Minus.is
    (c.kept.ensures (neg_ℤ z) (c.overflowing_neg.ensures.value ∙ wrapping_neg_is w128 z (same_bits c.args.z c.ranges.z)) c.overflowing_neg.ensures.overflow
    ∙ ap (λ a. within c.args.kind (neg_ℤ a)) (to_z-of_z w128 c.args.z c.ranges.z))

pub returns-in-Tilde : goal.returns-in-Tilde
returns-in-Tilde c = rw c.in-Tilde.is (c.within.ensures ∙ ap (within c.args.kind) (omega (arith, ints, c.ranges.z)))
