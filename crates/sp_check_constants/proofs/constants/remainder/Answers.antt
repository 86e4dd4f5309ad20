use Rattle.std.proofs.Common.{ap, ◌∙◌, refl, to_z, of_z}
use Rattle.std.specs.Int.{w128}
use Rattle.std.proofs.lemmas.Int.{rem_is}
use Rattle.sp_check_constants.specs.Constants.{within}
use Rattle.sp_check_constants.proofs.Wrapping.{not_zero}
use Rattle.sp_check_constants.proofs.constants.remainder.Goals as goal

pub returns : goal.returns
returns c =
    c.within.ensures
    ∙ ap (λ r. within c.args.kind (to_z w128 (of_z w128 r))) c.overflowing_rem.ensures.value
    ∙ ap (within c.args.kind) (rem_is w128 c.args.x c.args.y c.ranges.x c.ranges.y)
    ∙ rw (not_zero c.args.y c.if-y-eq0.false) refl
