use Rattle.std.proofs.Common.{◌∙◌, ◌-ℤ◌, to_z, of_z}
use Rattle.std.specs.Int.{w128}
use Rattle.std.proofs.lemmas.Int.{wrapping_sub_is}
use Rattle.sp_check_constants.proofs.Wrapping.{settled, same_bits}
use Rattle.sp_check_constants.proofs.constants.difference.Goals as goal

pub returns : goal.returns
returns c =
    let x = to_z w128 (of_z w128 c.args.x) in
    let y = to_z w128 (of_z w128 c.args.y) in
    settled c.args.kind c.kept.result (λ a b. a -ℤ b) c.args.x c.args.y c.ranges.x c.ranges.y
    (c.kept.ensures (x -ℤ y) (c.overflowing_sub.ensures.value ∙ wrapping_sub_is w128 x y (same_bits c.args.x c.ranges.x) (same_bits c.args.y c.ranges.y)) c.overflowing_sub.ensures.overflow)
