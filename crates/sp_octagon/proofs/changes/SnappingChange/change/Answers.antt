use Rattle.std.proofs.Common.{rules, FitsSigned, ◌∙◌, ap, ℤ, arith}
use Rattle.std.specs.Int.{w128}
use Rattle.std.proofs.lemmas.Int.{to_z-of_z, ints}
use Rattle.sp_octagon.proofs.Numbers.{half-is}
use Rattle.sp_octagon.specs.Entries.{doubled, half}
use Rattle.sp_octagon.proofs.ChangeLaws.{snapped_unary}
use Rattle.sp_octagon.proofs.changes.SnappingChange.change.Goals as goal

half_fits_too : (z : ℤ) → FitsSigned w128 z → FitsSigned w128 (half z)
half_fits_too z h = omega (arith, ints, half-is z, h)

pub returns-then-column-negative : goal.returns-then-column-negative
returns-then-column-negative c =
    let bound_fits : FitsSigned w128 c.args.bound = search rules in
    let half_fits : FitsSigned w128 (half c.args.bound) = half_fits_too c.args.bound bound_fits in
    let snap_fits : FitsSigned w128 c.snap_bound.result = search rules in
    let double_fits : FitsSigned w128 c.double.result = search rules in
    let twice = simp to_z-of_z at c.double.ensures in
    let snapped = simp to_z-of_z at c.snap_bound.ensures.value in
    simp to_z-of_z (twice ∙ ap doubled snapped ∙ snapped_unary c.args.self.now.ladder.now c.args.row c.args.column c.args.bound c.if-row-column.false (c.if-column-negative.true ∙ c.negative.ensures))
