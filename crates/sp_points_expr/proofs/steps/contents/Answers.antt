use Rattle.std.proofs.Common.{◌≡◌, true}
use Rattle.sp_base_sets.specs.Sets.{has}
use Rattle.sp_base_sets.specs.Reached.{row}
use Rattle.sp_base_sets.proofs.Images.{images_more}
use Rattle.sp_points_expr.proofs.steps.contents.Goals as goal

pub loop-cell-preserved : goal.loop-cell-preserved
loop-cell-preserved c =
    images_more (λ k r. has r (row c.args.rows.now k) ≡ true) c.as_slice-numbers.result.now c.loop-cell.cell-index c.loop-cell.set c.add_content.new.set c.loop-cell-test.true c.loop-cell.invariant c.in_ok-add_content.ensures
