use Rattle.std.proofs.Common.{◌≡◌, true, take}
use Rattle.sp_base_sets.specs.Sets.{has, Images}
use Rattle.sp_base_sets.specs.Reached.{row}
use Rattle.sp_points_expr.proofs.steps.contents.Given as goal

abbrev pub invariant-loop-cell : goal.invariant-loop-cell
invariant-loop-cell l = Images (λ c r. has r (row l.rows c) ≡ true) (take l.cell-index l.numbers) l.set
