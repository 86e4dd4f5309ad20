use Rattle.std.proofs.Common.{◌≡◌, ◌&&◌, true, take}
use Rattle.sp_base_sets.specs.Sets.{has}
use Rattle.sp_points_expr.specs.Growing.{Grows}
use Rattle.sp_points_expr.proofs.growing.put_all.Given as goal

abbrev pub invariant-loop-place : goal.invariant-loop-place
invariant-loop-place l = Grows (λ c r. (has c (take l.place-index l.rows) && has r l.numbers) ≡ true) l.fn.growing l.growing
