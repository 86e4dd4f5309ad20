use Rattle.std.proofs.Common.{◌≡◌, take}
use Rattle.sp_points_expr.specs.Growing.{Registers}
use Rattle.sp_points_expr.proofs.growing.register.Given as goal

abbrev pub invariant-loop-place : goal.invariant-loop-place
invariant-loop-place l = record {
  same_rows : l.growing.rows ≡ l.fn.growing.rows;
  same_queue : l.growing.queue ≡ l.fn.growing.queue;
  registers : Registers (take l.place-index l.rows) l.rule l.fn.growing l.growing;
}
