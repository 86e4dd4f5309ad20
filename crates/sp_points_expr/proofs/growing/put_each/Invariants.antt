use Rattle.std.proofs.Common.{◌≡◌, true, take}
use Rattle.sp_points_expr.specs.Growing.{Grows, in_puts}
use Rattle.sp_points_expr.proofs.growing.put_each.Given as goal

abbrev pub invariant-loop-put : goal.invariant-loop-put
invariant-loop-put l = Grows (λ c r. in_puts (take l.put-index l.puts) c r ≡ true) l.fn.growing l.growing
