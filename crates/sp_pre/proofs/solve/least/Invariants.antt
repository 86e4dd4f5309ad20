use Rattle.std.proofs.Common.{◌+◌, ◌-◌, ◌*◌, length}
use Rattle.sp_ir.specs.Programs.{lowered_of}
use Rattle.sp_points_expr.specs.Growing.{size, Working}
use Rattle.sp_points_rules.specs.Puts.{rules_of}
use Rattle.sp_pre.proofs.solve.least.Given as goal

abbrev pub invariant-nodes : goal.invariant-nodes
invariant-nodes l =
    let p = lowered_of l.lowered in
    Working (rules_of p) (length p.regions) (length p.nodes) (length p.nodes) l.growing

abbrev pub decreases-nodes : goal.decreases-nodes
decreases-nodes l =
    let p = lowered_of l.lowered in
    (length p.regions * length p.regions - size l.growing) * (length p.nodes + 1) + length l.growing.queue.numbers
