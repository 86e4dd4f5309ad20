use Rattle.std.proofs.Common.{◌<◌, ℕ}
use Rattle.sp_ir.specs.Programs.{lowered_of}
use Rattle.sp_graph.specs.Rows.{Joins, Crosses}
use Rattle.sp_graph.proofs.rows.cross_each.Given as goal

abbrev pub invariant-loop-node : goal.invariant-loop-node
invariant-loop-node l = Joins (λ e. (k : ℕ) × (k < l.node) × Crosses (lowered_of l.lowered) l.nodes l.calls l.local k e) l.fn.rows.items l.rows.items
