use Rattle.std.proofs.Common.{◌<◌, ℕ, get_or}
use Rattle.sp_ir.specs.Programs.{lowered_of}
use Rattle.sp_graph.specs.Rows.{Joins, IsLeaving}
use Rattle.sp_graph.proofs.rows.leave_each.Given as goal

abbrev pub invariant-loop-function : goal.invariant-loop-function
invariant-loop-function l = Joins (λ e. (k : ℕ) × (k < l.function-index) × IsLeaving (lowered_of l.lowered) l.nodes l.local l.node (get_or l.functions k 0) e) l.fn.rows.items l.rows.items
