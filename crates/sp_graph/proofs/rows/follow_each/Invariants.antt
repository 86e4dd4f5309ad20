use Rattle.std.proofs.Common.{◌<◌, ℕ}
use Rattle.sp_graph.specs.Rows.{Joins, IsInside}
use Rattle.sp_graph.proofs.rows.follow_each.Given as goal

abbrev pub invariant-loop-from : goal.invariant-loop-from
invariant-loop-from l = Joins (λ e. (k : ℕ) × (k < l.from-index) × IsInside l.nodes l.flow k e) l.fn.rows.items l.rows.items
