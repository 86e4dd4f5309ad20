use Rattle.std.proofs.Common.{◌≡◌, ◌&&◌, ℕ}
use Rattle.std.specs.Prelude.{nat_lt}
use Rattle.sp_ir.specs.Programs.{lowered_of}
use Rattle.sp_base_sets.specs.Sets.{has}
use Rattle.sp_graph.specs.Calls.{function_of}
use Rattle.sp_graph.specs.Rows.{is_inside}
use Rattle.sp_graph.proofs.flow.nodes_of.Given as goal

abbrev pub invariant-loop-node : goal.invariant-loop-node
invariant-loop-node l = (n : ℕ) → has n l.nodes ≡ (nat_lt n l.node && is_inside l.is_reached (function_of (lowered_of l.lowered) n))
