use Rattle.std.proofs.Common.{◌<◌, ℕ}
use Rattle.sp_ir.specs.Programs.{lowered_of}
use Rattle.sp_graph.specs.Rows.{Grows, CallsAt}
use Rattle.sp_graph.proofs.functions.lists_of.Given as goal

abbrev pub invariant-loop-node : goal.invariant-loop-node
invariant-loop-node l = Grows (λ f g. (k : ℕ) × (k < l.node) × CallsAt (lowered_of l.lowered) l.calls k f g) l.initial.lists.items l.lists.items
