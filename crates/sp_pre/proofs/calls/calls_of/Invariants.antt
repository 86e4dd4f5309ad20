use Rattle.std.proofs.Common.{◌≡◌, ◌<◌, ℕ, length}
use Rattle.sp_ir.specs.Programs.{lowered_of}
use Rattle.sp_base_sets.specs.Reached.{row}
use Rattle.sp_pre.proofs.Calling.{ExactAt}
use Rattle.sp_pre.proofs.calls.calls_of.Given as goal

abbrev pub invariant-loop-node : goal.invariant-loop-node
invariant-loop-node l = record {
  long : length l.lists.items ≡ l.node;
  exact : (n : ℕ) → n < l.node → ExactAt (lowered_of l.lowered) (row l.rows) n (row l.lists.items n);
}
