use Rattle.std.proofs.Common.{◌≡◌, ◌++◌, ◌<◌, ℕ, drop}
use Rattle.sp_ir.specs.Programs.{lowered_of}
use Rattle.sp_base_sets.specs.Sets.{Ascends}
use Rattle.sp_base_sets.specs.Reached.{row}
use Rattle.sp_run_indirect.specs.Texts.{lines_from}
use Rattle.sp_run_indirect.proofs.lines.lines_of.Given as goal

-- the lines so far and those to come are all; the callees so far ascend
abbrev pub invariant-loop-k : goal.invariant-loop-k
invariant-loop-k l = record {
  told : l.text.items
      ++ lines_from l.names (lowered_of l.lowered) l.calls l.k (drop l.k (lowered_of l.lowered).nodes)
      ≡ lines_from l.names (lowered_of l.lowered) l.calls 0 (lowered_of l.lowered).nodes;
  in_order : (n : ℕ) → n < l.k → Ascends (row l.calls n);
}
