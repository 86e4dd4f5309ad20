use Rattle.std.proofs.Common.{◌≡◌, ◌≤◌, map, take}
use Rattle.sp_ir.specs.View.{node_of}
use Rattle.sp_run_indirect.specs.Texts.{count_of}
use Rattle.sp_run_indirect.proofs.lines.count_of.Given as goal

abbrev pub invariant-loop-node : goal.invariant-loop-node
invariant-loop-node l = record {
  counted : l.count ≡ count_of (map node_of (take l.node-index l.nodes));
  few : l.count ≤ l.node-index;
}
