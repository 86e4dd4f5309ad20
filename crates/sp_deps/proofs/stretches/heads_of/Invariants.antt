use Rattle.std.proofs.Common.{◌≡◌, length}
use Rattle.sp_deps.specs.inner.Stretches.{AreHeads}
use Rattle.sp_deps.proofs.stretches.heads_of.Given as goal

abbrev pub invariant-nodes : goal.invariant-nodes
invariant-nodes g l = record {
  long : length l.heads.items ≡ l.node;
  heads : AreHeads (g.S.System.meaning l.system) l.heads.items;
}
