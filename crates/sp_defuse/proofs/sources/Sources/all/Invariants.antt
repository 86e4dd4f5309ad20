use Rattle.std.proofs.Common.{take}
use Rattle.sp_defuse.specs.Sources.{AreSources}
use Rattle.sp_defuse.proofs.sources.Sources.all.Given as goal

abbrev pub invariant-loop-node : goal.invariant-loop-node
invariant-loop-node l = AreSources l.flow (take l.node-index l.node-items) l.all.items
