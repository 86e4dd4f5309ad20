use Rattle.std.proofs.Common.{take}
use Rattle.sp_defuse.specs.Sources.{AreGroups}
use Rattle.sp_defuse.proofs.groups.groups_of.Given as goal

abbrev pub invariant-loop-edge : goal.invariant-loop-edge
invariant-loop-edge l = AreGroups l.flow.nodes l.places (take l.edge-index l.edge-items) l.groups.items
