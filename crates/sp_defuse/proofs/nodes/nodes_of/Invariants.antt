use Rattle.std.proofs.Common.{take}
use Rattle.sp_effect_scene.specs.View.{analysed_of}
use Rattle.sp_defuse.specs.Nodes.{AreNodes}
use Rattle.sp_defuse.proofs.nodes.nodes_of.Given as goal

abbrev pub invariant-loop-number : goal.invariant-loop-number
invariant-loop-number l = AreNodes (analysed_of l.analysis) l.sharp (take l.number-index l.number-items) l.nodes.items
