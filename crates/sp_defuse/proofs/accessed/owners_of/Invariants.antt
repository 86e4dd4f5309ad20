use Rattle.std.proofs.Common.{take}
use Rattle.sp_effect_scene.specs.View.{analysed_of}
use Rattle.sp_defuse.specs.Accessed.{is_touched, AddsTo}
use Rattle.sp_defuse.proofs.accessed.owners_of.Given as goal

abbrev pub invariant-loop-node : goal.invariant-loop-node
invariant-loop-node l = AddsTo (is_touched (analysed_of l.analysis) l.sharp (take l.node-index l.analysis.flow.nodes)) l.initial.sets.items l.sets.items
