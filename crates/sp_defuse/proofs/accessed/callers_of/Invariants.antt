use Rattle.std.proofs.Common.{take}
use Rattle.sp_effect_scene.specs.View.{analysed_of}
use Rattle.sp_defuse.specs.Accessed.{is_called, AddsTo}
use Rattle.sp_defuse.proofs.accessed.callers_of.Given as goal

abbrev pub invariant-loop-node : goal.invariant-loop-node
invariant-loop-node l = AddsTo (is_called (analysed_of l.analysis) (take l.node-index l.nodes)) l.initial.sets.items l.sets.items
