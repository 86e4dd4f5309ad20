use Rattle.std.proofs.Common.{take}
use Rattle.std.specs.List.{list_any}
use Rattle.sp_effect_scene.specs.View.{analysed_of}
use Rattle.sp_effect_call.specs.Passed.{formal_has, formals_of}
use Rattle.sp_effect_uses.specs.Parts.{Adds}
use Rattle.sp_effect_uses.proofs.writes.add_each_formals_of.Given as goal

abbrev pub invariant-loop-function : goal.invariant-loop-function
invariant-loop-function l = Adds (λ r. list_any (λ x. list_any (λ o. formal_has (analysed_of l.analysis).program o r) (formals_of (analysed_of l.analysis).program x)) (take l.function-index l.functions)) l.fn.set l.set
