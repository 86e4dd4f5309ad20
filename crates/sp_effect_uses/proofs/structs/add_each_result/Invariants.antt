use Rattle.std.proofs.Common.{take}
use Rattle.std.specs.List.{list_any}
use Rattle.sp_effect_scene.specs.View.{analysed_of}
use Rattle.sp_lattice.specs.System.{has}
use Rattle.sp_points_rules.specs.Sources.{result_of}
use Rattle.sp_effect_call.specs.Returns.{result_cells}
use Rattle.sp_effect_uses.specs.Parts.{Adds}
use Rattle.sp_effect_uses.proofs.structs.add_each_result.Given as goal

abbrev pub invariant-loop-function : goal.invariant-loop-function
invariant-loop-function l = Adds (λ r. list_any (λ x. has r (result_cells (analysed_of l.analysis).program (result_of (analysed_of l.analysis).program x))) (take l.function-index l.functions)) l.fn.set l.set
