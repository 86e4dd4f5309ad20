use Rattle.std.proofs.Common.{take}
use Rattle.std.specs.List.{list_any}
use Rattle.sp_effect_scene.specs.View.{analysed_of}
use Rattle.sp_ir.specs.View.{expression_of}
use Rattle.sp_points_rules.specs.Puts.{as_struct}
use Rattle.sp_lattice.specs.System.{has}
use Rattle.sp_effect_call.specs.Copies.{argument_reads}
use Rattle.sp_effect_uses.specs.Parts.{Adds}
use Rattle.sp_effect_uses.proofs.structs.add_arguments.Given as goal

abbrev pub invariant-loop-arg : goal.invariant-loop-arg
invariant-loop-arg l = Adds (λ r. list_any (λ x. has r (argument_reads (analysed_of l.analysis) (expression_of x) (as_struct (expression_of x)))) (take l.arg-index l.args)) l.fn.set l.set
