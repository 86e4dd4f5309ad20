use Rattle.std.proofs.Common.{take}
use Rattle.std.specs.List.{list_any}
use Rattle.sp_effect_scene.specs.View.{analysed_of}
use Rattle.sp_lattice.specs.System.{has}
use Rattle.sp_ir.specs.View.{leaf_of}
use Rattle.sp_effect_uses.specs.Parts.{Adds, read_by}
use Rattle.sp_effect_uses.proofs.structs.add_leaves.Given as goal

abbrev pub invariant-loop-leaf : goal.invariant-loop-leaf
invariant-loop-leaf l = Adds (λ r. list_any (λ x. has r (read_by (analysed_of l.analysis) (leaf_of x).value)) (take l.leaf-index l.leaves)) l.fn.set l.set
