use Rattle.std.proofs.Common.{take}
use Rattle.std.specs.List.{list_any}
use Rattle.sp_effect_scene.specs.View.{analysed_of}
use Rattle.sp_lattice.specs.System.{has}
use Rattle.sp_ir.specs.Programs.{object_of}
use Rattle.sp_effect_scene.specs.Analysed.{scene_of}
use Rattle.sp_effect_entry.specs.Initials.{leaf_reads}
use Rattle.sp_effect_uses.specs.Parts.{Adds}
use Rattle.sp_effect_uses.proofs.structs.add_starts.Given as goal

abbrev pub invariant-loop-object : goal.invariant-loop-object
invariant-loop-object l = Adds (λ r. list_any (λ x. has r (leaf_reads (scene_of (analysed_of l.analysis)) (object_of x).start)) (take l.object-index l.objects)) l.fn.set l.set
