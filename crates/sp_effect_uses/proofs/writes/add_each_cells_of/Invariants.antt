use Rattle.std.proofs.Common.{take}
use Rattle.std.specs.List.{list_any}
use Rattle.sp_effect_scene.specs.View.{analysed_of}
use Rattle.std.proofs.Common.{Some}
use Rattle.sp_types.specs.View.{type_of}
use Rattle.sp_effect_call.specs.Copied.{has_cell}
use Rattle.sp_effect_uses.specs.Parts.{Adds}
use Rattle.sp_effect_uses.proofs.writes.add_each_cells_of.Given as goal

abbrev pub invariant-loop-region : goal.invariant-loop-region
invariant-loop-region l = Adds (λ r. list_any (λ x. has_cell (analysed_of l.analysis).program (Some (type_of l.of)) x r) (take l.region-index l.regions)) l.fn.set l.set
