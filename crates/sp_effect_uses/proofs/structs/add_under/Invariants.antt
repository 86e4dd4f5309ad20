use Rattle.std.proofs.Common.{take, nat_eq, ◌&&◌}
use Rattle.std.specs.List.{list_any}
use Rattle.sp_effect_scene.specs.View.{analysed_of}
use Rattle.sp_points_rules.specs.Paths.{reaches}
use Rattle.sp_effect_uses.specs.Parts.{Adds}
use Rattle.sp_effect_uses.proofs.structs.add_under.Given as goal

abbrev pub invariant-loop-cell : goal.invariant-loop-cell
invariant-loop-cell l = Adds (λ r. list_any (λ x. reaches (analysed_of l.analysis).program l.region x && nat_eq r x) (take l.cell-index l.cells)) l.fn.set l.set
