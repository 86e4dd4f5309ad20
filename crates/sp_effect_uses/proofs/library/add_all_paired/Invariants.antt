use Rattle.std.proofs.Common.{take, ◌&&◌}
use Rattle.std.specs.List.{list_any}
use Rattle.sp_effect_scene.specs.View.{analysed_of}
use Rattle.sp_points_rules.specs.Paths.{reaches, pairs}
use Rattle.sp_effect_uses.specs.Parts.{Adds}
use Rattle.sp_effect_uses.proofs.library.add_all_paired.Given as goal

abbrev pub invariant-loop-source : goal.invariant-loop-source
invariant-loop-source l = Adds (λ r. list_any (λ x. list_any (λ d. pairs (analysed_of l.analysis).program d x) l.targets && reaches (analysed_of l.analysis).program x r) (take l.source-index l.sources)) l.fn.set l.set
