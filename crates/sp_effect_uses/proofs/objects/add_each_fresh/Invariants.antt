use Rattle.std.proofs.Common.{take, ◌&&◌, nat_eq}
use Rattle.std.specs.List.{list_any}
use Rattle.sp_effect_scene.specs.View.{analysed_of}
use Rattle.std.specs.Prelude.{slice_get, not}
use Rattle.sp_effect_scene.specs.Analysed.{is_summary}
use Rattle.sp_effect_entry.specs.Entries.{fresh_at}
use Rattle.sp_effect_uses.specs.Parts.{Adds}
use Rattle.sp_effect_uses.proofs.objects.add_each_fresh.Given as goal

abbrev pub invariant-loop-cell : goal.invariant-loop-cell
invariant-loop-cell l = Adds (λ r. list_any (λ x. (fresh_at (analysed_of l.analysis).program l.function (slice_get (analysed_of l.analysis).program.regions x) && not (is_summary (analysed_of l.analysis).program (analysed_of l.analysis).told x)) && nat_eq r x) (take l.cell-index l.cells)) l.fn.set l.set
