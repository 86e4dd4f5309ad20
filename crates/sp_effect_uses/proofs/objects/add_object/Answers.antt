use Rattle.std.proofs.Common.{◌∙◌, ◌||◌, ap}
use Rattle.std.specs.List.{list_any}
use Rattle.sp_lattice.specs.System.{has}
use Rattle.sp_effect_rows.specs.Setting.{cell_of}
use Rattle.sp_effect_scene.specs.Analysed.{setting_of}
use Rattle.sp_effect_scene.specs.View.{analysed_of}
use Rattle.sp_base_sets.specs.Reached.{row}
use Rattle.sp_effect_uses.proofs.Owned.{of_at, object-picked}
use Rattle.sp_effect_uses.proofs.objects.add_object.Goals as goal

pub returns : goal.returns
returns c = λ l.
    c.in_ok-add_each_of.ensures (cell_of (setting_of (analysed_of c.args.analysis.now)) l)
    ∙ ap (λ xs. has (cell_of (setting_of (analysed_of c.args.analysis.now)) l) c.args.set.now || list_any (of_at (analysed_of c.args.analysis.now) c.args.analysis.now.whole c.args.object (cell_of (setting_of (analysed_of c.args.analysis.now)) l)) xs) (c.row-regions.ensures ∙ ap (λ gs. row gs c.args.object) c.deref.ensures.value)
    ∙ ap (λ b. has (cell_of (setting_of (analysed_of c.args.analysis.now)) l) c.args.set.now || b) (object-picked (analysed_of c.args.analysis.now) c.args.analysis.now.whole c.args.analysis.now.groups c.args.analysis.now.grouped c.args.object l)
