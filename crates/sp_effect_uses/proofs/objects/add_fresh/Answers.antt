use Rattle.std.proofs.Common.{◌∙◌, ◌||◌, ap}
use Rattle.std.specs.List.{list_any}
use Rattle.sp_lattice.specs.System.{has}
use Rattle.sp_effect_rows.specs.Setting.{cell_of}
use Rattle.sp_effect_scene.specs.Analysed.{setting_of}
use Rattle.sp_effect_scene.specs.View.{analysed_of}
use Rattle.sp_effect_uses.proofs.Owned.{own_at, fresh-picked}
use Rattle.sp_effect_uses.proofs.objects.add_fresh.Goals as goal

pub returns : goal.returns
returns c = λ l.
    c.in_ok-add_each_fresh.ensures (cell_of (setting_of (analysed_of c.args.analysis.now)) l)
    ∙ ap (λ xs. has (cell_of (setting_of (analysed_of c.args.analysis.now)) l) c.args.set.now || list_any (own_at (analysed_of c.args.analysis.now) c.args.analysis.now.whole c.args.function (cell_of (setting_of (analysed_of c.args.analysis.now)) l)) xs) c.row-cells.ensures
    ∙ ap (λ b. has (cell_of (setting_of (analysed_of c.args.analysis.now)) l) c.args.set.now || b) (fresh-picked (analysed_of c.args.analysis.now) c.args.analysis.now.whole c.args.locals.now c.requires c.args.function l)
