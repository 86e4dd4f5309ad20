use Rattle.std.proofs.Common.{◌∙◌, ◌||◌, ap}
use Rattle.sp_lattice.specs.System.{has}
use Rattle.sp_effect_rows.specs.Setting.{cell_of}
use Rattle.sp_effect_scene.specs.Analysed.{setting_of}
use Rattle.sp_effect_scene.specs.View.{analysed_of}
use Rattle.sp_transfer.specs.Effects.{own_at}
use Rattle.sp_effect_uses.proofs.lists.own_at.Goals as goal

pub returns : goal.returns
returns c = record {
  places = λ l. c.in_ok-places.ensures.places l ∙ c.in_ok-add_own.ensures l ∙ ap (λ ns. has (cell_of (setting_of (analysed_of c.args.analysis.now)) l) ns || own_at (analysed_of c.args.analysis.now) c.args.node l) c.new-regions.ensures;
  low = c.in_ok-places.ensures.low;
}
