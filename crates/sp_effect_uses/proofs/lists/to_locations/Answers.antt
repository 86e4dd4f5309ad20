use Rattle.std.proofs.Common.{◌∙◌, ◌||◌, nat_eq, ap}
use Rattle.std.specs.List.{list_any}
use Rattle.sp_lattice.specs.System.{has}
use Rattle.sp_effect_rows.specs.Setting.{cell_of, count}
use Rattle.sp_effect_scene.specs.Analysed.{setting_of}
use Rattle.sp_effect_scene.specs.View.{analysed_of}
use Rattle.sp_effect_uses.proofs.Listed.{any-has, none-low}
use Rattle.sp_effect_uses.proofs.lists.to_locations.Goals as goal

pub add_locations-requires : goal.add_locations-requires
add_locations-requires c = none-low (count (setting_of (analysed_of c.args.analysis.now))) c.new-places.result c.new-places.ensures

pub returns : goal.returns
returns c = record {
  places = λ l.
      c.in_ok-add_locations.ensures.places l
      ∙ ap (λ ns. has l ns || list_any (λ x. nat_eq x (cell_of (setting_of (analysed_of c.args.analysis.now)) l)) c.as_slice.result.now) c.new-places.ensures
      ∙ any-has (cell_of (setting_of (analysed_of c.args.analysis.now)) l) c.as_slice.result.now
      ∙ ap (has (cell_of (setting_of (analysed_of c.args.analysis.now)) l)) c.as_slice.ensures.numbers;
  low = c.in_ok-add_locations.ensures.low;
}
