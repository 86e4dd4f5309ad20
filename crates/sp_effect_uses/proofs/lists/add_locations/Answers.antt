use Rattle.std.proofs.Common.{nat_eq, get_or, arith}
use Rattle.sp_effect_rows.specs.Setting.{count, cell_of}
use Rattle.sp_effect_scene.specs.Analysed.{setting_of}
use Rattle.sp_effect_scene.specs.View.{analysed_of}
use Rattle.sp_effect_uses.proofs.Steps.{adds-begun, adds-more, adds-all}
use Rattle.sp_effect_uses.proofs.Listed.{low-more}
use Rattle.sp_effect_uses.proofs.lists.add_locations.Goals as goal

pub loop-region-init : goal.loop-region-init
loop-region-init c = (adds-begun (λ x r. nat_eq x (cell_of (setting_of (analysed_of c.args.analysis.now)) r)) c.args.regions.now c.args.places.now, c.requires)

pub loop-region-preserved : goal.loop-region-preserved
loop-region-preserved c = (
  adds-more (λ x r. nat_eq x (cell_of (setting_of (analysed_of c.args.analysis.now)) r)) c.args.regions.now c.loop-region.region-index 0 c.args.places.now c.loop-region.places c.add_location.new.places c.loop-region-test.true c.loop-region.invariant.0 c.in_ok-add_location.ensures.places,
  low-more (count (setting_of (analysed_of c.args.analysis.now))) (λ r. nat_eq (get_or c.args.regions.now c.loop-region.region-index 0) (cell_of (setting_of (analysed_of c.args.analysis.now)) r)) c.loop-region.places c.add_location.new.places c.loop-region.invariant.1 c.in_ok-add_location.ensures.places c.in_ok-add_location.ensures.low,
)

pub returns : goal.returns
returns c = record {
  places = adds-all (λ x r. nat_eq x (cell_of (setting_of (analysed_of c.args.analysis.now)) r)) c.args.regions.now c.loop-region.region-index c.args.places.now c.loop-region.places (omega (arith, c.loop-region-test.false)) c.loop-region.invariant.0;
  low = c.loop-region.invariant.1;
}
