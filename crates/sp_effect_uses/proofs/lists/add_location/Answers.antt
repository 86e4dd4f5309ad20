use Rattle.sp_effect_scene.specs.View.{analysed_of}
use Rattle.sp_effect_uses.proofs.Listed.{located, unlocated, region-low}
use Rattle.sp_effect_uses.proofs.lists.add_location.Goals as goal

pub returns-in_ok-add-in-Some : goal.returns-in_ok-add-in-Some
returns-in_ok-add-in-Some c = record {
  places = located (analysed_of c.args.analysis.now) c.args.region c.in-Some.location c.args.places.now c.add.new.self c.in-Some.ensures.some c.in_ok-add-in-Some.ensures.numbers;
  low = λ l h. region-low (analysed_of c.args.analysis.now) c.args.region l c.ranges.region.fits h;
}

pub returns-in-None : goal.returns-in-None
returns-in-None c = record {
  places = unlocated (analysed_of c.args.analysis.now) c.args.region c.args.places.now c.in-None.ensures.none;
  low = λ l h. region-low (analysed_of c.args.analysis.now) c.args.region l c.ranges.region.fits h;
}
