use Rattle.sp_effect_scene.specs.View.{analysed_of}
use Rattle.sp_transfer.specs.Effects.{used_at}
use Rattle.sp_effect_uses.proofs.Listed.{are-locations}
use Rattle.sp_effect_uses.proofs.lists.uses.Goals as goal

pub returns : goal.returns
returns c =
    are-locations (analysed_of c.args.analysis.now) (used_at (analysed_of c.args.analysis.now) c.args.node) c.in_ok-places.places c.in_ok-list.list.items c.in_ok-list.ensures.numbers c.in_ok-list.ensures.ascending
    c.in_ok-places.ensures.places c.in_ok-places.ensures.low
