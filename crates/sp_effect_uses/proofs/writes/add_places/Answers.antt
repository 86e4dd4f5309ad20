use Rattle.std.proofs.Common.{◌∙◌, ap}
use Rattle.sp_lattice.specs.System.{has}
use Rattle.sp_ir.specs.View.{lvalue_of}
use Rattle.sp_effect_scene.specs.View.{analysed_of}
use Rattle.sp_effect_uses.specs.Parts.{assigned_at}
use Rattle.sp_effect_uses.proofs.Steps.{adds-as}
use Rattle.sp_effect_uses.proofs.Stored.{placed_at, places-same}
use Rattle.sp_effect_uses.proofs.writes.add_places.Goals as goal

pub returns : goal.returns
returns c =
    adds-as (placed_at (analysed_of c.args.analysis.now) (lvalue_of c.args.to.now) c.as_slice.result.now) (assigned_at (analysed_of c.args.analysis.now) (lvalue_of c.args.to.now)) c.args.set.now c.add_each_place.new.set
    (places-same (analysed_of c.args.analysis.now) (lvalue_of c.args.to.now) c.as_slice.result.now (λ x. ap (has x) c.as_slice.ensures.numbers ∙ c.in_ok-regions.ensures x))
    c.in_ok-add_each_place.ensures
