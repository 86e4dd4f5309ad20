use Rattle.std.proofs.Common.{arith, ◌&&◌, nat_eq}
use Rattle.sp_effect_scene.specs.View.{analysed_of}
use Rattle.sp_ir.specs.View.{command_of}
use Rattle.sp_effect_uses.specs.Parts.{keeps_at}
use Rattle.sp_effect_uses.proofs.Steps.{adds-begun, adds-more, adds-all}
use Rattle.sp_effect_uses.proofs.lists.add_kept.Goals as goal

pub loop-location-init : goal.loop-location-init
loop-location-init c = adds-begun (λ x r. keeps_at (analysed_of c.args.analysis.now) (command_of c.args.command.now) x && nat_eq r x) c.args.locations.now c.args.places.now

pub loop-location-preserved : goal.loop-location-preserved
loop-location-preserved c =
    adds-more (λ x r. keeps_at (analysed_of c.args.analysis.now) (command_of c.args.command.now) x && nat_eq r x) c.args.locations.now c.loop-location.location-index 0 c.args.places.now c.loop-location.places c.add_if_kept.new.places c.loop-location-test.true c.loop-location.invariant c.in_ok-add_if_kept.ensures

pub returns : goal.returns
returns c =
    (adds-all (λ x r. keeps_at (analysed_of c.args.analysis.now) (command_of c.args.command.now) x && nat_eq r x) c.args.locations.now c.loop-location.location-index c.args.places.now c.loop-location.places (omega (arith, c.loop-location-test.false)) c.loop-location.invariant)
