use Rattle.std.proofs.Common.{arith, not, ◌&&◌, nat_eq}
use Rattle.sp_lattice.specs.System.{has}
use Rattle.sp_effect_uses.proofs.Steps.{adds-begun, adds-more, adds-all}
use Rattle.sp_effect_uses.proofs.cuts.add_all_unwritten.Goals as goal

pub loop-location-init : goal.loop-location-init
loop-location-init c = adds-begun (λ x r. not (has x c.args.written.now) && nat_eq r x) c.args.locations.now c.args.places.now

pub loop-location-preserved : goal.loop-location-preserved
loop-location-preserved c =
    adds-more (λ x r. not (has x c.args.written.now) && nat_eq r x) c.args.locations.now c.loop-location.location-index 0 c.args.places.now c.loop-location.places c.add_unwritten.new.places c.loop-location-test.true c.loop-location.invariant c.in_ok-add_unwritten.ensures

pub returns : goal.returns
returns c =
    (adds-all (λ x r. not (has x c.args.written.now) && nat_eq r x) c.args.locations.now c.loop-location.location-index c.args.places.now c.loop-location.places (omega (arith, c.loop-location-test.false)) c.loop-location.invariant)
