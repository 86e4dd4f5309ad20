use Rattle.std.proofs.Common.{arith, ◌&&◌, nat_eq}
use Rattle.std.specs.Prelude.{slice_get}
use Rattle.sp_ir.specs.Programs.{lowered_of}
use Rattle.sp_effect_entry.specs.Initials.{is_of}
use Rattle.sp_effect_uses.proofs.Steps.{adds-begun, adds-more, adds-all}
use Rattle.sp_effect_uses.proofs.objects.add_each_of.Goals as goal

pub loop-region-init : goal.loop-region-init
loop-region-init c = adds-begun (λ x r. is_of c.args.object (slice_get (lowered_of c.args.lowered.now).regions x) && nat_eq r x) c.args.regions.now c.args.set.now

pub loop-region-preserved : goal.loop-region-preserved
loop-region-preserved c =
    adds-more (λ x r. is_of c.args.object (slice_get (lowered_of c.args.lowered.now).regions x) && nat_eq r x) c.args.regions.now c.loop-region.region-index 0 c.args.set.now c.loop-region.set c.add_if_of.new.set c.loop-region-test.true c.loop-region.invariant c.in_ok-add_if_of.ensures

pub returns : goal.returns
returns c =
    (adds-all (λ x r. is_of c.args.object (slice_get (lowered_of c.args.lowered.now).regions x) && nat_eq r x) c.args.regions.now c.loop-region.region-index c.args.set.now c.loop-region.set (omega (arith, c.loop-region-test.false)) c.loop-region.invariant)
