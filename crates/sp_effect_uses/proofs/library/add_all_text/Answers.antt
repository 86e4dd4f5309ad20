use Rattle.std.proofs.Common.{arith, nat_eq, ◌&&◌}
use Rattle.sp_ir.specs.Programs.{lowered_of}
use Rattle.sp_points_rules.specs.Paths.{is_text}
use Rattle.sp_effect_uses.proofs.Steps.{adds-begun, adds-more, adds-all}
use Rattle.sp_effect_uses.proofs.library.add_all_text.Goals as goal

pub loop-region-init : goal.loop-region-init
loop-region-init c = adds-begun (λ x r. is_text (lowered_of c.args.lowered.now) x && nat_eq x r) c.args.regions.now c.args.set.now

pub loop-region-preserved : goal.loop-region-preserved
loop-region-preserved c =
    adds-more (λ x r. is_text (lowered_of c.args.lowered.now) x && nat_eq x r) c.args.regions.now c.loop-region.region-index 0 c.args.set.now c.loop-region.set c.add_text.new.set c.loop-region-test.true c.loop-region.invariant c.in_ok-add_text.ensures

pub returns : goal.returns
returns c =
    (adds-all (λ x r. is_text (lowered_of c.args.lowered.now) x && nat_eq x r) c.args.regions.now c.loop-region.region-index c.args.set.now c.loop-region.set (omega (arith, c.loop-region-test.false)) c.loop-region.invariant)
