use Rattle.std.proofs.Common.{arith, ◌&&◌}
use Rattle.std.specs.List.{list_any}
use Rattle.sp_effect_scene.specs.View.{analysed_of}
use Rattle.sp_points_rules.specs.Paths.{reaches, pairs}
use Rattle.sp_effect_uses.proofs.Steps.{adds-begun, adds-more, adds-all}
use Rattle.sp_effect_uses.proofs.library.add_all_paired.Goals as goal

pub loop-source-init : goal.loop-source-init
loop-source-init c = adds-begun (λ x r. list_any (λ d. pairs (analysed_of c.args.analysis.now).program d x) c.args.targets.now && reaches (analysed_of c.args.analysis.now).program x r) c.args.sources.now c.args.set.now

pub loop-source-preserved : goal.loop-source-preserved
loop-source-preserved c =
    adds-more (λ x r. list_any (λ d. pairs (analysed_of c.args.analysis.now).program d x) c.args.targets.now && reaches (analysed_of c.args.analysis.now).program x r) c.args.sources.now c.loop-source.source-index 0 c.args.set.now c.loop-source.set c.add_paired.new.set c.loop-source-test.true c.loop-source.invariant c.in_ok-add_paired.ensures

pub returns : goal.returns
returns c =
    (adds-all (λ x r. list_any (λ d. pairs (analysed_of c.args.analysis.now).program d x) c.args.targets.now && reaches (analysed_of c.args.analysis.now).program x r) c.args.sources.now c.loop-source.source-index c.args.set.now c.loop-source.set (omega (arith, c.loop-source-test.false)) c.loop-source.invariant)
