use Rattle.std.proofs.Common.{sym, arith}
use Rattle.std.specs.List.{list_any}
use Rattle.sp_effect_scene.specs.View.{analysed_of}
use Rattle.sp_lattice.specs.System.{has}
use Rattle.sp_points_rules.specs.Sources.{result_of}
use Rattle.sp_effect_call.specs.Returns.{result_cells}
use Rattle.std.specs.Prelude.{flat_map}
use Rattle.sp_effect_uses.proofs.Steps.{adds-begun, adds-more, adds-all, adds-as, has-flat_map}
use Rattle.sp_effect_uses.proofs.structs.add_each_result.Goals as goal

pub loop-function-init : goal.loop-function-init
loop-function-init c = adds-begun (λ x r. has r (result_cells (analysed_of c.args.analysis.now).program (result_of (analysed_of c.args.analysis.now).program x))) c.args.functions.now c.args.set.now

pub loop-function-preserved : goal.loop-function-preserved
loop-function-preserved c =
    adds-more (λ x r. has r (result_cells (analysed_of c.args.analysis.now).program (result_of (analysed_of c.args.analysis.now).program x))) c.args.functions.now c.loop-function.function-index 0 c.args.set.now c.loop-function.set c.add_result.new.set c.loop-function-test.true c.loop-function.invariant c.in_ok-add_result.ensures

pub returns : goal.returns
returns c =
    adds-as (λ r. list_any (λ x. has r (result_cells (analysed_of c.args.analysis.now).program (result_of (analysed_of c.args.analysis.now).program x))) c.args.functions.now) (λ r. has r (flat_map (λ f. result_cells (analysed_of c.args.analysis.now).program (result_of (analysed_of c.args.analysis.now).program f)) c.args.functions.now)) c.args.set.now c.loop-function.set
    (λ r. sym (has-flat_map (λ f. result_cells (analysed_of c.args.analysis.now).program (result_of (analysed_of c.args.analysis.now).program f)) c.args.functions.now r))
    (adds-all (λ x r. has r (result_cells (analysed_of c.args.analysis.now).program (result_of (analysed_of c.args.analysis.now).program x))) c.args.functions.now c.loop-function.function-index c.args.set.now c.loop-function.set (omega (arith, c.loop-function-test.false)) c.loop-function.invariant)
