use Rattle.std.proofs.Common.{◌∙◌, sym}
use Rattle.sp_lattice.specs.System.{has}
use Rattle.sp_points_rules.specs.Paths.{reaches}
use Rattle.sp_points_rules.specs.Sources.{result_of}
use Rattle.sp_effect_scene.specs.View.{analysed_of}
use Rattle.sp_effect_call.specs.Returns.{result_cells}
use Rattle.sp_effect_uses.proofs.Steps.{adds-as}
use Rattle.sp_effect_uses.proofs.Picked.{result-under}
use Rattle.sp_effect_uses.proofs.structs.add_result.Goals as goal

pub returns-in_ok-add_under-in-Some : goal.returns-in_ok-add_under-in-Some
returns-in_ok-add_under-in-Some c =
    adds-as (reaches (analysed_of c.args.analysis.now).program c.root_of.result) (λ r. has r (result_cells (analysed_of c.args.analysis.now).program (result_of (analysed_of c.args.analysis.now).program c.args.function))) c.args.set.now c.add_under.new.set
    (result-under (analysed_of c.args.analysis.now).program c.args.function c.in-Some.object c.root_of.result (sym c.in-Some.is ∙ c.result_of.ensures) c.root_of.ensures)
    c.in_ok-add_under-in-Some.ensures
