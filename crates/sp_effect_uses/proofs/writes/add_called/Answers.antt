use Rattle.std.proofs.Common.{◌∙◌, ap}
use Rattle.std.specs.List.{list_any}
use Rattle.sp_base_sets.specs.Reached.{row}
use Rattle.sp_effect_rows.specs.Setting.{cell_of}
use Rattle.sp_effect_scene.specs.Analysed.{setting_of}
use Rattle.sp_effect_scene.specs.View.{analysed_of}
use Rattle.sp_effect_call.specs.Passed.{formal_has, formals_of}
use Rattle.sp_effect_uses.specs.Parts.{Adds}
use Rattle.sp_effect_uses.proofs.Steps.{changed}
use Rattle.sp_effect_uses.proofs.writes.add_called.Goals as goal

pub returns : goal.returns
returns c = λ l.
    changed (λ fs. Adds (λ r. list_any (λ f. list_any (λ o. formal_has (analysed_of c.args.analysis.now).program o r) (formals_of (analysed_of c.args.analysis.now).program f)) fs) c.args.set.now c.add_each_formals_of.new.set)
    (c.callees-functions.ensures.functions ∙ ap (λ g. row g c.args.call) c.calls.ensures)
    c.in_ok-add_each_formals_of.ensures (cell_of (setting_of (analysed_of c.args.analysis.now)) l)
