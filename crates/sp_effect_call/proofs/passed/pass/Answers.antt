use Rattle.std.proofs.Common.{ℕ, map, sym, ap, ◌∙◌}
use Rattle.sp_base_sets.specs.Reached.{row}
use Rattle.sp_ir.specs.View.{expression_of}
use Rattle.sp_effect_rows.specs.Updates.{store_of}
use Rattle.sp_effect_scene.specs.View.{analysed_of}
use Rattle.sp_effect_call.specs.ArgumentView.{evaluated_of}
use Rattle.sp_effect_call.proofs.PassedSteps.{passed-row}
use Rattle.sp_effect_call.proofs.passed.pass.Goals as goal

pub returns : goal.returns
returns g c = λ l h.
    passed-row (analysed_of c.args.analysis.now) c.args.analysis.now.whole c.args.call (map expression_of c.args.args.now) (λ n. g.V.View.store c.args.view.now n) (λ (n : ℕ). store_of c.args.places.now c.args.row.now n) l
    (store_of c.args.places.now c.empty_strong.new.row l) (store_of c.args.places.now c.join_callees.new.row l) (map evaluated_of c.deref.result.now) c.callees-functions.result.now
    c.requires.proper (sym (c.requires.defs l) ∙ h) (ap (map evaluated_of) c.deref.ensures.value ∙ c.in_ok-arguments.ensures) (c.callees-functions.ensures.functions ∙ ap (λ calls. row calls c.args.call) c.calls.ensures) (c.empty_strong.ensures l h) (c.in_ok-join_callees.ensures l h)
