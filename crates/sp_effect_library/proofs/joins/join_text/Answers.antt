use Rattle.std.proofs.Common.{sym, ◌∙◌}
use Rattle.sp_effect_rows.specs.Updates.{store_of}
use Rattle.sp_effect_scene.specs.View.{analysed_of}
use Rattle.sp_effect_library.proofs.JoinSteps.{text-joined, no-text}
use Rattle.sp_effect_library.proofs.joins.join_text.Goals as goal

pub returns-in_ok-join_to : goal.returns-in_ok-join_to
returns-in_ok-join_to g c = λ l h.
    text-joined (analysed_of c.args.analysis.now) (g.G.Gives.slots c.args.gives.now) c.args.region l (store_of c.args.places.now c.args.row.now l) (store_of c.args.places.now c.join_to.new.row l)
    c.in_ok-slot.slot c.in_ok-slot.ensures (sym c.is_text.ensures ∙ c.if-is_text.true) (c.in_ok-join_to.ensures l h)

pub returns-else-is_text : goal.returns-else-is_text
returns-else-is_text g c = λ l h.
    no-text (analysed_of c.args.analysis.now) (g.G.Gives.slots c.args.gives.now) c.args.region l (store_of c.args.places.now c.args.row.now l) (store_of c.args.places.now c.args.row.now l)
    (sym c.is_text.ensures ∙ c.if-is_text.false)
