use Rattle.std.proofs.Common.{nat_eq}
use Rattle.sp_effect_rows.specs.Setting.{cell_of}
use Rattle.sp_effect_rows.specs.Updates.{store_of}
use Rattle.sp_effect_scene.specs.Analysed.{setting_of}
use Rattle.sp_effect_scene.specs.View.{analysed_of}
use Rattle.sp_effect_entry.proofs.Seen.{joined-there}
use Rattle.sp_effect_entry.proofs.Steps.{nothing-joined}
use Rattle.sp_effect_entry.proofs.joining.join_to.Goals as goal

pub returns-in_ok-join_at_place-in-Some : goal.returns-in_ok-join_at_place-in-Some
returns-in_ok-join_at_place-in-Some c = λ l h. joined-there (analysed_of c.args.analysis.now) c.args.cell c.in-Some.location l c.args.slot.now (store_of c.args.places.now c.args.row.now l) (store_of c.args.places.now c.join_at_place.new.row l)
    (c.in-Some.ensures.some l) (c.in_ok-join_at_place-in-Some.ensures l h)

pub returns-in-None : goal.returns-in-None
returns-in-None c = λ l h. nothing-joined (nat_eq c.args.cell (cell_of (setting_of (analysed_of c.args.analysis.now)) l)) c.args.slot.now (store_of c.args.places.now c.args.row.now l) (c.in-None.ensures.none l)
