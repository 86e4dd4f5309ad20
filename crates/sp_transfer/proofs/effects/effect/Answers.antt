use Rattle.std.proofs.Common.{ℕ, ◌∙◌, ap, subst, arith}
use Rattle.sp_value.specs.Slots.{slot_join}
use Rattle.sp_effect_rows.specs.Rows.{kept_if}
use Rattle.sp_effect_scene.specs.View.{analysed_of}
use Rattle.sp_points_rules.specs.Puts.{command_at}
use Rattle.sp_transfer.specs.Effects.{row_of, effect_at}
use Rattle.sp_transfer.specs.Parts.{AreCuts}
use Rattle.sp_transfer.proofs.Rows.{same-row}
use Rattle.sp_transfer.proofs.Cutting.{effect-uncut}
use Rattle.sp_transfer.proofs.effects.effect.Goals as goal

pub returns-in_ok-change_and_cut-in-Some-clause-filled : goal.returns-in_ok-change_and_cut-in-Some-clause-filled
returns-in_ok-change_and_cut-in-Some-clause-filled g c =
    let a = analysed_of c.args.analysis.now in
    let s = λ (k : ℕ). g.V.View.store c.args.view.now k in
    same-row (effect_at a c.args.at.now.sharp c.args.node s) c.args.at.now.places.now c.change_and_cut.new.row c.requires.places.ascend (omega (arith, c.requires.long))
    (λ l h. c.in_ok-change_and_cut-in-Some.ensures l h)

pub returns-in_ok-change-in-None-clause-filled : goal.returns-in_ok-change-in-None-clause-filled
returns-in_ok-change-in-None-clause-filled g c =
    let a = analysed_of c.args.analysis.now in
    let s = λ (k : ℕ). g.V.View.store c.args.view.now k in
    let row = row_of a c.args.node (command_at a.program c.args.node) s in
    let none = subst (AreCuts a c.args.at.now.sharp c.args.node) c.in-None.is c.requires.cuts in
    same-row (effect_at a c.args.at.now.sharp c.args.node s) c.args.at.now.places.now c.change.new.row c.requires.places.ascend (omega (arith, c.requires.long))
    (λ l h. c.in_ok-change-in-None.ensures l h ∙ ap (λ x. slot_join (kept_if (row.keeps l) x) (row.puts l)) (c.in_ok-copy_into.ensures l h) ∙ effect-uncut a c.args.at.now.sharp c.args.node s l (none l))
