use Rattle.std.proofs.Common.{ℕ, false, ◌∙◌, ap}
use Rattle.sp_value.specs.Slots.{slot_join}
use Rattle.sp_effect_rows.specs.Rows.{kept_if}
use Rattle.sp_effect_rows.specs.Updates.{store_of}
use Rattle.sp_effect_scene.specs.View.{analysed_of}
use Rattle.sp_points_rules.specs.Puts.{command_at}
use Rattle.sp_transfer.specs.Effects.{row_of}
use Rattle.sp_transfer.proofs.Cutting.{made-at}
use Rattle.sp_transfer.proofs.effects.change_own.Goals as goal

pub returns : goal.returns
returns g c = λ l h.
    let a = analysed_of c.args.analysis.now in
    let s = λ (k : ℕ). g.V.View.store c.args.view.now k in
    let row = row_of a c.args.node (command_at a.program c.args.node) s in
    made-at a false c.args.node s c.args.analysis.now.whole c.requires.below c.args.places.now c.args.own.now c.requires.low c.requires.own l
    (store_of c.args.places.now c.args.row.now l) (store_of c.args.places.now c.exchange.new.row l) (store_of c.args.own.now c.args.slots.now l) (store_of c.args.own.now c.change.new.row l) (store_of c.args.places.now c.exchange-2.new.row l)
    h (c.requires.copied l h) (c.exchange.ensures.taken l)
    (λ k. c.in_ok-change.ensures l k ∙ ap (λ x. slot_join (kept_if (row.keeps l) x) (row.puts l)) (c.exchange.ensures.given l k))
    (c.exchange-2.ensures.taken l)
