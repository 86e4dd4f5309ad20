use Rattle.std.proofs.Common.{rules, ◌≡◌, cond, slice_index_or, ◌∙◌, ap}
use Rattle.sp_value.specs.Slots.{slot_join}
use Rattle.sp_lattice.specs.System.{has}
use Rattle.sp_value.specs.declared.slots.Slot.TheVariants.{Nothing}
use Rattle.sp_effect_rows.specs.Updates.{store_of, only_at}
use Rattle.sp_effect_rows.proofs.UpdateLaws.{slots-next}
use Rattle.sp_effect_rows.proofs.placing.place.Goals as goal

pub loop-place-preserved : goal.loop-place-preserved
loop-place-preserved c =
    let low = c.loop-place-test.true in
    let item : c.index-slots-place.result ≡ slice_index_or c.args.slots.now c.loop-place.place c.index-slots-place.result = search rules in
    λ k. slots-next c.args.locations.now c.args.slots.now c.loop-place.place 0 c.index-slots-place.result
    (cond (has k c.args.strong.now) Nothing (store_of c.args.places.now c.args.row.now k)) (store_of c.args.places.now c.loop-place.row k) (store_of c.args.places.now c.join_at.new.row k) k
    c.loop-place-test.true c.requires.slots (c.loop-place.invariant k) (c.in_ok-join_at.ensures.joined k ∙ ap (λ x. slot_join (store_of c.args.places.now c.loop-place.row k) (only_at (slice_index_or c.args.locations.now c.loop-place.place 0) x k)) item)
