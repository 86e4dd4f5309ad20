use Rattle.std.proofs.Common.{rules, ◌≡◌, slice_index_or, sym, ◌∙◌, arith}
use Rattle.sp_transfer.proofs.Exchanges.{exchanged-next}
use Rattle.sp_transfer.proofs.parts.exchange.Goals as goal

pub loop-place-preserved : goal.loop-place-preserved
loop-place-preserved c =
    let item : c.index-slots-place.result ≡ slice_index_or c.loop-place.slots c.loop-place.place c.index-slots-place.result = search rules in
    exchanged-next c.args.places.now c.args.these.now c.args.row.now c.args.slots.now c.loop-place.row c.loop-place.slots c.exchange_one.new.row c.loop-place.place c.exchange_one.new.slot c.index-slots-place.result
    c.requires.rise c.loop-place-test.true (omega (arith, c.requires.slots, c.loop-place.auto.slots))
    c.loop-place.invariant.0 c.loop-place.invariant.1 item c.exchange_one.ensures.given (c.exchange_one.ensures.taken ∙ sym item) c.exchange_one.ensures.others
