use Rattle.std.proofs.Common.{◌≡◌, ◌∙◌, ◌<◌, ◌||◌, [], length, sym, ap, subst, arith}
use Rattle.std.specs.Prelude.{MatchBool}
use Rattle.std.proofs.lemmas.List.{get_or_default}
use Rattle.sp_base_sets.specs.Sets.{has, Ascends}
use Rattle.sp_points_expr.proofs.Growth.{row_grows}
use Rattle.sp_points_expr.proofs.growing.put_row.Goals as goal

pub wake-requires : goal.wake-requires
wake-requires c n h =
    let readers = c.args.growing.now.readers.items in
    let place = c.args.place in
    let low : place < length readers = omega (arith, c.if-place-len.true, c.len.ensures, c.args.growing.now.rows.ok, c.requires.long) in
    let is = c.as_slice.ensures.numbers ∙ c.index.ensures ∙ get_or_default readers place c.index.result.now [] low in
    c.requires.readers n place (sym (ap (λ xs. has n xs) is) ∙ h)

pub returns-in_ok-wake : goal.returns-in_ok-wake
returns-in_ok-wake c =
    let s = c.args.growing.now in
    let place = c.args.place in
    let row_low : place < length s.rows.items = omega (arith, c.if-place-len.true, c.len.ensures, s.rows.ok) in
    let low : place < length s.readers.items = omega (arith, row_low, c.requires.long) in
    let is = c.as_slice.ensures.numbers ∙ c.index.ensures ∙ get_or_default s.readers.items place c.index.result.now [] low in
    let old_is = c.index_mut.ensures.value ∙ get_or_default s.rows.items place c.index_mut.result.now [] row_low in
    let grew = subst (λ b. MatchBool b (length c.index_mut.result.now < length c.add_numbers.new.row) (c.add_numbers.new.row ≡ c.index_mut.result.now)) c.if-grew.true c.in_ok-grew.ensures.grew in
    row_grows s place c.args.numbers.now c.add_numbers.new.row c.wake.new.queue row_low
    (λ n. c.in_ok-grew.ensures.numbers n ∙ ap (λ xs. has n xs || has n c.args.numbers.now) old_is)
    (λ up. c.in_ok-grew.ensures.ascending (subst (λ xs. Ascends xs) (sym old_is) up))
    (omega (arith, grew, ap length old_is))
    c.in_ok-wake.ensures.count
    c.in_ok-wake.ensures.few
    (λ n. c.in_ok-wake.ensures.numbers n ∙ ap (λ xs. has n s.queue.numbers || has n xs) is)
