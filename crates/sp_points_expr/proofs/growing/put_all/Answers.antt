use Rattle.std.proofs.Common.{◌≡◌, ◌+◌, ◌∙◌, ◌&&◌, true, get_or, take, sym, ap, arith, refl}
use Rattle.sp_base_sets.specs.Sets.{has}
use Rattle.sp_base_sets.proofs.Members.{has_there}
use Rattle.sp_points_expr.proofs.Growth.{grows_then}
use Rattle.sp_points_expr.proofs.Adding.{row_split, row_left, row_right, both}
use Rattle.sp_points_expr.proofs.growing.put_all.Goals as goal

pub put_row-requires-clause-there : goal.put_row-requires-clause-there
put_row-requires-clause-there c r h =
    let rows = c.as_slice-rows.result.now in
    let i = c.loop-place.place-index in
    let low = c.requires.there (get_or rows i 0) r (both (has (get_or rows i 0) c.args.put.now.rows) (has r c.args.put.now.numbers)
    (sym (ap (λ xs. has (get_or rows i 0) xs) c.as_slice-rows.ensures.numbers) ∙ has_there rows (get_or rows i 0) i c.loop-place-test.true refl)
    (sym (ap (λ xs. has r xs) c.as_slice-numbers.ensures.numbers) ∙ h)) in
    omega (arith, low, c.loop-place.invariant.rows)

pub loop-place-preserved : goal.loop-place-preserved
loop-place-preserved c =
    let rows = c.as_slice-rows.result.now in
    let numbers = c.as_slice-numbers.result.now in
    let i = c.loop-place.place-index in
    grows_then (λ k r. (has k (take i rows) && has r numbers) ≡ true) (λ k r. (k ≡ get_or rows i 0) × (has r numbers ≡ true)) (λ k r. (has k (take (i + 1) rows) && has r numbers) ≡ true)
    c.args.growing.now c.loop-place.growing c.put_row.new.growing c.loop-place.invariant c.in_ok-put_row.ensures
    (row_split rows numbers i c.loop-place-test.true) (row_left rows numbers i c.loop-place-test.true) (row_right rows numbers i c.loop-place-test.true)
