use Rattle.std.proofs.Common.{◌≡◌, ◌∙◌, ◌+◌, ◌*◌, ◌<◌, pos, length, get_or, FitsSigned, sym, ap, subst, rules, arith}
use Rattle.std.specs.Int.{int_min, w128}
use Rattle.std.proofs.lemmas.Int.{to_z-of_z}
use Rattle.sp_octagon.specs.Entries.{entries_of, sum_of}
use Rattle.sp_octagon.specs.inner.Rounds.{IsWithin, reach}
use Rattle.sp_octagon.proofs.Passing.{default_entry, short_last, shorten-next}
use Rattle.sp_octagon.proofs.closing.shorten_row.Goals as goal

pub sum_of-sum-requires-clause-second : goal.sum_of-sum-requires-clause-second
sum_of-sum-requires-clause-second c =
    let old = entries_of c.args.cells.now in
    let room : length c.columns.cells ≡ 256 = omega (arith, c.requires.room) in
    let here : c.columns.column < 16 = omega (arith, c.requires.count) in
    let first_fits = c.ranges.first in
    let so_far = simp to_z-of_z at c.columns.invariant in
    let is = default_entry c.columns.cells c.args.middle c.columns.column room c.requires.middle here
    ∙ short_last c.args.count c.args.row c.args.middle c.columns.column c.args.first old (entries_of c.columns.cells) so_far c.requires.middle here in
    let within = subst (IsWithin (reach 16)) (sym is) (c.requires.last c.columns.column c.columns-test.true) in
    let fits : FitsSigned w128 (get_or c.columns.cells (16 * c.args.middle + c.columns.column) (pos 0)) = search rules in
    simp to_z-of_z within

pub columns-preserved : goal.columns-preserved
columns-preserved c =
    let old = entries_of c.args.cells.now in
    let room : length c.columns.cells ≡ 256 = omega (arith, c.requires.room) in
    let here : c.columns.column < 16 = omega (arith, c.requires.count) in
    let first_fits = c.ranges.first in
    let so_far = simp to_z-of_z at c.columns.invariant in
    let min_fits : FitsSigned w128 c.min.result = search rules in
    let sum_fits : FitsSigned w128 c.sum_of-sum.result = search rules in
    let last_fits : FitsSigned w128 (get_or c.columns.cells (16 * c.args.middle + c.columns.column) (pos 0)) = search rules in
    let bound_fits : FitsSigned w128 (get_or c.columns.cells (16 * c.args.row + c.columns.column) (pos 0)) = search rules in
    let last = default_entry c.columns.cells c.args.middle c.columns.column room c.requires.middle here
    ∙ short_last c.args.count c.args.row c.args.middle c.columns.column c.args.first old (entries_of c.columns.cells) so_far c.requires.middle here in
    let bound = default_entry c.columns.cells c.args.row c.columns.column room c.requires.row here ∙ so_far.rest c.columns.column here (omega arith) in
    let sum = simp to_z-of_z at c.sum_of-sum.ensures in
    let least = simp to_z-of_z at c.min.ensures.value in
    let is = least ∙ ap (int_min (get_or c.columns.cells (16 * c.args.row + c.columns.column) (pos 0))) sum
    ∙ ap (λ z. int_min z (sum_of c.args.first (get_or c.columns.cells (16 * c.args.middle + c.columns.column) (pos 0)))) bound
    ∙ ap (λ z. int_min (old c.args.row c.columns.column) (sum_of c.args.first z)) last in
    simp to_z-of_z (shorten-next c.args.count c.args.row c.args.middle c.columns.column c.args.first c.min.result old c.columns.cells so_far room c.requires.row here is)
