use Rattle.std.proofs.Common.{◌≡◌, ◌+◌, ◌*◌, ◌<◌, pos, length, get_or, FitsSigned, subst, rules, arith}
use Rattle.std.specs.Int.{w128}
use Rattle.std.proofs.lemmas.Int.{to_z-of_z}
use Rattle.sp_octagon.specs.Entries.{entries_of}
use Rattle.sp_octagon.specs.inner.Rounds.{Shortened}
use Rattle.sp_octagon.proofs.Passing.{default_entry, round-next}
use Rattle.sp_octagon.proofs.closing.pass_through.Goals as goal

pub rows-preserved : goal.rows-preserved
rows-preserved c =
    let old = entries_of c.args.cells.now in
    let mid = entries_of c.rows.cells in
    let new = entries_of c.shorten_row.new.cells in
    let room : length c.rows.cells ≡ 256 = omega (arith, c.requires.room) in
    let row : c.rows.row < 16 = omega (arith, c.requires.count) in
    let middle : c.args.middle < 16 = omega (arith, c.requires.count, c.requires.middle) in
    let fits : FitsSigned w128 (get_or c.rows.cells (16 * c.rows.row + c.args.middle) (pos 0)) = search rules in
    let shortened = simp to_z-of_z at c.shorten_row.ensures in
    let first = default_entry c.rows.cells c.rows.row c.args.middle room row middle in
    let short = subst (λ z. Shortened c.args.count c.rows.row c.args.middle z mid c.args.count new) first shortened in
    round-next c.args.count c.args.middle c.rows.row old mid new c.requires.count c.requires.middle c.rows-test.true c.requires.diagonal c.requires.within c.rows.invariant short
