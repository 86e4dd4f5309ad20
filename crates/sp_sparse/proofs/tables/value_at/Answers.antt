use Rattle.std.proofs.Common.{◌≡◌, ◌<◌, ◌∙◌, false, length, get_or, sym, ap, subst}
use Rattle.std.specs.Prelude.{option_copied}
use Rattle.sp_lattice.specs.System.{has}
use Rattle.sp_sparse.proofs.CellLaws.{read_absent, read_place}
use Rattle.sp_sparse.proofs.tables.value_at.Goals as goal

pub returns-in_err-place : goal.returns-in_err-place
returns-in_err-place g c =
    let places = c.args.places.now in
    let values = c.args.values.now in
    ap option_copied c.from_residual.ensures ∙ sym (read_absent places values c.requires c.args.node c.args.location (subst (λ ls. has c.args.location ls ≡ false) c.row.ensures c.in_err-place.ensures.absent))

pub returns : goal.returns
returns g c =
    let places = c.args.places.now in
    let values = c.args.values.now in
    let place = c.in_ok-place.place in
    sym (read_place places values c.requires c.args.node place c.args.location c.index-row-place.result
    (subst (λ ls. place < length ls) c.row.ensures c.in_ok-place.ensures.within)
    (ap (λ ls. get_or ls place 0) (sym c.row.ensures) ∙ c.in_ok-place.ensures.found)
    (c.index-row-place.is ∙ ap (λ vs. get_or vs place c.index-row-place.result) c.row-2.ensures))
