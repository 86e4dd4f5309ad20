use Rattle.std.proofs.Common.{map}
use Rattle.std.proofs.lemmas.Result.{err_from_is_err_and}
use Rattle.sp_base_checked.specs.Units.{checked_unit_of}
use Rattle.sp_link_structs.specs.Matching.{matching_of}
use Rattle.sp_link_units.proofs.PartLinks.{conflict_links, agreement_links}
use Rattle.sp_link_units.proofs.linking.link.Goals as goal

pub returns-in_err-check_declarations : goal.returns-in_err-check_declarations
returns-in_err-check_declarations c =
    let p = err_from_is_err_and c.from_residual.result c.from_residual.ensures.1 in
    rw (p.1, p.2) (conflict_links c.args.names.now c.args.first (map checked_unit_of c.args.units.now) c.in_err-check_declarations.field-0.0 c.in_err-check_declarations.ensures)

pub returns : goal.returns
returns c =
    agreement_links c.args.names.now c.args.first (map checked_unit_of c.args.units.now) (matching_of c.in_ok-matching.matching) c.link_by.result c.in_ok-check_declarations.ensures c.in_ok-matching.ensures c.link_by.ensures
