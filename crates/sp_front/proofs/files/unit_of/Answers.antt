use Rattle.std.proofs.Common.{subst}
use Rattle.std.proofs.lemmas.Result.{err_from_is_err_and}
use Rattle.sp_parse_laws.specs.UnitAnswers.{IsUnit}
use Rattle.sp_parse_trees.specs.View.{externals_of}
use Rattle.sp_front.specs.Files.{max_depth}
use Rattle.sp_front.proofs.FileSteps.{wrong_type}
use Rattle.sp_front.proofs.files.unit_of.Goals as goal

pub returns-in_err-checked : goal.returns-in_err-checked
returns-in_err-checked c =
    let e = c.from_residual-in_err-checked in
    let p = err_from_is_err_and e.result e.ensures.1 in
    rw (p.1, p.2)
    (wrong_type c.args.tokens.items c.args.names.now (externals_of c.in_ok-unit.unit.items.items)
    c.in_err-checked.field-0.0
    (subst (λ ts. IsUnit max_depth ts (externals_of c.in_ok-unit.unit.items.items)) c.deref.ensures.value c.in_ok-unit.ensures)
    c.in_err-checked.ensures)
