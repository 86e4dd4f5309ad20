use Rattle.std.proofs.Common.{◌≡◌, refl, sym, Some}
use Rattle.sp_types.specs.declared.statement.TypedStatementForm.TheFolds.{fold-roll-TypedStatementForm}
use Rattle.sp_types.specs.declared.statement.TypedStatementForm.TheVariants.{rolls-If}
use Rattle.sp_types.proofs.statement.TypedStatementForm.if_else.Goals as goal

pub returns : goal.returns
returns c =
    let body : c.in_ok-body.body.value ≡ c.args.body = c.in_ok-body.ensures.ok in
    let other : c.in_ok-other.other.value ≡ c.args.other = c.in_ok-other.ensures.ok in
    rw (sym (rolls-If c.args.condition c.in_ok-body.body (Some c.in_ok-other.other))) (rw fold-roll-TypedStatementForm (rw (body, other) refl))
