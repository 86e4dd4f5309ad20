use Rattle.std.proofs.Common.{◌≡◌, refl, sym, None}
use Rattle.sp_types.specs.declared.statement.TypedStatementForm.TheFolds.{fold-roll-TypedStatementForm}
use Rattle.sp_types.specs.declared.statement.TypedStatementForm.TheVariants.{rolls-If}
use Rattle.sp_types.proofs.statement.TypedStatementForm.if_alone.Goals as goal

pub returns : goal.returns
returns c =
    let body : c.in_ok-new.field-0.value ≡ c.args.body = c.in_ok-new.ensures.ok in
    rw (sym (rolls-If c.args.condition c.in_ok-new.field-0 None)) (rw fold-roll-TypedStatementForm (rw body refl))
