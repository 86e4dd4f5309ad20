use Rattle.sp_lower_body_laws.proofs.Statements.{statement_good}
use Rattle.sp_lower_body_laws.proofs.statement_laws.statements_are_good.Goals as goal

pub returns : goal.returns
returns c = λ f os rs v labels fits k t typed b. statement_good f os rs v labels fits k t typed b
