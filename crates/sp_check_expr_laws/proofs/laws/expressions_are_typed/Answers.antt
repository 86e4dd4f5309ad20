use Rattle.sp_check_expr_laws.proofs.Law.{expressions_typed}
use Rattle.sp_check_expr_laws.proofs.laws.expressions_are_typed.Goals as goal

pub returns : goal.returns
returns c = record { typed = expressions_typed }
