use Rattle.sp_lower_expr_laws.proofs.Trees.{tree_good}
use Rattle.sp_lower_expr_laws.proofs.laws.expressions_are_good.Goals as goal

pub returns : goal.returns
returns c = λ context os rs v e stands typed. tree_good context os rs v stands e typed
