use Rattle.sp_effect_assume.proofs.ConditionLaws.{condition_laws}
use Rattle.sp_effect_assume.proofs.laws.conditions_are_lawful.Goals as goal

pub returns : goal.returns
returns c = record { laws = condition_laws }
