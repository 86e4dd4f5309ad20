use Rattle.sp_effect_checks.proofs.AllLaws.{check_laws}
use Rattle.sp_effect_checks.proofs.laws.checks_are_lawful.Goals as goal

pub returns : goal.returns
returns c = record { laws = check_laws }
