use Rattle.sp_effect_assign.proofs.AssignLaws.{assign_laws}
use Rattle.sp_effect_assign.proofs.laws.assignments_are_lawful.Goals as goal

pub returns : goal.returns
returns c = record { laws = assign_laws }
