use Rattle.sp_front_laws.proofs.Programs.{programs_typed}
use Rattle.sp_front_laws.proofs.laws.programs_are_typed.Goals as goal

pub returns-clause-typed : goal.returns-clause-typed
returns-clause-typed c =
    programs_typed c.units_are_typed.ensures.typed c.linked_follow.ensures.programs
