use Rattle.sp_check_formed_laws.proofs.Units.{units_are_formed}
use Rattle.sp_check_formed_laws.proofs.laws.units_are_formed.Goals as goal

pub returns : goal.returns
returns c = record { formed = units_are_formed }
