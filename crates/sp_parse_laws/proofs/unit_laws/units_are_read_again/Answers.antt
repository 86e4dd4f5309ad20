use Rattle.sp_parse_laws.proofs.UnitsAgain.{units_again}
use Rattle.sp_parse_laws.proofs.unit_laws.units_are_read_again.Goals as goal

pub returns : goal.returns
returns c = units_again
