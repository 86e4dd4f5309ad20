use Rattle.sp_check_written_laws.proofs.Law.{written_units}
use Rattle.sp_check_written_laws.proofs.Named.{names_are_bytes}
use Rattle.sp_check_written_laws.proofs.laws.units_are_written.Goals as goal

pub returns : goal.returns
returns c = record { written = written_units; names = names_are_bytes }
