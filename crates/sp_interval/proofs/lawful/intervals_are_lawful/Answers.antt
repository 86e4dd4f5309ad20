use Rattle.sp_interval.proofs.AllLaws.{interval_laws}
use Rattle.sp_interval.proofs.lawful.intervals_are_lawful.Goals as goal

pub returns : goal.returns
returns c = record { laws = interval_laws }
