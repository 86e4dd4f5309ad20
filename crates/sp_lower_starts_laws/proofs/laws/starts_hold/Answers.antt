use Rattle.sp_lower_starts_laws.proofs.Whole.{starts_hold}
use Rattle.sp_lower_starts_laws.proofs.laws.starts_hold.Goals as goal

pub returns : goal.returns
returns c = starts_hold
