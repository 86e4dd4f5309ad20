use Rattle.sp_lower_formed_laws.proofs.Formed.{lowering_formed}
use Rattle.sp_lower_formed_laws.proofs.laws.lowerings_are_formed.Goals as goal

pub returns : goal.returns
returns c = lowering_formed
