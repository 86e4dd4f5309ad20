use Rattle.sp_transfer.proofs.AllLaws.{transfer_laws}
use Rattle.sp_transfer.proofs.laws.effects_are_lawful.Goals as goal

pub returns : goal.returns
returns c = record { laws = transfer_laws }
