use Rattle.sp_octagon.proofs.AllLaws.{octagon_laws}
use Rattle.sp_octagon.proofs.lawful.octagons_are_lawful.Goals as goal

pub returns : goal.returns
returns c = record { laws = octagon_laws }
