use Rattle.sp_base_region_laws.proofs.Lvalues.{region_laws}
use Rattle.sp_base_region_laws.proofs.laws.regions_are_there.Goals as goal

pub returns : goal.returns
returns c = record { laws = region_laws }
