use Rattle.sp_parse_fault_laws.proofs.TypedefsTold.{typedefs_told}
use Rattle.sp_parse_fault_laws.proofs.typedefs_are_told.Goals as goal

pub returns : goal.returns
returns c = typedefs_told
