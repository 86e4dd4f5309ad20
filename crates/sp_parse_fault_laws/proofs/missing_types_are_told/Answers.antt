use Rattle.sp_parse_fault_laws.proofs.MissingTold.{types_told}
use Rattle.sp_parse_fault_laws.proofs.missing_types_are_told.Goals as goal

pub returns : goal.returns
returns c = types_told
