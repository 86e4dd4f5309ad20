use Rattle.sp_parse_fault_laws.proofs.ParametersTold.{parameters_told}
use Rattle.sp_parse_fault_laws.proofs.parameters_are_told.Goals as goal

pub returns : goal.returns
returns c = parameters_told
