use Rattle.sp_parse_fault_laws.proofs.NamesTold.{names_told}
use Rattle.sp_parse_fault_laws.proofs.type_names_are_told.Goals as goal

pub returns : goal.returns
returns c = names_told
