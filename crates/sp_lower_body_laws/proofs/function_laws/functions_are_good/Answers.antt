use Rattle.sp_lower_body_laws.proofs.Functions.{functions_are}
use Rattle.sp_lower_body_laws.proofs.function_laws.functions_are_good.Goals as goal

pub returns : goal.returns
returns c = λ context is os rs v k first gs ns s fit. functions_are context is os rs v k first gs ns s fit
