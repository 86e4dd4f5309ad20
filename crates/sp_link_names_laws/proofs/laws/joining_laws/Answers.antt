use Rattle.sp_link_names_laws.proofs.Sources.{names_have_one_object, names_have_one_function}
use Rattle.sp_link_names_laws.proofs.Own.{others_stay_apart}
use Rattle.sp_link_names_laws.proofs.OwnFunctions.{static_functions_stay_apart}
use Rattle.sp_link_names_laws.proofs.laws.joining_laws.Goals as goal

pub returns-clause-objects : goal.returns-clause-objects
returns-clause-objects c = names_have_one_object

pub returns-clause-functions : goal.returns-clause-functions
returns-clause-functions c = names_have_one_function

pub returns-clause-apart : goal.returns-clause-apart
returns-clause-apart c = others_stay_apart

pub returns-clause-functions_apart : goal.returns-clause-functions_apart
returns-clause-functions_apart c = static_functions_stay_apart
