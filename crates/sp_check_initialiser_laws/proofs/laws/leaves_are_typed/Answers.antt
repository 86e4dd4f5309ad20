use Rattle.sp_check_initialiser_laws.proofs.Leaves.{leaves_are_typed}
use Rattle.sp_check_initialiser_laws.proofs.laws.leaves_are_typed.Goals as goal

pub returns : goal.returns
returns c = leaves_are_typed
