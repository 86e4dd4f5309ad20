use Rattle.sp_eval.proofs.AllLaws.{evaluation_laws}
use Rattle.sp_eval.proofs.lawful.evaluation_is_lawful.Goals as goal

pub returns : goal.returns
returns c = record { laws = evaluation_laws }
