use Rattle.sp_effect_call.proofs.AllLaws.{call_laws}
use Rattle.sp_effect_call.proofs.laws.calls_are_lawful.Goals as goal

pub returns : goal.returns
returns c = record { laws = call_laws }
