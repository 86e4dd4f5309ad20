use Rattle.sp_run_indirect.proofs.EqualLaws.{calls_equal}
use Rattle.sp_run_indirect.proofs.lawful.calls_are_one.Goals as goal

pub returns : goal.returns
returns c = calls_equal
