use Rattle.std.proofs.Common.{length}
use Rattle.sp_check_scopes.proofs.space.+entry.Given as goal

abbrev pub decreases-entry : goal.decreases-entry
decreases-entry g l = length l.these.now
