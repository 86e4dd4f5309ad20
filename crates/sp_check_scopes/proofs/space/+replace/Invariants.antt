use Rattle.std.proofs.Common.{length}
use Rattle.sp_check_scopes.proofs.space.+replace.Given as goal

abbrev pub decreases-replace : goal.decreases-replace
decreases-replace g l = length l.these.now
