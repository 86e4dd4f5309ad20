use Rattle.std.proofs.Common.{length}
use Rattle.sp_check_scopes.proofs.scopes.+name_in_block.Given as goal

abbrev pub decreases-name_in_block : goal.decreases-name_in_block
decreases-name_in_block l = length l.scopes.now
