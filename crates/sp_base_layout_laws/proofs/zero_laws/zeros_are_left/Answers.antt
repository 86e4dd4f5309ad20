use Rattle.sp_base_layout_laws.proofs.Left.{zeros_hold}
use Rattle.sp_base_layout_laws.proofs.zero_laws.zeros_are_left.Goals as goal

pub returns : goal.returns
returns c = zeros_hold
