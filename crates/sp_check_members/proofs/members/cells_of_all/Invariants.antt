use Rattle.std.proofs.Common.{◌≡◌, ◌≤◌, map, drop, length}
use Rattle.sp_types.specs.Structs.{sum_of, cells}
use Rattle.sp_types.specs.View.{struct_of}
use Rattle.sp_check_operands.specs.Balances.{members_seen}
use Rattle.sp_check_members.proofs.members.cells_of_all.Given as goal

abbrev pub invariant-members : goal.invariant-members
invariant-members l = record {
  within : l.left ≤ length l.members;
  behind : l.sum ≡ sum_of (cells (map struct_of l.structs)) (members_seen (drop l.left l.members));
}

abbrev pub decreases-members : goal.decreases-members
decreases-members l = l.left
