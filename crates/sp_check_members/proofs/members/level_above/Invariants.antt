use Rattle.std.proofs.Common.{◌≡◌, ◌≤◌, map, drop, length}
use Rattle.sp_types.specs.Structs.{level_above}
use Rattle.sp_types.specs.View.{struct_of}
use Rattle.sp_check_operands.specs.Balances.{members_seen}
use Rattle.sp_check_members.proofs.members.level_above.Given as goal

abbrev pub invariant-members : goal.invariant-members
invariant-members l = record {
  within : l.left ≤ length l.members;
  behind : l.level ≡ level_above (map struct_of l.structs) (members_seen (drop l.left l.members));
}

abbrev pub decreases-members : goal.decreases-members
decreases-members l = l.left
