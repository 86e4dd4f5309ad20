use Rattle.std.proofs.Common.{◌≡◌, ◌≤◌, drop, length}
use Rattle.sp_check_operands.specs.Balances.{members_seen}
use Rattle.sp_check_env.specs.Views.{env_of}
use Rattle.sp_check_members.specs.Members.{depth_above}
use Rattle.sp_check_members.proofs.members.depth_above.Given as goal

abbrev pub invariant-members : goal.invariant-members
invariant-members l = record {
  within : l.left ≤ length l.members;
  behind : l.deepest ≡ depth_above (env_of l.env).depths (members_seen (drop l.left l.members));
}

abbrev pub decreases-members : goal.decreases-members
decreases-members l = l.left
