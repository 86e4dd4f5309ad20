use Rattle.std.proofs.Common.{◌≡◌, drop}
use Rattle.sp_check_operands.specs.Balances.{members_seen}
use Rattle.sp_check_members.specs.Members.{has_member}
use Rattle.sp_check_members.proofs.member_list.has_member.Given as goal

abbrev pub invariant-members : goal.invariant-members
invariant-members l = has_member (members_seen (drop l.i l.members)) l.name ≡ has_member (members_seen l.members) l.name
