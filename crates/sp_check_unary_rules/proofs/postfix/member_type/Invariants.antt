use Rattle.std.proofs.Common.{◌≡◌, drop}
use Rattle.sp_check_operands.specs.Balances.{members_seen}
use Rattle.sp_check_binary_rules.specs.Rules.{member_type}
use Rattle.sp_check_unary_rules.proofs.postfix.member_type.Given as goal

abbrev pub invariant-members : goal.invariant-members
invariant-members l = member_type (members_seen (drop l.i l.members)) l.name ≡ member_type (members_seen l.members) l.name
