use Rattle.std.proofs.Common.{◌≡◌, take}
use Rattle.sp_link_units.specs.Making.{renamed_members}
use Rattle.sp_link_units.specs.MemberView.{members_of}
use Rattle.sp_link_units.proofs.structs.renamed_members.Given as goal

abbrev pub invariant-loop-member : goal.invariant-loop-member
invariant-loop-member l = members_of l.all.items ≡ renamed_members l.structs (members_of (take l.member-index l.members))
