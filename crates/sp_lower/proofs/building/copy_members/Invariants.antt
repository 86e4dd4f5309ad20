use Rattle.std.proofs.Common.{◌≡◌, take}
use Rattle.sp_lower.specs.Seen.{seen_members}
use Rattle.sp_lower.proofs.building.copy_members.Given as goal

abbrev pub invariant-loop-member : goal.invariant-loop-member
invariant-loop-member l =
    seen_members l.copies.items ≡ seen_members (take l.member-index l.members)
