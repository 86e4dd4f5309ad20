use Rattle.std.proofs.Common.{◌≤◌, length, arith}
use Rattle.sp_check_members.proofs.MemberLists.{later_names}
use Rattle.sp_check_members.proofs.member_list.MemberList.push.Goals as goal

pub invariant_of-self-in-Ok : goal.invariant_of-self-in-Ok
invariant_of-self-in-Ok c = λ n.
    let h : 8 ≤ length c.self.inside.members.items = omega arith in
    rw c.in_ok-push.ensures.items (later_names 8 c.self.inside.members.items (c.args.name, c.args.of) n _ _ h (c.self.invariant n) (c.in-Ok.ensures.updates.0 n))
