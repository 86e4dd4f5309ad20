use Rattle.std.proofs.Common.{◌≡◌, map, drop}
use Rattle.sp_types.specs.Layout.{extent}
use Rattle.sp_types.specs.View.{struct_of}
use Rattle.sp_check_operands.specs.Balances.{members_seen}
use Rattle.sp_check_members.specs.Members.{members_extent}
use Rattle.sp_check_members.proofs.members.members_extent.Given as goal

abbrev pub invariant-members : goal.invariant-members
invariant-members l =
    members_extent (map struct_of l.structs) l.union l.place l.whole (members_seen (drop l.i l.members))
    ≡ members_extent (map struct_of l.structs) l.union l.place (extent 0 1) (members_seen l.members)
