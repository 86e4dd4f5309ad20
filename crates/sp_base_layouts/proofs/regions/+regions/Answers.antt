use Rattle.std.proofs.Common.{map, arith}
use Rattle.sp_types.specs.View.{struct_of}
use Rattle.sp_base_layouts.specs.Layouts.{layout_of}
use Rattle.sp_base_layouts.proofs.Sizes.{member-at}
use Rattle.sp_base_layouts.proofs.regions.+regions.Goals as goal

pub add_members-add_member-requires : goal.add_members-add_member-requires
add_members-add_member-requires t c = (
  omega (arith, member-at (layout_of (map struct_of c.args.layouts.now.structs.now)) c.args.members.now c.loop-k.k c.index-members-k.result c.loop-k-test.true c.index-members-k.is),
  c.requires,
)
