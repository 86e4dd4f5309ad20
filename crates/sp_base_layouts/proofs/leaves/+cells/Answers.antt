use Rattle.std.proofs.Common.{map, sym, arith}
use Rattle.sp_types.specs.View.{struct_of}
use Rattle.sp_base_layouts.specs.Layouts.{layout_of}
use Rattle.sp_base_layouts.proofs.Sizes.{member-at}
use Rattle.sp_base_layouts.proofs.leaves.+cells.Goals as goal

pub found_cell-returns-in_ok-cell-in-Some-2 : goal.found_cell-returns-in_ok-cell-in-Some-2
found_cell-returns-in_ok-cell-in-Some-2 t c =
    rw (c.if-found.false, c.in-Some-2.is, sym c.as_slice-in-Some-2.ensures.value) c.in_ok-cell-in-Some-2.ensures

pub member_cell-leaf_cell-requires : goal.member_cell-leaf_cell-requires
member_cell-leaf_cell-requires t c = (
  omega (arith, member-at (layout_of (map struct_of c.args.layouts.now.structs.now)) c.args.members.now c.loop-member.member-index c.member-item.result c.loop-member-test.true c.member-item.is),
  c.requires,
)
