use Rattle.std.proofs.Common.{◌≡◌, ◌+◌, ◌++◌, map, drop, Some}
use Rattle.sp_types.specs.Types.{structure}
use Rattle.sp_types.specs.View.{type_of, struct_of}
use Rattle.sp_ir.specs.Terrain.{size_of}
use Rattle.sp_base_layouts.specs.Layouts.{layout_of, shape_of_struct, member_shapes}
use Rattle.sp_base_layouts.specs.Leaves.{cells_left, member_cell_leaves}
use Rattle.sp_base_layouts.specs.Seen.{seen_members}
use Rattle.sp_base_layouts.proofs.Sizes.{size, sizes}
use Rattle.sp_base_layouts.proofs.leaves.+left.Given as goal

abbrev pub decreases-add_left : goal.decreases-add_left
decreases-add_left l =
    size (layout_of (map struct_of l.layouts.now.structs.now) (type_of l.of.now)) + 9

abbrev pub decreases-struct_left : goal.decreases-struct_left
decreases-struct_left l =
    size (layout_of (map struct_of l.layouts.now.structs.now) (structure l.number)) + 8

abbrev pub decreases-found_left : goal.decreases-found_left
decreases-found_left l =
    size (shape_of_struct (type_of l.of.now) (size_of (map struct_of l.layouts.now.structs.now) (type_of l.of.now))
    (layout_of (map struct_of l.layouts.now.structs.now)) (Some (struct_of l.found.now))) + 7

abbrev pub decreases-members_left : goal.decreases-members_left
decreases-members_left l =
    sizes (member_shapes (layout_of (map struct_of l.layouts.now.structs.now)) (seen_members l.members.now)) + 5

abbrev pub invariant-members_left-loop-member : goal.invariant-members_left-loop-member
invariant-members_left-loop-member l =
    l.left.items
    ++ cells_left l.cells l.region (member_cell_leaves l.count
    (member_shapes (layout_of (map struct_of l.layouts.structs.now)) (seen_members (drop l.member-index l.members))))
    ≡ l.initial.left.items
    ++ cells_left l.cells l.root (member_cell_leaves l.count
    (member_shapes (layout_of (map struct_of l.layouts.structs.now)) (seen_members l.members)))
