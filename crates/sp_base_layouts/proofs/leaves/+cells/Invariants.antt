use Rattle.std.proofs.Common.{◌≡◌, ◌+◌, map, drop, option_map, Some}
use Rattle.sp_types.specs.Types.{structure}
use Rattle.sp_types.specs.View.{type_of, struct_of}
use Rattle.sp_ir.specs.Shapes.{member_leaf_cell}
use Rattle.sp_ir.specs.Terrain.{size_of}
use Rattle.sp_base_layouts.specs.Layouts.{layout_of, shape_of_struct, member_shapes}
use Rattle.sp_base_layouts.specs.Seen.{seen_members}
use Rattle.sp_base_layouts.proofs.Sizes.{size, sizes}
use Rattle.sp_base_layouts.proofs.leaves.+cells.Given as goal

abbrev pub decreases-leaf_cell : goal.decreases-leaf_cell
decreases-leaf_cell l =
    size (layout_of (map struct_of l.layouts.now.structs.now) (type_of l.of.now)) + 9

abbrev pub decreases-struct_cell : goal.decreases-struct_cell
decreases-struct_cell l =
    size (layout_of (map struct_of l.layouts.now.structs.now) (structure l.number)) + 8

abbrev pub decreases-found_cell : goal.decreases-found_cell
decreases-found_cell l =
    size (shape_of_struct (type_of l.of.now) (size_of (map struct_of l.layouts.now.structs.now) (type_of l.of.now))
    (layout_of (map struct_of l.layouts.now.structs.now)) (Some (struct_of l.found.now))) + 7

abbrev pub decreases-struct_members_cell : goal.decreases-struct_members_cell
decreases-struct_members_cell l =
    sizes (member_shapes (layout_of (map struct_of l.layouts.now.structs.now)) (seen_members l.members.now)) + 6

abbrev pub decreases-member_cell : goal.decreases-member_cell
decreases-member_cell l =
    sizes (member_shapes (layout_of (map struct_of l.layouts.now.structs.now)) (seen_members l.members.now)) + 5

abbrev pub invariant-member_cell-loop-member : goal.invariant-member_cell-loop-member
invariant-member_cell-loop-member l =
    option_map (λ c. l.before + c) (member_leaf_cell (member_shapes (layout_of (map struct_of l.layouts.structs.now)) (seen_members (drop l.member-index l.members))) l.left)
    ≡ member_leaf_cell (member_shapes (layout_of (map struct_of l.layouts.structs.now)) (seen_members l.members)) l.leaf
