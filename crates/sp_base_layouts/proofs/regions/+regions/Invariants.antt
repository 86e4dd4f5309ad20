use Rattle.std.proofs.Common.{◌≡◌, ◌+◌, ◌++◌, map, drop, Some}
use Rattle.sp_types.specs.Types.{structure}
use Rattle.sp_types.specs.View.{type_of, struct_of}
use Rattle.sp_ir.specs.Regions.{region_of}
use Rattle.sp_ir.specs.Shapes.{member_regions}
use Rattle.sp_ir.specs.Terrain.{size_of}
use Rattle.sp_base_layouts.specs.Layouts.{layout_of, shape_of_struct, member_shapes}
use Rattle.sp_base_layouts.specs.Seen.{seen_members}
use Rattle.sp_base_layouts.proofs.Sizes.{size, sizes}
use Rattle.sp_base_layouts.proofs.regions.+regions.Given as goal

abbrev pub decreases-add_regions : goal.decreases-add_regions
decreases-add_regions l =
    size (layout_of (map struct_of l.layouts.now.structs.now) (type_of l.of.now)) + 9

abbrev pub decreases-add_struct : goal.decreases-add_struct
decreases-add_struct l =
    size (layout_of (map struct_of l.layouts.now.structs.now) (structure l.number)) + 8

abbrev pub decreases-add_found : goal.decreases-add_found
decreases-add_found l =
    size (shape_of_struct (type_of l.of.now)
    (size_of (map struct_of l.layouts.now.structs.now) (type_of l.of.now))
    (layout_of (map struct_of l.layouts.now.structs.now)) (Some (struct_of l.found.now))) + 7

abbrev pub decreases-add_members : goal.decreases-add_members
decreases-add_members l =
    sizes (member_shapes (layout_of (map struct_of l.layouts.now.structs.now)) (seen_members l.members.now)) + 5

abbrev pub decreases-add_member : goal.decreases-add_member
decreases-add_member l =
    size (layout_of (map struct_of l.layouts.now.structs.now) (type_of l.of.now)) + 10

abbrev pub invariant-add_members-loop-k : goal.invariant-add_members-loop-k
invariant-add_members-loop-k l =
    map region_of l.all.items
    ++ member_regions l.part.object l.part.path.now l.k
    (member_shapes (layout_of (map struct_of l.layouts.structs.now)) (seen_members (drop l.k l.members)))
    ≡ map region_of l.initial.all.items
    ++ member_regions l.part.object l.part.path.now 0
    (member_shapes (layout_of (map struct_of l.layouts.structs.now)) (seen_members l.members))
