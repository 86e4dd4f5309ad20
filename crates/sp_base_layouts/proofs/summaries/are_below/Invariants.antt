use Rattle.std.proofs.Common.{◌≡◌, map, drop}
use Rattle.sp_types.specs.View.{struct_of}
use Rattle.sp_base_layouts.specs.Seen.{seen_members}
use Rattle.sp_base_layouts.specs.Summaries.{are_below}
use Rattle.sp_base_layouts.proofs.summaries.are_below.Given as goal

abbrev pub invariant-loop-member : goal.invariant-loop-member
invariant-loop-member l =
    are_below (map struct_of l.structs) l.level (seen_members (drop l.member-index l.members))
    ≡ are_below (map struct_of l.structs) l.level (seen_members l.members)
