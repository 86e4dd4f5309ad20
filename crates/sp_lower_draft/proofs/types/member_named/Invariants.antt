use Rattle.std.proofs.Common.{◌≡◌, map, drop}
use Rattle.sp_types.specs.View.{type_of}
use Rattle.sp_lower_draft.specs.Context.{member_named}
use Rattle.sp_lower_draft.proofs.types.member_named.Given as goal

abbrev pub invariant-loop-member : goal.invariant-loop-member
invariant-loop-member l =
    member_named l.name 0 (map (λ m. (m.0, type_of m.1)) l.fn.members)
    ≡ member_named l.name l.number (map (λ m. (m.0, type_of m.1)) (drop l.member-index l.members))
