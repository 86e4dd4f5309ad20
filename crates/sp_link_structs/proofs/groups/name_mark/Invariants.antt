use Rattle.std.proofs.Common.{◌≡◌, map, drop}
use Rattle.sp_types.specs.View.{type_of}
use Rattle.sp_link_structs.specs.Groups.{name_mark}
use Rattle.sp_link_structs.proofs.groups.name_mark.Given as goal

abbrev pub invariant-members : goal.invariant-members
invariant-members l =
    name_mark l.mark (map (λ m. (m.0, type_of m.1)) (drop l.i l.members))
    ≡ name_mark 0 (map (λ m. (m.0, type_of m.1)) l.members)
