use Rattle.std.proofs.Common.{◌≡◌, ◌++◌, map, drop}
use Rattle.sp_types.specs.View.{type_of}
use Rattle.sp_link_agreement.specs.Agreement.{members_agree}
use Rattle.sp_link_agreement.specs.Inner.{any_two, inner_of_members}
use Rattle.sp_link_agreement.proofs.compared.compare_members.Given as goal

abbrev pub invariant-members : goal.invariant-members
invariant-members l =
    (members_agree any_two (map (λ m. (m.0, type_of m.1)) (drop l.i l.left)) (map (λ m. (m.0, type_of m.1)) (drop l.i l.right))
    ≡ members_agree any_two (map (λ m. (m.0, type_of m.1)) l.left) (map (λ m. (m.0, type_of m.1)) l.right))
    × (l.found.items ++ inner_of_members (map (λ m. (m.0, type_of m.1)) (drop l.i l.left)) (map (λ m. (m.0, type_of m.1)) (drop l.i l.right))
    ≡ l.initial.found.items ++ inner_of_members (map (λ m. (m.0, type_of m.1)) l.left) (map (λ m. (m.0, type_of m.1)) l.right))
