use Rattle.std.proofs.Common.{◌≡◌, ◌++◌, map, drop}
use Rattle.sp_types.specs.View.{type_of, types}
use Rattle.sp_link_agreement.specs.Agreement.{all_compatible_by}
use Rattle.sp_link_agreement.specs.Inner.{any_two, inner_of_types}
use Rattle.sp_link_agreement.proofs.types.+compare.Given as goal

abbrev pub invariant-compare_all-parameters : goal.invariant-compare_all-parameters
invariant-compare_all-parameters l =
    (all_compatible_by any_two (types (map type_of (drop l.i l.left))) (types (map type_of (drop l.i l.right)))
    ≡ all_compatible_by any_two (types (map type_of l.left)) (types (map type_of l.right)))
    × (l.found.items ++ inner_of_types (types (map type_of (drop l.i l.left))) (types (map type_of (drop l.i l.right)))
    ≡ l.initial.found.items ++ inner_of_types (types (map type_of l.left)) (types (map type_of l.right)))
