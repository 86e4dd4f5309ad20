use Rattle.std.proofs.Common.{◌≡◌, map, drop}
use Rattle.sp_types.specs.Compatible.{same_types}
use Rattle.sp_types.specs.View.{type_of, types}
use Rattle.sp_types.proofs.compatibility.+same.Given as goal

abbrev pub invariant-all_same-parameters : goal.invariant-all_same-parameters
invariant-all_same-parameters l = same_types (types (map type_of (drop l.i l.left))) (types (map type_of (drop l.i l.right))) ≡ same_types (types (map type_of l.left)) (types (map type_of l.right))
