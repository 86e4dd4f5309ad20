use Rattle.std.proofs.Common.{◌≡◌, map, drop}
use Rattle.sp_types.specs.Compatible.{all_compatible}
use Rattle.sp_types.specs.View.{type_of, types}
use Rattle.sp_types.proofs.compatibility.+compatible.Given as goal

abbrev pub invariant-all_compatible-parameters : goal.invariant-all_compatible-parameters
invariant-all_compatible-parameters l = all_compatible (types (map type_of (drop l.i l.left))) (types (map type_of (drop l.i l.right))) ≡ all_compatible (types (map type_of l.left)) (types (map type_of l.right))
