use Rattle.std.proofs.Common.{◌≡◌, ◌++◌, map, drop}
use Rattle.sp_types.specs.View.{type_of}
use Rattle.sp_check_primaries.proofs.Pairwise.{pairwise}
use Rattle.sp_check_primaries.proofs.composites.+composite.Given as goal

abbrev pub invariant-composites-parameters : goal.invariant-composites-parameters
invariant-composites-parameters l =
    map type_of l.all.items ++ pairwise (map type_of (drop l.i l.left)) (map type_of (drop l.i l.right))
    ≡ pairwise (map type_of l.left) (map type_of l.right)
