use Rattle.std.proofs.Common.{◌≡◌, ◌++◌, take, map}
use Rattle.std.specs.List.{flat_map}
use Rattle.sp_ir.specs.View.{leaf_of}
use Rattle.sp_effect_checks.specs.Accesses.{leaf_accesses}
use Rattle.sp_effect_checks.specs.View.{access_of}
use Rattle.sp_effect_checks.proofs.accesses.add_leaves.Given as goal

abbrev pub invariant-loop-leaf : goal.invariant-loop-leaf
invariant-loop-leaf l = map access_of l.found.items ≡ map access_of l.initial.found.items
    ++ flat_map leaf_accesses (map leaf_of (take l.leaf-index l.leaves))
