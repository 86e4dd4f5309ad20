use Rattle.std.proofs.Common.{◌≡◌, ◌≤◌, map, drop, length}
use Rattle.sp_types.specs.View.{type_of, types}
use Rattle.sp_link_renaming.specs.Renaming.{renamed_types}
use Rattle.sp_link_renaming.proofs.types.+keeps.Given as goal

abbrev pub invariant-keeps_all-these : goal.invariant-keeps_all-these
invariant-keeps_all-these l = record {
  within : l.left ≤ length l.these;
  behind : renamed_types l.structs (types (map type_of (drop l.left l.these))) ≡ types (map type_of (drop l.left l.these));
}

abbrev pub decreases-keeps_all-these : goal.decreases-keeps_all-these
decreases-keeps_all-these l = l.left
