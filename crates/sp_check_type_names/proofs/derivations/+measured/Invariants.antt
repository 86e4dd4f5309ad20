use Rattle.std.proofs.Common.{◌≡◌, ◌≤◌, map, drop, length}
use Rattle.sp_types.specs.View.{type_of, types}
use Rattle.sp_check_type_names.specs.Derivations.{derivations_in_types, parts_in_types}
use Rattle.sp_check_type_names.proofs.derivations.+measured.Given as goal

abbrev pub invariant-all_measured-types : goal.invariant-all_measured-types
invariant-all_measured-types l = record {
  within : l.left ≤ length l.all;
  derivations : l.sum.derivations ≡ derivations_in_types (types (map type_of (drop l.left l.all)));
  parts : l.sum.parts ≡ parts_in_types (types (map type_of (drop l.left l.all)));
}

abbrev pub decreases-all_measured-types : goal.decreases-all_measured-types
decreases-all_measured-types l = l.left
