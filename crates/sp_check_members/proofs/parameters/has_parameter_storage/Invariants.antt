use Rattle.std.proofs.Common.{◌≡◌, drop}
use Rattle.sp_parse_trees.specs.View.{specifiers_of}
use Rattle.sp_check_members.specs.Parameters.{has_parameter_storage}
use Rattle.sp_check_members.proofs.parameters.has_parameter_storage.Given as goal

abbrev pub invariant-specifiers : goal.invariant-specifiers
invariant-specifiers l = has_parameter_storage (specifiers_of (drop l.i l.specifiers)) ≡ has_parameter_storage (specifiers_of l.specifiers)
