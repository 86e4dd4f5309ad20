use Rattle.std.proofs.Common.{◌≡◌, drop}
use Rattle.sp_parse_trees.specs.View.{specifiers_of}
use Rattle.sp_check_declarations.specs.Words.{storage_class}
use Rattle.sp_check_declarations.proofs.words.storage_class.Given as goal

abbrev pub invariant-specifiers : goal.invariant-specifiers
invariant-specifiers l = storage_class (specifiers_of (drop l.i l.specifiers)) ≡ storage_class (specifiers_of l.specifiers)
