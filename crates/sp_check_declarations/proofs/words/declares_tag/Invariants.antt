use Rattle.std.proofs.Common.{◌≡◌, drop}
use Rattle.sp_parse_trees.specs.View.{specifiers_of}
use Rattle.sp_check_declarations.specs.Words.{declares_tag}
use Rattle.sp_check_declarations.proofs.words.declares_tag.Given as goal

abbrev pub invariant-specifiers : goal.invariant-specifiers
invariant-specifiers l = declares_tag (specifiers_of (drop l.i l.specifiers)) ≡ declares_tag (specifiers_of l.specifiers)
