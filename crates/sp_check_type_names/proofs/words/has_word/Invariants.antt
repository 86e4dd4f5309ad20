use Rattle.std.proofs.Common.{◌≡◌, drop}
use Rattle.sp_parse_trees.specs.View.{specifiers_of}
use Rattle.sp_check_type_names.specs.Words.{has_word}
use Rattle.sp_check_type_names.proofs.words.has_word.Given as goal

abbrev pub invariant-specifiers : goal.invariant-specifiers
invariant-specifiers l = has_word l.word (specifiers_of (drop l.i l.specifiers)) ≡ has_word l.word (specifiers_of l.specifiers)
