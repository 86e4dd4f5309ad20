use Rattle.std.proofs.Common.{◌≡◌, drop}
use Rattle.std.specs.Prelude.{bytes_eq}
use Rattle.std.specs.List.{find}
use Rattle.sp_tree.specs.Spellings.{keyword_spelling}
use Rattle.sp_lexer.specs.Words.{keyword_of}
use Rattle.sp_lexer.proofs.words.keyword.Given as goal

-- what is found among the keywords that are left is found among all
abbrev pub invariant-loop-keyword : goal.invariant-loop-keyword
invariant-loop-keyword l = find (λ k. bytes_eq (keyword_spelling k) l.word) (drop l.keyword-index l.keyword-items) ≡ keyword_of l.word
