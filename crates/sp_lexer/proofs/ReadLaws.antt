-- Laws of what a spelling stands for.
use Rattle.std.proofs.Common.{◌≡◌, ℕ, false, List, Some, None, Ok, ap, ◌∙◌}
use Rattle.sp_tree.specs.declared.token.Keyword.{Keyword}
use Rattle.sp_lexer.specs.Scan.{identifier, keyword, is_wide, word_of, unless_keyword, unless_refused}
use Rattle.sp_lexer.specs.Words.{keyword_of, refused_word}

pub keyword-reads : (front next : List ℕ) (k : Keyword) → Some k ≡ keyword_of front → Ok (keyword k) ≡ word_of front next
keyword-reads front next k e = ap (λ o. unless_keyword o (unless_refused (refused_word front) (is_wide front next) front)) e

pub name-reads : (front next : List ℕ) → None ≡ keyword_of front → None ≡ refused_word front → false ≡ is_wide front next → Ok (identifier front) ≡ word_of front next
name-reads front next e f g =
    ap (λ b. unless_keyword None (unless_refused None b front)) g ∙ ap (λ o. unless_keyword None (unless_refused o (is_wide front next) front)) f ∙ ap (λ o. unless_keyword o (unless_refused (refused_word front) (is_wide front next) front)) e
