use Rattle.std.proofs.Common.{◌∙◌}
use Rattle.sp_lexer.proofs.WordLaws.{keyword-from, keyword-none}
use Rattle.sp_lexer.proofs.words.keyword.Goals as goal

pub loop-keyword-init : goal.loop-keyword-init
loop-keyword-init c = rw c.keywords_from-keyword-items.ensures (keyword-from _ _ _ c.in_ok-first.ensures.cases.0)

pub returns-in_err-first : goal.returns-in_err-first
returns-in_err-first c = c.from_residual.ensures ∙ keyword-none _ c.in_err-first.ensures.cases
