use Rattle.std.proofs.Common.{◌∙◌}
use Rattle.sp_lexer.proofs.MarkLaws.{mark-from, mark-none}
use Rattle.sp_lexer.proofs.marks.mark_at.Goals as goal

pub loop-mark-init : goal.loop-mark-init
loop-mark-init c = rw c.marks_from-mark-items.ensures (mark-from _ _ _ c.in_ok-first.ensures.cases.0)

pub returns-in_err-first : goal.returns-in_err-first
returns-in_err-first c = c.from_residual.ensures ∙ mark-none _ c.in_err-first.ensures.cases
