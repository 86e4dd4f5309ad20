use Rattle.std.proofs.Common.{◌≡◌, drop}
use Rattle.sp_lexer.specs.Marks.{marks, mark_among}
use Rattle.sp_lexer.proofs.marks.mark_at.Given as goal

-- what is found among the marks that are left is found among all
abbrev pub invariant-loop-mark : goal.invariant-loop-mark
invariant-loop-mark l = mark_among l.text (drop l.mark-index l.mark-items) ≡ mark_among l.text marks
