use Rattle.std.proofs.Common.{None, sym, ◌∙◌}
use Rattle.sp_lexer.proofs.NamedLaws.{gap_adds}
use Rattle.sp_lexer.proofs.pieces.pass_piece.Goals as goal

pub returns-in-Blank-clause-step : goal.returns-in-Blank-clause-step
returns-in-Blank-clause-step c = c.pass_blank.ensures.step c.args.names.now

pub returns-in-LineComment-clause-step : goal.returns-in-LineComment-clause-step
returns-in-LineComment-clause-step c = c.pass_line_comment.ensures.step c.args.names.now

pub returns-in_ok-next-in-BlockComment-clause-step : goal.returns-in_ok-next-in-BlockComment-clause-step
returns-in_ok-next-in-BlockComment-clause-step c = c.in_ok-next-in-BlockComment.ensures.step c.args.names.now

pub returns-in_ok-next-in-MarkerLine-clause-step : goal.returns-in_ok-next-in-MarkerLine-clause-step
returns-in_ok-next-in-MarkerLine-clause-step c = c.in_ok-next-in-MarkerLine.ensures.step

pub returns-in_ok-kind-in-Spelling-clause-step : goal.returns-in_ok-kind-in-Spelling-clause-step
returns-in_ok-kind-in-Spelling-clause-step c = c.in_ok-kind-in-Spelling.ensures.step

pub returns-in-Blank-clause-named : goal.returns-in-Blank-clause-named
returns-in-Blank-clause-named c = gap_adds c.args.names.now c.args.text.now c.args.spot c.args.piece c.requires.piece (λ e. let same = sym c.in-Blank.is ∙ e in cc) (λ e. let same = sym c.in-Blank.is ∙ e in cc) None _ _ (c.pass_blank.ensures.step c.args.names.now)

pub returns-in-LineComment-clause-named : goal.returns-in-LineComment-clause-named
returns-in-LineComment-clause-named c = gap_adds c.args.names.now c.args.text.now c.args.spot c.args.piece c.requires.piece (λ e. let same = sym c.in-LineComment.is ∙ e in cc) (λ e. let same = sym c.in-LineComment.is ∙ e in cc) None _ _ (c.pass_line_comment.ensures.step c.args.names.now)

pub returns-in_ok-next-in-BlockComment-clause-named : goal.returns-in_ok-next-in-BlockComment-clause-named
returns-in_ok-next-in-BlockComment-clause-named c = gap_adds c.args.names.now c.args.text.now c.args.spot c.args.piece c.requires.piece (λ e. let same = sym c.in-BlockComment.is ∙ e in cc) (λ e. let same = sym c.in-BlockComment.is ∙ e in cc) None _ _ (c.in_ok-next-in-BlockComment.ensures.step c.args.names.now)
