use Rattle.std.proofs.Common.{ap}
use Rattle.sp_ir.specs.Programs.{lowered_of}
use Rattle.sp_run_command.proofs.AnswerLaws.{by_both, reported-densely, too-large-densely}
use Rattle.sp_run_command.proofs.analysis.answer_densely.Goals as goal

pub returns-in-Reported-clause-answer : goal.returns-in-Reported-clause-answer
returns-in-Reported-clause-answer g c =
    reported-densely (lowered_of c.args.lowered) c.args.names.now c.args.wanted _ _ c.reported.result.status c.reported.result.text.items
    c.in_ok-report.field-0 c.in-Reported.report c.in_ok-report.ensures.ends c.in-Reported.is (ap (λ t. t.items) c.reported.ensures.text) c.reported.ensures.status

pub returns-in-TooLarge-clause-answer : goal.returns-in-TooLarge-clause-answer
returns-in-TooLarge-clause-answer g c =
    by_both c.too_large.result _ _ _
    (λ a refused same. too-large-densely (lowered_of c.args.lowered) c.args.names.now c.args.wanted _ _ a.status a.text.items
    c.in_ok-report.field-0 c.in-TooLarge.cells c.in_ok-report.ensures.ends c.in-TooLarge.is refused same)
    c.too_large.ensures.status c.too_large.ensures.text
