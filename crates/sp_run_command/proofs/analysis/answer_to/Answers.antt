use Rattle.std.proofs.Common.{map, Err, ap, ◌∙◌, subst}
use Rattle.sp_run_command.specs.Refusals.{fault_text}
use Rattle.std.proofs.lemmas.Result.{IfOk-weaker}
use Rattle.sp_ir.specs.Programs.{lowered_of}
use Rattle.sp_front.specs.Sources.{source_of}
use Rattle.sp_front.specs.Answers as front
use Rattle.sp_run_command.specs.Answers.{accepted, refused}
use Rattle.sp_run_command.proofs.AnswerLaws.{by_both}
use Rattle.sp_run_command.proofs.analysis.answer_to.Goals as goal

pub returns-in-Ok-clause-answer : goal.returns-in-Ok-clause-answer
returns-in-Ok-clause-answer g c =
    IfOk-weaker c.answer_on.result _ _ (λ a h. accepted c.lowered_of.new.names (lowered_of c.in-Ok.lowered) c.in-Ok.ensures h) c.answer_on.ensures.answer

pub returns-in-Err-Fault-clause-answer : goal.returns-in-Err-Fault-clause-answer
returns-in-Err-Fault-clause-answer g c =
    let stands = subst (λ e. front.Answers (map source_of c.args.sources.now) c.lowered_of.new.names (Err e)) c.in-Err-Fault.field-0-is c.in-Err-Fault.ensures in
    by_both c.refusal_at.result _ _ _ (λ a status text. refused c.lowered_of.new.names c.in-Err-Fault.fault stands (text ∙ ap (fault_text c.lowered_of.new.names) c.in-Err-Fault.fault-is) status)
    c.refusal_at.ensures.status c.refusal_at.ensures.text
