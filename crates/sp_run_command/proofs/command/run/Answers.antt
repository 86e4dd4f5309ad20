use Rattle.std.proofs.Common.{◌≤◌, ◌≡◌, Some, None, Err, length, refl, sym, ap, ◌∙◌, inl, inr}
use Rattle.sp_run_words.specs.Words.{fits}
use Rattle.sp_run_words.specs.Words.{asked_of}
use Rattle.sp_run_command.specs.Words.{usage_text}
use Rattle.sp_run_command.specs.Run.{bytes_of}
use Rattle.sp_run_command.proofs.RunLaws.{ended, done_written, misfit, fitting}
use Rattle.sp_run_command.proofs.command.run.Goals as goal

pub returns-in-Ok-None-clause-writes : goal.returns-in-Ok-None-clause-writes
returns-in-Ok-None-clause-writes g c failing left room all is =
    let none : fits (bytes_of c.args.words.now) ≡ None = misfit c.in-Ok-None.field-0 (fits (bytes_of c.args.words.now)) c.in-Ok-None.ensures c.in-Ok-None.field-0-is in
    let r = c.write_out.ensures.room failing left room (all usage_text (inl (none, refl))) in cc

pub returns-in-Ok-clause-ends : goal.returns-in-Ok-clause-ends
returns-in-Ok-clause-ends g c =
    let request = c.in-Ok-Some.request in
    let fitted : fits (bytes_of c.args.words.now) ≡ Some (asked_of request) =
    fitting c.in-Ok-Some.field-0 (fits (bytes_of c.args.words.now)) request c.in-Ok-Some.ensures (c.in-Ok-Some.field-0-is ∙ ap Some c.in-Ok-Some.request-is) in
    ended (bytes_of c.args.words.now) (g.F.Files.text_of c.args.files.now) (asked_of request) _ _ c.in-Ok.answer.status c.write_out-in-Ok.result c.in-Ok.answer.text.items
    fitted c.in-Ok.ensures.done c.in-Ok.ensures.answer
    (λ many. let same = c.in-Ok.ensures.unasked many in record { same_asked = ap g.F.Files.asked same; same_begun = ap g.F.Files.begun same; same_at = ap g.F.Files.at same; same_faults = ap g.F.Files.faults same })
    (rw c.deref.ensures.value at c.write_out-in-Ok.ensures.written)

pub returns-in-Ok-clause-writes : goal.returns-in-Ok-clause-writes
returns-in-Ok-clause-writes g c failing left room all is =
    let request = c.in-Ok-Some.request in
    let fitted : fits (bytes_of c.args.words.now) ≡ Some (asked_of request) =
    fitting c.in-Ok-Some.field-0 (fits (bytes_of c.args.words.now)) request c.in-Ok-Some.ensures (c.in-Ok-Some.field-0-is ∙ ap Some c.in-Ok-Some.request-is) in
    let room_for : length c.deref.result.now ≤ left = rw c.deref.ensures.value (all c.in-Ok.answer.text.items (inr (asked_of request, fitted, (c.in-Ok.answer.status, c.in-Ok.ensures.answer)))) in
    let r = c.write_out-in-Ok.ensures.room failing left room room_for in
    done_written c.in-Ok.answer.status c.in-Ok.ensures.done (sym r ∙ is)

pub returns-in-Err-ReadFault-clause-reads : goal.returns-in-Err-ReadFault-clause-reads
returns-in-Err-ReadFault-clause-reads g c failing all is =
    let request = c.in-Ok-Some.request in
    let fitted : fits (bytes_of c.args.words.now) ≡ Some (asked_of request) =
    fitting c.in-Ok-Some.field-0 (fits (bytes_of c.args.words.now)) request c.in-Ok-Some.ensures (c.in-Ok-Some.field-0-is ∙ ap Some c.in-Ok-Some.request-is) in
    c.in-Err-ReadFault.ensures.reads failing (λ name there. all (asked_of request) fitted name there) (ap Err c.in-Err-ReadFault.field-0-is)

pub returns-in-Err-ReadFault-clause-ends : goal.returns-in-Err-ReadFault-clause-ends
returns-in-Err-ReadFault-clause-ends g c =
    let request = c.in-Ok-Some.request in
    let fault = c.in-Err-ReadFault.ensures.fault (ap Err c.in-Err-ReadFault.field-0-is) in
    record {
      request = asked_of request;
      fitting = fitting c.in-Ok-Some.field-0 (fits (bytes_of c.args.words.now)) request c.in-Ok-Some.ensures (c.in-Ok-Some.field-0-is ∙ ap Some c.in-Ok-Some.request-is);
      few = fault.0;
      fails = fault.1;
      unwritten = refl;
    }
