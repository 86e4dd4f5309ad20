use Rattle.std.proofs.Common.{◌≤◌, inl, inr, map, length, subst}
use Rattle.sp_front.specs.Sources.{source_of, most_files, AreWithin}
use Rattle.sp_run_command.specs.Reading.{IsPastFiles, IsPastBytes, Explains}
use Rattle.sp_run_command.specs.Run.{many_files, many_bytes}
use Rattle.sp_run_command.proofs.ReadingLaws.{bytes, past-files, few-files, within-limits}
use Rattle.sp_run_command.proofs.command.answer_of.Goals as goal

pub returns-in-Some-clause-answer : goal.returns-in-Some-clause-answer
returns-in-Some-clause-answer g c =
    let past : IsPastFiles (bytes c.deref.result.now) c.in-Some.name.now.now = past-files c.deref.result.now c.in-Some.name.now c.in-Some.ensures.lookup.3.0 c.in-Some.ensures.lookup.1 in
    inr (c.in_ok-refusal.ensures.status, many_files c.in-Some.name.now.now (rw c.deref.ensures.value at past) c.in_ok-refusal.ensures.text)

pub answer_to-requires : goal.answer_to-requires
answer_to-requires g c =
    let read = rw c.deref-2.ensures.value at c.in-Ok.ensures.read in
    let few = rw c.deref.ensures.value at c.in_default.ensures.lookup.3 in
    let within : AreWithin (map source_of c.in-Ok.sources.items) = within-limits (g.F.Files.text_of c.args.files.now) c.args.request.now.files.items (map source_of c.in-Ok.sources.items) few read c.in-Ok.ensures.fits in
    rw c.deref-in-Ok.ensures.value within

pub returns-in_ok-answer_to-in-Ok-clause-answer : goal.returns-in_ok-answer_to-in-Ok-clause-answer
returns-in_ok-answer_to-in-Ok-clause-answer g c = inl (record {
  sources = map source_of c.in-Ok.sources.items;
  read = rw c.deref-2.ensures.value at c.in-Ok.ensures.read;
  within = within-limits (g.F.Files.text_of c.args.files.now) c.args.request.now.files.items (map source_of c.in-Ok.sources.items)
      (rw c.deref.ensures.value at c.in_default.ensures.lookup.3) (rw c.deref-2.ensures.value at c.in-Ok.ensures.read) c.in-Ok.ensures.fits;
  answer = rw c.deref-in-Ok.ensures.value at c.in_ok-answer_to-in-Ok.ensures.answer;
})

pub returns-in_ok-refusal-in-Err-TooLong-clause-answer :
    goal.returns-in_ok-refusal-in-Err-TooLong-clause-answer
returns-in_ok-refusal-in-Err-TooLong-clause-answer g c =
    let few : length (bytes c.deref.result.now) ≤ most_files = few-files c.deref.result.now c.in_default.ensures.lookup.3 in
    let past : IsPastBytes (g.F.Files.text_of c.args.files.now) (bytes c.deref-2.result.now) c.in-Err-TooLong.name.now =
    subst (λ e. Explains (g.F.Files.text_of c.args.files.now) (bytes c.deref-2.result.now) (g.F.Files.asked c.read_sources.new.files) (g.F.Files.begun c.read_sources.new.files) (g.F.Files.faults c.args.files.now) (g.F.Files.faults c.read_sources.new.files) e) c.in-Err-TooLong.field-0-is c.in-Err-TooLong.ensures.error in
    inr (
      c.in_ok-refusal-in-Err-TooLong.ensures.status,
      many_bytes c.in-Err-TooLong.name.now (rw c.deref.ensures.value at few)
          (rw c.deref-2.ensures.value at past) c.in_ok-refusal-in-Err-TooLong.ensures.text,
    )

pub returns-in_err-answer_to-in-Ok-clause-steps : goal.returns-in_err-answer_to-in-Ok-clause-steps
returns-in_err-answer_to-in-Ok-clause-steps g c = inr (
  map source_of c.in-Ok.sources.items,
  rw c.deref-2.ensures.value at c.in-Ok.ensures.read,
  within-limits (g.F.Files.text_of c.args.files.now) c.args.request.now.files.items (map source_of c.in-Ok.sources.items)
      (rw c.deref.ensures.value at c.in_default.ensures.lookup.3) (rw c.deref-2.ensures.value at c.in-Ok.ensures.read) c.in-Ok.ensures.fits,
  rw c.deref-in-Ok.ensures.value at c.answer_to.ensures.steps,
)

pub returns-in_ok-answer_to-in-Ok-clause-steps : goal.returns-in_ok-answer_to-in-Ok-clause-steps
returns-in_ok-answer_to-in-Ok-clause-steps g c = inr (
  map source_of c.in-Ok.sources.items,
  rw c.deref-2.ensures.value at c.in-Ok.ensures.read,
  within-limits (g.F.Files.text_of c.args.files.now) c.args.request.now.files.items (map source_of c.in-Ok.sources.items)
      (rw c.deref.ensures.value at c.in_default.ensures.lookup.3) (rw c.deref-2.ensures.value at c.in-Ok.ensures.read) c.in-Ok.ensures.fits,
  rw c.deref-in-Ok.ensures.value at c.answer_to.ensures.steps,
)
