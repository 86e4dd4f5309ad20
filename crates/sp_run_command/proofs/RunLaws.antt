-- From what was read and written to the end of a run.
use Rattle.std.proofs.Common.{◌≡◌, ◌≢◌, ◌<◌, ℕ, length, inl, inr, List, Option, Some, None, option_map, sym, ap, ◌∙◌, subst}
use Rattle.sp_outside.specs.Told.{Told}
use Rattle.sp_front.specs.Sources.{most_files}
use Rattle.sp_run_words.specs.declared.request.Request.{Request}
use Rattle.sp_run_words.specs.Words.{Asked, fits}
use Rattle.sp_run_words.specs.Words.{asked_of}
use Rattle.sp_run_command.specs.declared.status.Status.{Status}
use Rattle.sp_run_command.specs.declared.status.Status.TheVariants.{Clean, Alarms, Refused, Usage, ReadFault, WriteFault, NoMemory}
use Rattle.sp_run_command.specs.Run.{World, Answers, Ends, IsUnasked, IsWriting, IsDone}

pub ended : (words : List (List ℕ)) (texts : List ℕ → Told) (request : Asked) (old new : World) (status result : Status) (bytes : List ℕ)
    → fits words ≡ Some request → IsDone status → Answers texts request status bytes
    → (most_files < length request.files → IsUnasked old new) → IsWriting result status bytes old.written new.written old.write_faults new.write_faults → Ends words texts old new result
ended words texts request old new status result bytes fitting done answers unasked (inl p) = subst (Ends words texts old new) (sym p.0) (by_status status done answers)
  where
    by_status : (s : Status) → IsDone s → Answers texts request s bytes → Ends words texts old new s
    by_status Clean d a = record { request = request; fitting = fitting; bytes = bytes; answers = a; grown = p.1; unasked = unasked }
    by_status Alarms d a = record { request = request; fitting = fitting; bytes = bytes; answers = a; grown = p.1; unasked = unasked }
    by_status Refused d a = record { request = request; fitting = fitting; bytes = bytes; answers = a; grown = p.1; unasked = unasked }
    by_status Usage d a = absurd d
    by_status ReadFault d a = absurd d
    by_status WriteFault d a = absurd d
    by_status NoMemory d a = absurd d
ended words texts request old new status result bytes fitting done answers unasked (inr p) = subst (Ends words texts old new) (sym p.0) (record {
  bytes = bytes;
  whole = inr (request, fitting, (status, answers));
  sent = p.2.0;
  less = p.2.1;
  prefix = p.2.2;
  rose = p.1;
})

pub done_written : (status : Status) → IsDone status → status ≢ WriteFault
done_written Clean d e = cc
done_written Alarms d e = cc
done_written Refused d e = cc
done_written Usage d e = d
done_written ReadFault d e = d
done_written WriteFault d e = d
done_written NoMemory d e = d

-- ---- what the words ask for

pub misfit : (r : Option Request) (asked : Option Asked) → option_map (λ q. asked_of q) r ≡ asked → r ≡ None → asked ≡ None
misfit r asked e is = sym e ∙ ap (option_map (λ q. asked_of q)) is

pub fitting : (r : Option Request) (asked : Option Asked) (q : Request) → option_map (λ q. asked_of q) r ≡ asked → r ≡ Some q
    → asked ≡ Some (asked_of q)
fitting r asked q e is = sym e ∙ ap (option_map (λ q. asked_of q)) is
