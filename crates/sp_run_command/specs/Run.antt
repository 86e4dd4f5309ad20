-- How a run ends: what each status says of what was read and written.
use Rattle.std.specs.Prelude.{◌≡◌, ◌⊎◌, ℕ, ◌<◌, ◌≤◌, Bool, List, map, Option, Some, None, length, take, String, string_bytes}
use Rattle.std.specs.declared.alloc.Global.{Global}
use Rattle.std.specs.Io.KnownBytes.{Appends}
use Rattle.sp_tree.specs.declared.fault.FaultKind.TheVariants.{TextTooLong, TooManyFiles}
use Rattle.sp_outside.specs.Told.{Told}
use Rattle.sp_outside.specs.Counts.{Rose}
use Rattle.sp_run_words.specs.Words.{Asked, fits}
use Rattle.sp_front.specs.Sources.{Source, AreWithin, most_files}
use Rattle.sp_run_command.specs.declared.status.Status.{Status}
use Rattle.sp_run_command.specs.declared.status.Status.TheVariants.{Clean, Alarms, Refused, Usage, ReadFault, WriteFault, NoMemory}
use Rattle.sp_run_command.specs.Words.{usage_text}
use Rattle.sp_run_command.specs.Reading.{AreRead, IsPastFiles, IsPastBytes, FailsAt}
use Rattle.sp_run_command.specs.Refusals.{refusal_text}
use Rattle.sp_run_command.specs.Answers.{IsAnswer, IsSteppedFor}

-- what the files and the sink tell
pub record World : Type 0 where
  pub asked : Option (List ℕ)
  pub begun : Bool
  pub at : Option ℕ
  pub read_faults : ℕ
  pub written : Option (List ℕ)
  pub write_faults : ℕ

-- ---- answers

-- the bytes of the words
abbrev pub bytes_of : List (String Global) → List (List ℕ)
bytes_of words = map (λ w. string_bytes w) words

-- The bytes refuse what is asked for before a file is scanned: the first file past their limit, or the first
-- with whose text they are past that of bytes.
pub data IsUnread (texts : List ℕ → Told) (files : List (List ℕ)) (bytes : List ℕ) : Type 0 where
  many_files : (name : List ℕ) → IsPastFiles files name → bytes ≡ refusal_text name TooManyFiles → IsUnread texts files bytes
  many_bytes :
      (name : List ℕ) → length files ≤ most_files → IsPastBytes texts files name
      → bytes ≡ refusal_text name TextTooLong → IsUnread texts files bytes

-- The files are read, and the bytes are the answer to them.
pub record IsReadTo (texts : List ℕ → Told) (request : Asked) (status : Status) (bytes : List ℕ) : Type 0 where
  pub sources : List Source
  pub read : AreRead texts request.files sources
  pub within : AreWithin sources
  pub answer : IsAnswer request.task sources status bytes

-- The bytes are the answer to what is asked for, with this status.
abbrev pub Answers : (List ℕ → Told) → Asked → Status → List ℕ → Type 0
Answers texts request status bytes =
    IsReadTo texts request status bytes ⊎ ((status ≡ Refused) × IsUnread texts request.files bytes)

-- the bytes are the answer to the words: the usage line where they don't fit
abbrev pub IsWhole : List (List ℕ) → (List ℕ → Told) → List ℕ → Type 0
IsWhole words texts bytes = ((fits words ≡ None) × (bytes ≡ usage_text))
    ⊎ ((request : Asked) × (fits words ≡ Some request) × ((status : Status) × Answers texts request status bytes))

-- ---- ends

-- the files tell the same as before: none was begun
pub record IsUnasked (old new : World) : Type 0 where
  pub same_asked : new.asked ≡ old.asked
  pub same_begun : new.begun ≡ old.begun
  pub same_at : new.at ≡ old.at
  pub same_faults : new.read_faults ≡ old.read_faults

pub record IsAnswered (words : List (List ℕ)) (texts : List ℕ → Told) (status : Status) (old new : World) : Type 0 where
  pub request : Asked
  pub fitting : fits words ≡ Some request
  pub bytes : List ℕ
  pub answers : Answers texts request status bytes
  pub grown : Appends old.written new.written bytes
  -- no file is begun where there are too many
  pub unasked : most_files < length request.files → IsUnasked old new

pub record IsUsage (words : List (List ℕ)) (old new : World) : Type 0 where
  pub misfit : fits words ≡ None
  pub grown : Appends old.written new.written usage_text
  pub unasked : IsUnasked old new

-- the limits aren't passed up to the file of which a read failed
pub record IsReadFault (words : List (List ℕ)) (texts : List ℕ → Told) (old new : World) : Type 0 where
  pub request : Asked
  pub fitting : fits words ≡ Some request
  pub few : length request.files ≤ most_files
  pub fails : FailsAt texts request.files new.asked new.begun old.read_faults new.read_faults
  pub unwritten : new.written ≡ old.written

pub record IsWriteFault (words : List (List ℕ)) (texts : List ℕ → Told) (old new : World) : Type 0 where
  pub bytes : List ℕ
  pub whole : IsWhole words texts bytes
  pub sent : ℕ
  pub less : sent < length bytes
  pub prefix : Appends old.written new.written (take sent bytes)
  pub rose : Rose old.write_faults new.write_faults

-- what each status says
abbrev pub Ends : List (List ℕ) → (List ℕ → Told) → World → World → Status → Type 0
Ends words texts old new Clean = IsAnswered words texts Clean old new
Ends words texts old new Alarms = IsAnswered words texts Alarms old new
Ends words texts old new Refused = IsAnswered words texts Refused old new
Ends words texts old new Usage = IsUsage words old new
Ends words texts old new ReadFault = IsReadFault words texts old new
Ends words texts old new WriteFault = IsWriteFault words texts old new
Ends words texts old new NoMemory = new.written ≡ old.written

-- nothing was evaluated; or the files that are asked for are within the limits, and it is at most what
-- may be evaluated for what is wanted of their program
abbrev pub IsSteppedAsked : (List ℕ → Told) → Asked → ℕ → ℕ → Type 0
IsSteppedAsked texts request before after = (after ≡ before)
    ⊎ ((sources : List Source) × AreRead texts request.files sources × AreWithin sources
    × IsSteppedFor request.task sources before after)

-- and those of the words
abbrev pub IsSteppedBy : List (List ℕ) → (List ℕ → Told) → ℕ → ℕ → Type 0
IsSteppedBy words texts before after = (after ≡ before)
    ⊎ ((request : Asked) × ((fits words ≡ Some request) × IsSteppedAsked texts request before after))

-- the exit status of a program that ends so
abbrev pub exit_status : Status → ℕ
exit_status Clean = 0
exit_status Alarms = 1
exit_status Refused = 2
exit_status Usage = 3
exit_status ReadFault = 4
exit_status WriteFault = 5
exit_status NoMemory = 6

-- writing bytes for a status: all were written, or a front, and then it is `WriteFault`
abbrev pub IsWriting : Status → Status → List ℕ → Option (List ℕ) → Option (List ℕ) → ℕ → ℕ → Type 0
IsWriting result status bytes old new faults more = ((result ≡ status) × Appends old new bytes) ⊎ ((result ≡ WriteFault) × Rose faults more × ((sent : ℕ) × (sent < length bytes) × Appends old new (take sent bytes)))

-- a status with which an answer is written whole
abbrev pub IsDone : Status → Type 0
IsDone Clean = Unit {0}
IsDone Alarms = Unit {0}
IsDone Refused = Unit {0}
IsDone Usage = ⊥
IsDone ReadFault = ⊥
IsDone WriteFault = ⊥
IsDone NoMemory = ⊥
