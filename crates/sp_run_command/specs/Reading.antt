-- The files of a command as they are read, one after another.
use Rattle.std.specs.Prelude.{◌≡◌, ◌<◌, ◌≤◌, ◌+◌, ℕ, Bool, false, List, [], ◌∷◌, ◌++◌, length, Option, Some, ⊤}
use Rattle.sp_outside.specs.Told.{Told, untold, missing, held}
use Rattle.sp_outside.specs.Counts.{Rose}
use Rattle.sp_front.specs.Sources.{Source, total_length, most_files, max_text}
use Rattle.sp_run_command.specs.declared.reading.Unread.{Unread}
use Rattle.sp_run_command.specs.declared.reading.Unread.TheVariants.{TooLong, Fault, NoMemory}

-- P holds of the text, where it is told; of a name that is told to have none nothing holds
abbrev pub IfReadable : Told → (List ℕ → Type 0) → Type 0
IfReadable untold P = Unit {0}
IfReadable missing P = ⊥
IfReadable (held text) P = P text

-- names, and the files that are read under them
pub data AreRead (texts : List ℕ → Told) : List (List ℕ) → List Source → Type 0 where
  none : AreRead texts [] []
  another :
      {names : List (List ℕ)} {sources : List Source} → AreRead texts names sources
      → (s : Source) → IfReadable (texts s.name) (λ text. s.text ≡ text)
      → AreRead texts (names ++ s.name ∷ []) (sources ++ s ∷ [])

-- the first name behind as many as are taken
pub record IsPastFiles (names : List (List ℕ)) (name : List ℕ) : Type 0 where
  pub before : List (List ℕ)
  pub after : List (List ℕ)
  pub whole_is : names ≡ before ++ name ∷ after
  pub most : length before ≡ most_files

-- one of the names, and the files before it, which aren't past the limit of bytes
pub record IsNext (texts : List ℕ → Told) (names : List (List ℕ)) (name : List ℕ) (sources : List Source) : Type 0 where
  pub before : List (List ℕ)
  pub after : List (List ℕ)
  pub whole_is : names ≡ before ++ name ∷ after
  pub read : AreRead texts before sources
  pub fits : total_length sources ≤ max_text

-- the first name with whose text the files are past the limit of bytes
pub record IsPastBytes (texts : List ℕ → Told) (names : List (List ℕ)) (name : List ℕ) : Type 0 where
  pub sources : List Source
  pub next : IsNext texts names name sources
  pub past : IfReadable (texts name) (λ text. max_text < total_length sources + length text)

-- ---- why files aren't read

-- a read of this name failed: it was asked for and isn't open, and the count rose
pub record IsFault (asked : Option (List ℕ)) (begun : Bool) (name : List ℕ) (before after : ℕ) : Type 0 where
  pub asked_is : asked ≡ Some name
  pub closed : begun ≡ false
  pub rose : Rose before after

-- one of the names, of which a read failed
pub record FailsAt (texts : List ℕ → Told) (names : List (List ℕ)) (asked : Option (List ℕ)) (begun : Bool) (before after : ℕ) : Type 0 where
  pub name : List ℕ
  pub sources : List Source
  pub next : IsNext texts names name sources
  pub fault : IsFault asked begun name before after

-- what the error tells of names, and of what the files tell before and after
abbrev pub Explains : (List ℕ → Told) → List (List ℕ) → Option (List ℕ) → Bool → ℕ → ℕ → Unread → Type 0
Explains texts names asked begun before after (TooLong name) = IsPastBytes texts names name.now
Explains texts names asked begun before after Fault = FailsAt texts names asked begun before after
Explains texts names asked begun before after NoMemory = ⊤

-- and of one name, whose text may have so many bytes
abbrev pub IsCauseAt : (List ℕ → Told) → List ℕ → ℕ → Option (List ℕ) → Bool → ℕ → ℕ → Unread → Type 0
IsCauseAt texts name room asked begun before after (TooLong given) =
    (given.now ≡ name) × IfReadable (texts name) (λ text. room < length text)
IsCauseAt texts name room asked begun before after Fault = IsFault asked begun name before after
IsCauseAt texts name room asked begun before after NoMemory = ⊤
