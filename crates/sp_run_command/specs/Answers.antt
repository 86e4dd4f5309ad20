-- What is written for files, and with which status.
use Rattle.std.specs.Prelude.{◌≡◌, ◌⊎◌, ◌<◌, ◌≤◌, ℕ, zero, suc, Bool, List}
use Rattle.sp_tree.specs.declared.fault.Fault.{Fault}
use Rattle.sp_tree.specs.declared.fault.FaultKind.{FaultKind}
use Rattle.sp_tree.specs.declared.fault.FaultKind.TheVariants.{TooManyDependencies, TooManySlots}
use Rattle.sp_ir.specs.Programs.{Lowered}
use Rattle.sp_lower.specs.Programs.{start_place}
use Rattle.sp_dense.specs.Solution.{cells, most_cells}
use Rattle.sp_transfer.specs.Equations.{Equations, meaning_of}
use Rattle.sp_deps.specs.Answer.{HasTooMany}
use Rattle.sp_run_indirect.specs.Told.{AreCallsOf}
use Rattle.sp_run_analysis.specs.declared.reports.Wanted.{Wanted}
use Rattle.sp_run_analysis.specs.Outcomes.{AreEquationsOf, IsReportOf, IsStepped}
use Rattle.sp_run_analysis.specs.Sparse.{AreKept, IsServed}
use Rattle.sp_run_words.specs.declared.request.Engine.{Engine}
use Rattle.sp_run_words.specs.declared.request.Engine.TheVariants.{Sparse, Dense}
use Rattle.sp_run_words.specs.declared.request.Task.{Task}
use Rattle.sp_run_words.specs.declared.request.Task.TheVariants.{Report, Calls}
use Rattle.sp_front.specs.Sources.{Source}
use Rattle.sp_front.specs.Answers.{IsLoweredOf, AreRefused}
use Rattle.sp_run_command.specs.Refusals.{fault_text}
use Rattle.sp_run_command.specs.declared.status.Status.{Status}
use Rattle.sp_run_command.specs.declared.status.Status.TheVariants.{Clean, Alarms, Refused, Usage, ReadFault, WriteFault, NoMemory}

-- ---- a program

-- the equations aren't past the limit of an engine
abbrev pub IsWithin : Engine → Equations → Type 0
IsWithin Sparse e = AreKept e
IsWithin Dense e = cells (meaning_of e) ≤ most_cells

-- they are, and this tells it
abbrev pub IsPast : Engine → Equations → FaultKind → Type 0
IsPast Sparse e kind = HasTooMany (meaning_of e) × (kind ≡ TooManyDependencies)
IsPast Dense e kind = (most_cells < cells (meaning_of e)) × (kind ≡ TooManySlots (cells (meaning_of e)))

-- The bytes are the report on a program, and it lists so many alarms.
pub record HasReport (engine : Engine) (wanted : Wanted) (p : Lowered) (names : List (List ℕ)) (count : ℕ) (bytes : List ℕ) : Type 0 where
  pub equations : Equations
  pub are : AreEquationsOf p wanted.sharp equations
  pub within : IsWithin engine equations
  pub report : IsReportOf names wanted equations bytes count

-- A program is past the limit of an engine, and the bytes refuse it where the first file begins.
pub record IsTooLarge (engine : Engine) (sharp : Bool) (p : Lowered) (names : List (List ℕ)) (bytes : List ℕ) : Type 0 where
  pub equations : Equations
  pub are : AreEquationsOf p sharp equations
  pub kind : FaultKind
  pub past : IsPast engine equations kind
  pub bytes_are : bytes ≡ fault_text names (record { kind = kind; place = start_place })

-- the status of a report that lists so many alarms
abbrev pub reporting : ℕ → Status
reporting zero = Clean
reporting (suc n) = Alarms

-- The bytes are what is written for a program, with this status.
pub data IsAnswerTo (engine : Engine) (wanted : Wanted) (p : Lowered) (names : List (List ℕ)) (status : Status) (bytes : List ℕ) : Type 0 where
  reported : (count : ℕ) → status ≡ reporting count → HasReport engine wanted p names count bytes → IsAnswerTo engine wanted p names status bytes
  too_large : status ≡ Refused → IsTooLarge engine wanted.sharp p names bytes → IsAnswerTo engine wanted p names status bytes

-- nothing was evaluated; or the program isn't past the engine's limit, and there are at most as many
-- evaluations as the engine may use on it
abbrev pub IsCounted : Engine → Lowered → Bool → ℕ → ℕ → Type 0
IsCounted Sparse p sharp before after = IsServed p sharp before after
IsCounted Dense p sharp before after = IsStepped p sharp before after

-- ---- what is wanted of a program

-- The bytes are what is written, with this status: its report, or its indirect calls.
abbrev pub IsAnswerOn : Task → Lowered → List (List ℕ) → Status → List ℕ → Type 0
IsAnswerOn (Report engine sharp values nodes) p names status bytes =
    IsAnswerTo engine (record { sharp = sharp; values = values; nodes = nodes }) p names status bytes
IsAnswerOn Calls p names status bytes = (status ≡ Clean) × AreCallsOf p names bytes

-- an engine evaluates; for the indirect calls nothing is evaluated
abbrev pub IsCountedOn : Task → Lowered → ℕ → ℕ → Type 0
IsCountedOn (Report engine sharp values nodes) p before after = IsCounted engine p sharp before after
IsCountedOn Calls p before after = after ≡ before

-- ---- files

-- The bytes are what is written for files, with this status: what is written for their program; or they are
-- refused at the fault that stands.
pub data IsAnswer (task : Task) (sources : List Source) (status : Status) (bytes : List ℕ) : Type 0 where
  accepted :
      (names : List (List ℕ)) (p : Lowered) → IsLoweredOf sources names p
      → IsAnswerOn task p names status bytes → IsAnswer task sources status bytes
  refused :
      (names : List (List ℕ)) (fault : Fault) → AreRefused sources names fault
      → bytes ≡ fault_text names fault → status ≡ Refused → IsAnswer task sources status bytes

-- nothing was evaluated, or at most as much as may be on the program of these files, which aren't
-- refused
abbrev pub IsSteppedFor : Task → List Source → ℕ → ℕ → Type 0
IsSteppedFor task sources before after = (after ≡ before)
    ⊎ ((names : List (List ℕ)) × ((p : Lowered) × (IsLoweredOf sources names p × IsCountedOn task p before after)))

-- an answer that no evaluation went into
abbrev pub WithoutSteps : Status → Type 0 → Type 0
WithoutSteps Clean P = Unit {0}
WithoutSteps Alarms P = Unit {0}
WithoutSteps Refused P = P
WithoutSteps Usage P = P
WithoutSteps ReadFault P = P
WithoutSteps WriteFault P = Unit {0}
WithoutSteps NoMemory P = Unit {0}
