-- What files are together: a program and its lowering, or refused at a fault.
use Rattle.std.specs.Prelude.{◌≡◌, ℕ, List, ◌∷◌, ◌++◌, Result, Ok, Err, ⊤}
use Rattle.sp_tree.specs.declared.fault.Fault.{Fault}
use Rattle.sp_types.specs.Programs.{Program}
use Rattle.sp_base_checked.specs.Answers.{accepted, refused}
use Rattle.sp_base_checked.specs.Units.{CheckedUnit}
use Rattle.sp_link_units.specs.Links.{Links}
use Rattle.sp_ir.specs.Programs.{Lowered, lowered_of}
use Rattle.sp_ir.specs.Formed.{IsFormed}
use Rattle.sp_ir.specs.declared.program.Lowered.{Lowered as CodeLowered}
use Rattle.sp_lower.specs.Programs.{start_place, IsLowering}
use Rattle.sp_lower.specs.Answers.{Fits, Refuses}
use Rattle.sp_front.specs.declared.front.FrontError.{FrontError}
use Rattle.sp_front.specs.declared.front.FrontError.TheVariants as errors
use Rattle.sp_front.specs.Sources.{Source}
use Rattle.sp_front.specs.Files.{Progress, beginning, AreFilesOf, IsFileRefused}

-- ---- programs

-- The files are these units, and the units this program. What is missing in the whole is refused
-- where the first file begins.
pub record IsProgramOf (sources : List Source) (names : List (List ℕ)) (p : Program) : Type 0 where
  pub units : List CheckedUnit
  pub room : ℕ
  pub files : AreFilesOf beginning sources (record { names = names; room = room }) units
  pub linked : Links names start_place units (accepted p)

-- the lowering of the files' program, within the limits, and formed
pub record IsLoweredOf (sources : List Source) (names : List (List ℕ)) (l : Lowered) : Type 0 where
  pub program : Program
  pub is : IsProgramOf sources names program
  pub lowering : IsLowering program names l
  pub fits : Fits l
  pub formed : IsFormed l

-- ---- faults

-- the first file that is refused, at its fault
pub record IsRefusedAt (sources : List Source) (names : List (List ℕ)) (fault : Fault) : Type 0 where
  pub before : List Source
  pub after : List Source
  pub file : Source
  pub whole : sources ≡ before ++ file ∷ after
  pub mid : Progress
  pub units : List CheckedUnit
  pub files : AreFilesOf beginning before mid units
  pub refused : IsFileRefused mid file names fault

-- the files are units, but no program
pub record IsUnlinked (sources : List Source) (names : List (List ℕ)) (fault : Fault) : Type 0 where
  pub units : List CheckedUnit
  pub room : ℕ
  pub files : AreFilesOf beginning sources (record { names = names; room = room }) units
  pub linked : Links names start_place units (refused fault.kind fault.place)

-- The files are refused: at the fault of the first that has one; else at one of the whole program;
-- else since that is past a limit.
pub data AreRefused (sources : List Source) (names : List (List ℕ)) (fault : Fault) : Type 0 where
  in_file : IsRefusedAt sources names fault → AreRefused sources names fault
  unlinked : IsUnlinked sources names fault → AreRefused sources names fault
  past_limit :
      (program : Program) → IsProgramOf sources names program → Refuses program names fault.kind
      → fault.place ≡ start_place → AreRefused sources names fault

-- each as an answer of the code; want of memory says nothing
abbrev pub Answers : List Source → List (List ℕ) → Result CodeLowered FrontError → Type 0
Answers sources names (Ok l) = IsLoweredOf sources names (lowered_of l)
Answers sources names (Err (errors.Fault f)) = AreRefused sources names f
Answers sources names (Err errors.NoMemory) = ⊤
