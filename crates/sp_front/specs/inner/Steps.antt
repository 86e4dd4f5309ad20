-- What each part of the work answers. Want of memory says nothing.
use Rattle.std.specs.Prelude.{◌≡◌, ◌⊎◌, ℕ, List, map, Result, Ok, Err, ⊤}
use Rattle.std.specs.declared.alloc.Global.{Global}
use Rattle.std.specs.declared.vec.Vec.{Vec}
use Rattle.sp_tree.specs.declared.fault.Fault.{Fault}
use Rattle.sp_tree.specs.declared.token.Token.{Token}
use Rattle.sp_parse_trees.specs.Syntax.{External}
use Rattle.sp_parse_laws.specs.UnitAnswers.{IsUnit}
use Rattle.sp_decl_parser.specs.Parsing.{IsUnitRefused}
use Rattle.sp_types.specs.Programs.{program_of}
use Rattle.sp_types.specs.declared.program.Program.{Program as CodeProgram}
use Rattle.sp_base_checked.specs.Answers.{accepted, refused}
use Rattle.sp_base_checked.specs.Units.{CheckedUnit, checked_unit_of}
use Rattle.sp_base_checked.specs.declared.unit.CheckedUnit.{CheckedUnit as CodeUnit}
use Rattle.sp_decl_check.specs.Units.{unit_checked}
use Rattle.sp_front.specs.declared.files.ReadFile.{ReadFile}
use Rattle.sp_front.specs.declared.front.FrontError.{FrontError}
use Rattle.sp_front.specs.declared.front.FrontError.TheVariants as errors
use Rattle.sp_front.specs.Sources.{Source}
use Rattle.sp_front.specs.Files.{Progress, beginning, max_depth, IsScanned, IsFileOf, IsFileRefused, AreFilesOf}
use Rattle.sp_front.specs.Answers.{IsProgramOf, IsRefusedAt, IsUnlinked}

-- ---- one file

-- its tokens
abbrev pub Scans : Progress → Source → List (List ℕ) → Result (Vec Token Global) FrontError → Type 0
Scans before s names (Ok tokens) = IsScanned before s names (Ok tokens.items)
Scans before s names (Err (errors.Fault f)) = IsScanned before s names (Err f)
Scans before s names (Err errors.NoMemory) = ⊤

-- tokens are this unit
pub record AreUnit (tokens : List Token) (names : List (List ℕ)) (unit : CheckedUnit) : Type 0 where
  pub tree : List External
  pub parsed : IsUnit max_depth tokens tree
  pub checked : unit_checked names tree ≡ accepted unit

-- tokens are refused as no unit, or at one of its types
pub data AreRefusedAs (tokens : List Token) (names : List (List ℕ)) (fault : Fault) : Type 0 where
  misparsed : IsUnitRefused max_depth tokens fault → AreRefusedAs tokens names fault
  mistyped :
      (tree : List External) → IsUnit max_depth tokens tree
      → unit_checked names tree ≡ refused fault.kind fault.place → AreRefusedAs tokens names fault

abbrev pub GivesUnit : List Token → List (List ℕ) → Result CodeUnit FrontError → Type 0
GivesUnit tokens names (Ok u) = AreUnit tokens names (checked_unit_of u)
GivesUnit tokens names (Err (errors.Fault f)) = AreRefusedAs tokens names f
GivesUnit tokens names (Err errors.NoMemory) = ⊤

abbrev pub ReadsFile : Progress → Source → List (List ℕ) → Result ReadFile FrontError → Type 0
ReadsFile before s names (Ok file) =
    IsFileOf before s (record { names = names; room = file.room }) (checked_unit_of file.unit)
ReadsFile before s names (Err (errors.Fault f)) = IsFileRefused before s names f
ReadsFile before s names (Err errors.NoMemory) = ⊤

-- ---- all files

-- the files are these units
pub record AreUnits (sources : List Source) (names : List (List ℕ)) (units : List CheckedUnit) : Type 0 where
  pub room : ℕ
  pub files : AreFilesOf beginning sources (record { names = names; room = room }) units

abbrev pub ReadsFiles : List Source → List (List ℕ) → Result (Vec CodeUnit Global) FrontError → Type 0
ReadsFiles sources names (Ok units) = AreUnits sources names (map checked_unit_of units.items)
ReadsFiles sources names (Err (errors.Fault f)) = IsRefusedAt sources names f
ReadsFiles sources names (Err errors.NoMemory) = ⊤

abbrev pub MakesProgram : List Source → List (List ℕ) → Result CodeProgram FrontError → Type 0
MakesProgram sources names (Ok p) = IsProgramOf sources names (program_of p)
MakesProgram sources names (Err (errors.Fault f)) =
    IsRefusedAt sources names f ⊎ IsUnlinked sources names f
MakesProgram sources names (Err errors.NoMemory) = ⊤
