-- What each file is: a checked unit (C90 6.7), or refused at a fault.
use Rattle.std.specs.Prelude.{◌≡◌, ◌+◌, ℕ, List, [], ◌∷◌, ◌++◌, length, Some, Result, Ok, Err, slice_get, IfOk}
use Rattle.sp_tree.specs.Names.{with_name, AreDistinct, Extends}
use Rattle.sp_tree.specs.declared.fault.Fault.{Fault}
use Rattle.sp_tree.specs.declared.token.Token.{Token}
use Rattle.sp_lexer.specs.Scan.{start}
use Rattle.sp_lexer.specs.Named.{CollectsAll}
use Rattle.sp_lexer.specs.Answers.{IsOnlyAnswer}
use Rattle.sp_parse_trees.specs.Syntax.{External}
use Rattle.sp_parse_laws.specs.UnitAnswers.{IsUnit}
use Rattle.sp_decl_parser.specs.Parsing.{IsUnitRefused}
use Rattle.sp_base_checked.specs.Answers.{accepted, refused}
use Rattle.sp_base_checked.specs.Units.{CheckedUnit}
use Rattle.sp_decl_check.specs.Units.{unit_checked}
use Rattle.sp_front.specs.Sources.{Source, IsOfBytes}

-- how many expressions, declarators, initialisers and statements may be inside one another
abbrev pub max_depth : ℕ
max_depth = 200

-- the most tokens of all files, their ends not counted
abbrev pub max_tokens : ℕ
max_tokens = 2000000

-- what is known between two files: the names so far, and how many tokens may still come
pub record Progress : Type 0 where
  pub names : List (List ℕ)
  pub room : ℕ

abbrev pub beginning : Progress
beginning = record { names = []; room = max_tokens }

-- A file of bytes has these tokens, or this first fault as text. Its name is added before it is
-- scanned, and the names that its tokens tell by number while it is, in their order; nothing else is
-- added to the names of a file with tokens.
pub record IsScanned (before : Progress) (s : Source) (names : List (List ℕ)) (found : Result (List Token) Fault) : Type 0 where
  pub bytes : IsOfBytes s
  pub number : ℕ
  pub own : slice_get names number ≡ Some s.name
  pub kept : Extends (with_name before.names s.name) names
  pub distinct : AreDistinct names
  pub named :
      IfOk found
      (λ _. CollectsAll s.text (start number) (with_name before.names s.name) names)
  pub answer : IsOnlyAnswer names s.text (start number) before.room found

-- A file is this unit. The end of its text is a token, but isn't counted.
pub record IsFileOf (before : Progress) (s : Source) (after : Progress) (unit : CheckedUnit) : Type 0 where
  pub tokens : List Token
  pub scanned : IsScanned before s after.names (Ok tokens)
  pub tree : List External
  pub parsed : IsUnit max_depth tokens tree
  pub checked : unit_checked after.names tree ≡ accepted unit
  pub room : after.room + length tokens ≡ before.room + 1

-- A file is refused: at its first fault as text; else, where its tokens are no unit, at their fault
-- as such; else at one of its types.
pub data IsFileRefused (before : Progress) (s : Source) (names : List (List ℕ)) (fault : Fault) : Type 0 where
  misread : IsScanned before s names (Err fault) → IsFileRefused before s names fault
  misparsed :
      (tokens : List Token) → IsScanned before s names (Ok tokens)
      → IsUnitRefused max_depth tokens fault → IsFileRefused before s names fault
  mistyped :
      (tokens : List Token) (tree : List External) → IsScanned before s names (Ok tokens)
      → IsUnit max_depth tokens tree → unit_checked names tree ≡ refused fault.kind fault.place
      → IsFileRefused before s names fault

-- files are these units, one after another
pub data AreFilesOf (before : Progress) : List Source → Progress → List CheckedUnit → Type 0 where
  none : AreFilesOf before [] before []
  another :
      {sources : List Source} {mid : Progress} {units : List CheckedUnit}
      → AreFilesOf before sources mid units → (s : Source) (after : Progress) (unit : CheckedUnit)
      → IsFileOf mid s after unit → AreFilesOf before (sources ++ s ∷ []) after (units ++ unit ∷ [])
