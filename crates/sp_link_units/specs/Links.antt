-- The program that several units are together, or the fault that stands (C90 6.1.2.2, 6.1.2.6, 6.7).
use Rattle.std.specs.Prelude.{◌≡◌, ℕ, List, Result, Ok, Err, ⊤}
use Rattle.sp_tree.specs.declared.fault.FaultKind.{FaultKind}
use Rattle.sp_tree.specs.declared.fault.Place.{Place}
use Rattle.sp_types.specs.Programs.{Program, program_of}
use Rattle.sp_types.specs.declared.program.Program.{Program as CodeProgram}
use Rattle.sp_base_checked.specs.Answers.{Checked, accepted, refused}
use Rattle.sp_base_checked.specs.declared.error.CheckError.{CheckError}
use Rattle.sp_base_checked.specs.declared.error.CheckError.TheVariants.{NoMemory}
use Rattle.sp_base_checked.specs.declared.error.CheckError.TheVariants.{Fault as Faulty}
use Rattle.sp_base_checked.specs.Units.{CheckedUnit}
use Rattle.sp_link_structs.specs.Matching.{Matching}
use Rattle.sp_link_structs.specs.Matched.{AreMatched}
use Rattle.sp_link_conflicts.specs.Conflicts.{tables_of, AgreeOnNames, ConflictAt}
use Rattle.sp_link_units.specs.Linking.{linked}

-- What the units give: the first of their declarations that is in conflict refuses them; where none
-- is, they are linked by the matching of their structs. A fault of the whole stands at `first`.
pub data Links (names : List (List ℕ)) (first : Place) (units : List CheckedUnit) (given : Checked Program) : Type 0 where
  in_conflict :
      (kind : FaultKind) (place : Place) → ConflictAt units kind place
      → refused kind place ≡ given → Links names first units given
  in_agreement :
      (matching : Matching) → AgreeOnNames units → AreMatched (tables_of units) matching
      → linked names first matching units ≡ given → Links names first units given

-- that as an answer of the code; want of memory says nothing
abbrev pub LinksTo : List (List ℕ) → Place → List CheckedUnit → Result CodeProgram CheckError → Type 0
LinksTo names first units (Ok p) = Links names first units (accepted (program_of p))
LinksTo names first units (Err (Faulty f)) = Links names first units (refused f.kind f.place)
LinksTo names first units (Err NoMemory) = ⊤

-- units give one program or one fault
abbrev pub LinksAreOne : Type 0
LinksAreOne = (names : List (List ℕ)) (first : Place) (units : List CheckedUnit) (x y : Checked Program)
    → Links names first units x → Links names first units y → x ≡ y
