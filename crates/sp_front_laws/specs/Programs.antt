-- Programs whose units the checks accept are well typed (C90 6.7).
use Rattle.std.specs.Prelude.{◌≡◌, ℕ, List, All}
use Rattle.sp_tree.specs.declared.fault.Place.{Place}
use Rattle.sp_parse_trees.specs.Syntax.{External}
use Rattle.sp_types.specs.Programs.{Program}
use Rattle.sp_base_checked.specs.Answers.{accepted}
use Rattle.sp_base_checked.specs.Units.{CheckedUnit}
use Rattle.sp_decl_check.specs.Units.{unit_checked}
use Rattle.sp_link_units.specs.Links.{Links}
use Rattle.sp_check_typing.specs.Programs.{IsTypedProgram}
use Rattle.sp_check_written_laws.specs.Statements.{AreWrittenExternals}
use Rattle.sp_check_written_laws.specs.Laws.{AreByteNames}

-- The checks accept the unit, of a tree as a text can have it, with the names so far, which are
-- bytes. Another unit may be checked with more names.
pub record IsChecked (unit : CheckedUnit) : Type 0 where
  pub names : List (List ℕ)
  pub bytes : AreByteNames names
  pub tree : List External
  pub written : AreWrittenExternals tree
  pub checked : unit_checked names tree ≡ accepted unit

-- each program that such units are linked to
abbrev pub ProgramsAreTyped : Type 0
ProgramsAreTyped = (names : List (List ℕ)) (first : Place) (units : List CheckedUnit) (p : Program)
    → All IsChecked units → Links names first units (accepted p) → IsTypedProgram p
