-- What is settled by the definition of conflicts.
use Rattle.std.specs.Prelude.{◌≡◌, ℕ, ◌<◌, true, ◌&&◌, List, Some, slice_get}
use Rattle.sp_tree.specs.declared.fault.FaultKind.{FaultKind}
use Rattle.sp_tree.specs.declared.fault.Place.{Place}
use Rattle.sp_base_checked.specs.Units.{CheckedUnit}
use Rattle.sp_link_conflicts.specs.Declarations.{Declaration, declarations}
use Rattle.sp_link_conflicts.specs.Conflicts.{tables_of, AreCompatible, AgreeOnNames, ConflictAt}

-- one fault stands first
abbrev pub ConflictsAreOne : Type 0
ConflictsAreOne = (xs : List CheckedUnit) (k : FaultKind) (p : Place) (j : FaultKind) (q : Place)
    → ConflictAt xs k p → ConflictAt xs j q → (k ≡ j) × (p ≡ q)

-- where units agree on their names none stands
abbrev pub ConflictsExclude : Type 0
ConflictsExclude = (xs : List CheckedUnit) (k : FaultKind) (p : Place) → ConflictAt xs k p → ¬ AgreeOnNames xs

-- Units agree on their names where any two declarations of one name have compatible types (6.1.2.6),
-- and one of them at most defines it (6.7).
abbrev pub AreInHarmony : List CheckedUnit → Type 0
AreInHarmony xs =
    (i j : ℕ) (d e : Declaration) → i < j → slice_get (declarations xs) i ≡ Some d → slice_get (declarations xs) j ≡ Some e
    → d.name ≡ e.name → AreCompatible (tables_of xs) d e × ¬ ((d.defines && e.defines) ≡ true)

abbrev pub AgreementIsHarmony : Type 0
AgreementIsHarmony = (xs : List CheckedUnit) → (AgreeOnNames xs → AreInHarmony xs) × (AreInHarmony xs → AgreeOnNames xs)
