-- What stands against the declarations of one name in several units (C90 6.1.2.6, 6.7).
use Rattle.std.specs.Prelude.{◌≡◌, ℕ, ◌<◌, Bool, true, false, ◌&&◌, nat_eq, List, map, take, Some, ◌⊎◌, slice_get, Result, Ok, Err, ⊤}
use Rattle.std.specs.List.{list_any}
use Rattle.sp_tree.specs.declared.fault.FaultKind.{FaultKind}
use Rattle.sp_tree.specs.declared.fault.FaultKind.TheVariants.{SecondDefinition, IncompatibleDeclaration}
use Rattle.sp_tree.specs.declared.fault.Place.{Place}
use Rattle.sp_types.specs.Types.{Struct}
use Rattle.sp_base_checked.specs.declared.error.CheckError.{CheckError}
use Rattle.sp_base_checked.specs.declared.error.CheckError.TheVariants.{NoMemory}
use Rattle.sp_base_checked.specs.declared.error.CheckError.TheVariants.{Fault as Faulty}
use Rattle.sp_base_checked.specs.Units.{CheckedUnit}
use Rattle.sp_link_agreement.specs.Depths.{TypesAgree}
use Rattle.sp_link_conflicts.specs.Declarations.{Declaration, declarations}

-- 6.1.2.6: two declarations have compatible types, each with the structs of its unit
abbrev pub AreCompatible : List (List Struct) → Declaration → Declaration → Type 0
AreCompatible us d e = TypesAgree us (d.unit, d.of) (e.unit, e.of)

-- ---- at a declaration, behind those before it

-- its type is compatible with that of each of its name
abbrev pub Fits : List (List Struct) → List Declaration → Declaration → Type 0
Fits us ds e = (i : ℕ) (d : Declaration) → slice_get ds i ≡ Some d → d.name ≡ e.name → AreCompatible us d e

-- it isn't with that of one of them
abbrev pub Clashes : List (List Struct) → List Declaration → Declaration → Type 0
Clashes us ds e = (i : ℕ) × (d : Declaration) × (slice_get ds i ≡ Some d) × (d.name ≡ e.name) × ¬ AreCompatible us d e

-- 6.7: it defines its name, as one before it does
abbrev pub defines_again : List Declaration → Declaration → Bool
defines_again ds e = e.defines && list_any (λ d. nat_eq d.name e.name && d.defines) ds

abbrev pub IsProper : List (List Struct) → List Declaration → Declaration → Type 0
IsProper us ds e = Fits us ds e × (defines_again ds e ≡ false)

-- the fault that stands at it; where both do the first
abbrev pub StandsAt : List (List Struct) → List Declaration → Declaration → FaultKind → Type 0
StandsAt us ds e k = (Clashes us ds e × (k ≡ IncompatibleDeclaration)) ⊎ (Fits us ds e × (defines_again ds e ≡ true) × (k ≡ SecondDefinition))

-- ---- in a list of declarations

-- none stands at those before a number
abbrev pub AreProperBelow : List (List Struct) → List Declaration → ℕ → Type 0
AreProperBelow us es n = (j : ℕ) (e : Declaration) → j < n → slice_get es j ≡ Some e → IsProper us (take j es) e

abbrev pub AreProper : List (List Struct) → List Declaration → Type 0
AreProper us es = (j : ℕ) (e : Declaration) → slice_get es j ≡ Some e → IsProper us (take j es) e

-- this one stands first
pub record IsFirstFault (us : List (List Struct)) (es : List Declaration) (kind : FaultKind) (place : Place) : Type 0 where
  pub number : ℕ
  pub declaration : Declaration
  pub there : slice_get es number ≡ Some declaration
  pub stands : StandsAt us (take number es) declaration kind
  pub stands_there : place ≡ declaration.place
  pub before : AreProperBelow us es number

-- ---- of units

abbrev pub tables_of : List CheckedUnit → List (List Struct)
tables_of xs = map (λ x. x.structs) xs

-- no two declarations of these units are in conflict
abbrev pub AgreeOnNames : List CheckedUnit → Type 0
AgreeOnNames xs = AreProper (tables_of xs) (declarations xs)

-- the first conflict, as a fault with its place
abbrev pub ConflictAt : List CheckedUnit → FaultKind → Place → Type 0
ConflictAt xs kind place = IsFirstFault (tables_of xs) (declarations xs) kind place

-- ---- answers of the code; want of memory says nothing

-- a declaration, behind those of its name alone: its type is compatible with each of theirs, or not
abbrev pub AllFit : List (List Struct) → List Declaration → Declaration → Type 0
AllFit us ds e = (i : ℕ) (d : Declaration) → slice_get ds i ≡ Some d → AreCompatible us d e

abbrev pub OneClashes : List (List Struct) → List Declaration → Declaration → Type 0
OneClashes us ds e = (i : ℕ) × (d : Declaration) × (slice_get ds i ≡ Some d) × ¬ AreCompatible us d e

abbrev pub FitsIf : List (List Struct) → Bool → List Declaration → Declaration → Type 0
FitsIf us true ds e = AllFit us ds e
FitsIf us false ds e = OneClashes us ds e

abbrev pub any_defines : List Declaration → Bool
any_defines ds = list_any (λ d. d.defines) ds

abbrev pub IsJudged : List (List Struct) → List Declaration → Declaration → Result (Unit {0}) CheckError → Type 0
IsJudged us ds e (Ok r) = AllFit us ds e × ((e.defines && any_defines ds) ≡ false)
IsJudged us ds e (Err (Faulty f)) =
    (f.place ≡ e.place)
    × ((OneClashes us ds e × (f.kind ≡ IncompatibleDeclaration)) ⊎ (AllFit us ds e × ((e.defines && any_defines ds) ≡ true) × (f.kind ≡ SecondDefinition)))
IsJudged us ds e (Err NoMemory) = ⊤

abbrev pub AreJudged : List (List Struct) → List Declaration → Result (Unit {0}) CheckError → Type 0
AreJudged us es (Ok r) = AreProper us es
AreJudged us es (Err (Faulty f)) = IsFirstFault us es f.kind f.place
AreJudged us es (Err NoMemory) = ⊤

abbrev pub AreChecked : List CheckedUnit → Result (Unit {0}) CheckError → Type 0
AreChecked xs (Ok r) = AgreeOnNames xs
AreChecked xs (Err (Faulty f)) = ConflictAt xs f.kind f.place
AreChecked xs (Err NoMemory) = ⊤
