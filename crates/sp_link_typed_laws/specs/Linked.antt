-- A linked program has what may be named in each of its units (C90 6.1.2.6, 6.7).
use Rattle.std.specs.Prelude.{◌≡◌, ℕ, ◌≤◌, false, ◌++◌, List, [], Some, slice_get}
use Rattle.sp_types.specs.Structs.{IsFormedSignature}
use Rattle.sp_types.specs.Programs.{Object, Function, Program}
use Rattle.sp_base_checked.specs.Units.{CheckedUnit}
use Rattle.sp_link_structs.specs.Matching.{Matching}
use Rattle.sp_link_structs.specs.Matched.{AreMatched}
use Rattle.sp_link_entries.specs.Entries.{ObjectEntry, Numbers, renumbered}
use Rattle.sp_link_units.specs.Making.{final_types, renaming}
use Rattle.sp_link_units.specs.Linking.{main_from, renamings, program_made}
use Rattle.sp_link_conflicts.specs.Conflicts.{AgreeOnNames, tables_of}
use Rattle.sp_ir.specs.Terrain.{size_of}
use Rattle.sp_check_typing.specs.Statements.{is_lasting}
use Rattle.sp_check_typing.specs.Starts.{IsStaticStart}
use Rattle.sp_check_typing.specs.Programs.{scene_of, Lists, IsTypedFunction, IsTypedProgram, AreOwners}
use Rattle.sp_check_unit_laws.specs.Units.{scene_in, IsUnmeasured, IsTypedUnit}
use Rattle.sp_link_renaming_laws.specs.Follows.{Follows}
use Rattle.sp_link_names_laws.specs.Names.{all_joined}
use Rattle.sp_link_entries_laws.specs.Joined.{IsFrom}

-- the program that units are with this matching of their structs, where it starts with a function
abbrev pub linked_program : List CheckedUnit → Matching → ℕ → Program
linked_program xs m main =
    program_made m xs (renamings (all_joined m.numbers xs).1 (all_joined m.numbers xs).0) (all_joined m.numbers xs).1 main

-- units that are well typed and agree on their names, with the matching of their structs
pub record AreTypedUnits (xs : List CheckedUnit) (m : Matching) : Type 0 where
  pub agree : AgreeOnNames xs
  pub matched : AreMatched (tables_of xs) m
  pub typed : (u : ℕ) (x : CheckedUnit) → slice_get xs u ≡ Some x → IsTypedUnit x

-- a function that the unit defines
pub record IsDefinedIn (xs : List CheckedUnit) (u : ℕ) (x : CheckedUnit) (g : Function) : Type 0 where
  pub unit : slice_get xs u ≡ Some x
  pub index : ℕ
  pub number : ℕ
  pub defined : slice_get x.definitions index ≡ Some number
  pub function : slice_get x.functions number ≡ Some g

-- each function that a unit defines sees in the program what it sees in its unit
abbrev pub LinkedUnitsFollow : Type 0
LinkedUnitsFollow = (xs : List CheckedUnit) (m : Matching) (main : ℕ) → AreTypedUnits xs m
    → (u : ℕ) (x : CheckedUnit) (ns : Numbers) (g : Function) → IsDefinedIn xs u x g
    → slice_get (all_joined m.numbers xs).0 u ≡ Some ns
    → Follows (renaming (final_types (all_joined m.numbers xs).1.objects) ns) (scene_in x (g.formals ++ g.locals))
    (scene_of (linked_program xs m main) (renumbered ns.objects g.formals ++ renumbered ns.objects g.locals))

-- so does what is known before the program runs
abbrev pub LinkedStaticsFollow : Type 0
LinkedStaticsFollow = (xs : List CheckedUnit) (m : Matching) (main : ℕ) → AreTypedUnits xs m
    → (u : ℕ) (x : CheckedUnit) (ns : Numbers) → slice_get xs u ≡ Some x
    → slice_get (all_joined m.numbers xs).0 u ≡ Some ns
    → Follows (renaming (final_types (all_joined m.numbers xs).1.objects) ns) (scene_in x [])
    (scene_of (linked_program xs m main) [])

-- the types of its functions are formed
abbrev pub LinkedFunctionsAreFormed : Type 0
LinkedFunctionsAreFormed = (xs : List CheckedUnit) (m : Matching) (main : ℕ) → AreTypedUnits xs m
    → (n : ℕ) (f : Function) → slice_get (linked_program xs m main).functions n ≡ Some f
    → IsFormedSignature (linked_program xs m main).structs f.of

-- no two definitions are of one function, and an object is one function's own
abbrev pub LinkedDefinitionsAreApart : Type 0
LinkedDefinitionsAreApart = (xs : List CheckedUnit) (m : Matching) (main : ℕ) → AreTypedUnits xs m
    → (j k n : ℕ) → slice_get (linked_program xs m main).definitions j ≡ Some n
    → slice_get (linked_program xs m main).definitions k ≡ Some n → j ≡ k

abbrev pub LinkedOwnersAreOne : Type 0
LinkedOwnersAreOne = (xs : List CheckedUnit) (m : Matching) (main : ℕ) → AreTypedUnits xs m
    → AreOwners (linked_program xs m main).functions (linked_program xs m main).definitions

-- the program starts with a function that it defines (C90 5.1.2.2.1)
abbrev pub LinkedMainIsDefined : Type 0
LinkedMainIsDefined = (names : List (List ℕ)) (xs : List CheckedUnit) (m : Matching) (main : ℕ) → AreTypedUnits xs m
    → main_from names 0 (all_joined m.numbers xs).1.functions ≡ Some main
    → (k : ℕ) × (slice_get (linked_program xs m main).definitions k ≡ Some main)

-- ---- functions and start values

-- each function that the program defines is well typed
abbrev pub LinkedFunctionsAreTyped : Type 0
LinkedFunctionsAreTyped = (xs : List CheckedUnit) (m : Matching) (main : ℕ) → AreTypedUnits xs m
    → (k n : ℕ) → slice_get (linked_program xs m main).definitions k ≡ Some n
    → (g : Function) × (slice_get (linked_program xs m main).functions n ≡ Some g)
    × IsTypedFunction (linked_program xs m main) g

-- what passes is some function's own, and complete (C90 6.1.2.4, 6.5)
abbrev pub LinkedObjectsAreOwned : Type 0
LinkedObjectsAreOwned = (xs : List CheckedUnit) (m : Matching) (main : ℕ) → AreTypedUnits xs m
    → (n : ℕ) (o : Object) → slice_get (linked_program xs m main).objects n ≡ Some o → is_lasting o.storage ≡ false
    → ((k : ℕ) × Lists (linked_program xs m main) k n) × (1 ≤ size_of (linked_program xs m main).structs o.of)

-- where a unit's object tells the entry, and its start is known before the program runs, so is that of
-- the program's object
abbrev pub LinkedStartsAreKnown : Type 0
LinkedStartsAreKnown = (xs : List CheckedUnit) (m : Matching) (main : ℕ) → AreTypedUnits xs m
    → (n : ℕ) (e : ObjectEntry) → slice_get (all_joined m.numbers xs).1.objects n ≡ Some e
    → (f : IsFrom xs (all_joined m.numbers xs).0 n e) → IsStaticStart (scene_in f.checked []) f.object
    → (o : Object) × (slice_get (linked_program xs m main).objects n ≡ Some o)
    × (o.storage ≡ f.object.storage) × IsStaticStart (scene_of (linked_program xs m main) []) o

-- an array that tells the entry, without a length or values in its unit, is complete in the program,
-- with a start that is known (C90 6.7.2)
abbrev pub LinkedArraysAreMeasured : Type 0
LinkedArraysAreMeasured = (xs : List CheckedUnit) (m : Matching) (main : ℕ) → AreTypedUnits xs m
    → (n : ℕ) (e : ObjectEntry) → slice_get (all_joined m.numbers xs).1.objects n ≡ Some e
    → (f : IsFrom xs (all_joined m.numbers xs).0 n e) → f.object.start ≡ [] → IsUnmeasured f.checked.structs f.object.of
    → (o : Object) × (slice_get (linked_program xs m main).objects n ≡ Some o)
    × (o.storage ≡ f.object.storage) × IsStaticStart (scene_of (linked_program xs m main) []) o

-- So the whole program is well typed.
abbrev pub LinkedProgramsAreTyped : Type 0
LinkedProgramsAreTyped = (names : List (List ℕ)) (xs : List CheckedUnit) (m : Matching) (main : ℕ) → AreTypedUnits xs m
    → main_from names 0 (all_joined m.numbers xs).1.functions ≡ Some main → IsTypedProgram (linked_program xs m main)
