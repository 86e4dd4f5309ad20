-- A program has the objects and functions that its units name (C90 6.1.2.2, 6.1.2.6, 6.7).
use Rattle.std.specs.Prelude.{◌≡◌, ℕ, zero, suc, ◌+◌, true, false, List, [], ◌∷◌, length, Some, is_some, slice_get, Option, None, ◌⊎◌, ⊤}
use Rattle.sp_types.specs.declared.extents.Extent.{Extent}
use Rattle.sp_types.specs.declared.program.Storage.TheVariants.{Static, Outside}
use Rattle.sp_types.specs.Types.{CType, array, Struct, result_of}
use Rattle.sp_types.specs.Layout.{layout}
use Rattle.sp_types.specs.Structs.{IsFormed, IsFormedSignature}
use Rattle.sp_types.specs.Programs.{Object, Function}
use Rattle.sp_check_operands.specs.Conversions.{is_function, is_open_struct}
use Rattle.sp_base_checked.specs.Units.{CheckedUnit}
use Rattle.sp_link_structs.specs.Matching.{Matching}
use Rattle.sp_link_structs.specs.Matched.{AreMatched}
use Rattle.sp_link_conflicts.specs.Declarations.{is_external, is_defined}
use Rattle.sp_link_conflicts.specs.Conflicts.{AgreeOnNames, tables_of}
use Rattle.sp_link_entries.specs.Entries.{ObjectEntry, FunctionEntry, Joined, Numbers}
use Rattle.sp_link_entries.specs.Objects.{owned_by, is_dropped, object_entry}
use Rattle.sp_link_entries.specs.Functions.{function_entry}
use Rattle.sp_link_renaming.specs.Renaming.{number_in}
use Rattle.sp_check_typing.specs.Refines.{Refines, MayName}
use Rattle.sp_check_typing.specs.Statements.{is_lasting}
use Rattle.sp_link_structs_laws.specs.Tables.{program_structs, AreTables}
use Rattle.sp_link_renaming_laws.specs.Follows.{lacks_layout}
use Rattle.sp_link_names_laws.specs.Names.{all_joined}

-- an array has complete elements, and is complete where its length is told (C90 6.5.4.2)
abbrev pub HasElements : List Struct → CType → Type 0
HasElements ss (array t None) = (e : Extent) × (layout ss t ≡ Some e)
HasElements ss (array t (Some n)) = (e : Extent) × (layout ss (array t (Some n)) ≡ Some e)
HasElements ss t = ⊤

-- Each external name is one object of the unit, which is defined there or not (C90 6.1.2.2, 6.7.2), and
-- a name is one function at most.
pub record HasProperNames (x : CheckedUnit) : Type 0 where
  pub apart : (i k : ℕ) (o p : Object) → slice_get x.objects i ≡ Some o → slice_get x.objects k ≡ Some p
      → is_external o.linkage ≡ true → is_external p.linkage ≡ true → o.name ≡ p.name → i ≡ k
  pub stored : (k : ℕ) (o : Object) → slice_get x.objects k ≡ Some o → is_external o.linkage ≡ true
      → (o.storage ≡ Static) ⊎ (o.storage ≡ Outside)
  pub functions : (i k : ℕ) (f g : Function) → slice_get x.functions i ≡ Some f → slice_get x.functions k ≡ Some g
      → f.name ≡ g.name → i ≡ k

-- No object is a function, the struct of one that the unit defines is complete (C90 6.7.2), and so are
-- elements.
pub record HasProperTypes (x : CheckedUnit) : Type 0 where
  pub plain : (k : ℕ) (o : Object) → slice_get x.objects k ≡ Some o → is_function o.of ≡ false
  pub complete : (k : ℕ) (o : Object) → slice_get x.objects k ≡ Some o → is_defined o.storage ≡ true
      → is_open_struct x.structs o.of ≡ false
  pub elements : (k : ℕ) (o : Object) → slice_get x.objects k ≡ Some o → is_external o.linkage ≡ true
      → HasElements x.structs o.of

-- units that agree on their names, and the matching of their structs
pub record AreLinked (xs : List CheckedUnit) (m : Matching) : Type 0 where
  pub agree : AgreeOnNames xs
  pub matched : AreMatched (tables_of xs) m
  pub tables : AreTables (tables_of xs)
  pub names : (u : ℕ) (x : CheckedUnit) → slice_get xs u ≡ Some x → HasProperNames x
  pub types : (u : ℕ) (x : CheckedUnit) → slice_get xs u ≡ Some x → HasProperTypes x

-- ---- objects

-- the unit's object of this number is in the program: it is no parameter of a prototype
pub record IsObjectOf (xs : List CheckedUnit) (u : ℕ) (x : CheckedUnit) (k : ℕ) (o : Object) : Type 0 where
  pub unit : slice_get xs u ≡ Some x
  pub object : slice_get x.objects k ≡ Some o
  pub kept : is_dropped (owned_by x.functions x.definitions) k o.storage ≡ false

-- the program's entry of this number stands for the object `o` of the unit `u`, which is `x`
pub record StandsFor (x : CheckedUnit) (ss : List ℕ) (u : ℕ) (o : Object) (j : Joined) (n : ℕ) : Type 0 where
  pub entry : ObjectEntry
  pub there : slice_get j.objects n ≡ Some entry
  pub name : entry.source.name ≡ o.name
  -- the unit's trees may name it with the type that they have
  pub named : MayName (lacks_layout x.structs) (number_in ss) o.of entry.of
  pub lasting : is_lasting o.storage ≡ true → is_lasting entry.source.storage ≡ true
  -- without external linkage it is the object itself
  pub own : is_external o.linkage ≡ false → entry ≡ object_entry x.structs ss u o

abbrev pub LinkedObjectsStand : Type 0
LinkedObjectsStand =
    (xs : List CheckedUnit) (m : Matching) → AreLinked xs m
    → (u : ℕ) (x : CheckedUnit) (ns : Numbers) (k : ℕ) (o : Object) (n : ℕ) → IsObjectOf xs u x k o
    → slice_get (all_joined m.numbers xs).0 u ≡ Some ns → slice_get ns.objects k ≡ Some n
    → StandsFor x ns.structs u o (all_joined m.numbers xs).1 n

-- Where an external object of a unit is an array, the program's entry is one of as large elements, and
-- complete where its length is told.
abbrev pub LinkedArraysAreComplete : Type 0
LinkedArraysAreComplete =
    (xs : List CheckedUnit) (m : Matching) → AreLinked xs m
    → (u : ℕ) (x : CheckedUnit) (ns : Numbers) (k : ℕ) (o : Object) (n : ℕ) (e : ObjectEntry) → IsObjectOf xs u x k o
    → is_external o.linkage ≡ true → slice_get (all_joined m.numbers xs).0 u ≡ Some ns
    → slice_get ns.objects k ≡ Some n → slice_get (all_joined m.numbers xs).1.objects n ≡ Some e
    → (a : CType) (l : Option ℕ) → o.of ≡ array a l
    → HasElements (program_structs (tables_of xs) m) e.of
    × ((b : CType) × (i : Option ℕ) × (e.of ≡ array b i)
    × (layout (program_structs (tables_of xs) m) b ≡ layout x.structs a))

-- ---- functions

-- the program's entry of this number stands for the function `f` of the unit `u`, and `f` tells it
-- where it is defined there
pub record FunctionStandsFor (x : CheckedUnit) (ss : List ℕ) (u : ℕ) (f : Function) (j : Joined) (n : ℕ) : Type 0 where
  pub entry : FunctionEntry
  pub there : slice_get j.functions n ≡ Some entry
  pub name : entry.source.name ≡ f.name
  -- without external linkage it is the function itself
  pub own : is_external f.linkage ≡ false → entry ≡ function_entry ss u f
  pub source : is_some f.body ≡ true → entry.source ≡ f
  pub unit : is_some f.body ≡ true → entry.unit ≡ u
  pub result : is_some f.body ≡ true
      → Refines (lacks_layout x.structs) (number_in ss) (result_of f.of) (result_of entry.of)

abbrev pub LinkedFunctionsStand : Type 0
LinkedFunctionsStand =
    (xs : List CheckedUnit) (m : Matching) → AreLinked xs m
    → (u : ℕ) (x : CheckedUnit) (ns : Numbers) (k : ℕ) (f : Function) (n : ℕ)
    → slice_get xs u ≡ Some x → slice_get (all_joined m.numbers xs).0 u ≡ Some ns
    → slice_get x.functions k ≡ Some f → slice_get ns.functions k ≡ Some n
    → FunctionStandsFor x ns.structs u f (all_joined m.numbers xs).1 n

-- ---- where entries come from

-- an object of a unit has this number, and tells all of this entry but its type
pub record IsFrom (xs : List CheckedUnit) (y : List Numbers) (n : ℕ) (e : ObjectEntry) : Type 0 where
  pub unit : ℕ
  pub checked : CheckedUnit
  pub number : ℕ
  pub object : Object
  pub numbers : Numbers
  pub of_unit : IsObjectOf xs unit checked number object
  pub told : slice_get y unit ≡ Some numbers
  pub numbered : slice_get numbers.objects number ≡ Some n
  pub source : e.source ≡ object
  pub unit_is : e.unit ≡ unit

-- Each object of the program is a unit's, and its type is formed where those of units are.
abbrev pub LinkedEntriesAreTold : Type 0
LinkedEntriesAreTold =
    (xs : List CheckedUnit) (m : Matching) → AreLinked xs m
    → ((u : ℕ) (x : CheckedUnit) (k : ℕ) (o : Object) → IsObjectOf xs u x k o → IsFormed x.structs o.of)
    → (n : ℕ) (e : ObjectEntry) → slice_get (all_joined m.numbers xs).1.objects n ≡ Some e
    → IsFrom xs (all_joined m.numbers xs).0 n e
    × IsFormed (program_structs (tables_of xs) m) e.of

-- a function of a unit has this number, and tells all but the type of this entry
pub record IsFunctionFrom (xs : List CheckedUnit) (y : List Numbers) (n : ℕ) (e : FunctionEntry) : Type 0 where
  pub unit : ℕ
  pub checked : CheckedUnit
  pub number : ℕ
  pub function : Function
  pub numbers : Numbers
  pub of_unit : slice_get xs unit ≡ Some checked
  pub there : slice_get checked.functions number ≡ Some function
  pub told : slice_get y unit ≡ Some numbers
  pub numbered : slice_get numbers.functions number ≡ Some n
  pub source : e.source ≡ function

-- the same of functions
abbrev pub LinkedFunctionsAreTold : Type 0
LinkedFunctionsAreTold =
    (xs : List CheckedUnit) (m : Matching) → AreLinked xs m
    → ((u : ℕ) (x : CheckedUnit) (k : ℕ) (f : Function) → slice_get xs u ≡ Some x
    → slice_get x.functions k ≡ Some f → IsFormedSignature x.structs f.of)
    → (n : ℕ) (e : FunctionEntry) → slice_get (all_joined m.numbers xs).1.functions n ≡ Some e
    → IsFunctionFrom xs (all_joined m.numbers xs).0 n e
    × IsFormedSignature (program_structs (tables_of xs) m) e.of

-- Two objects of units without external linkage have two numbers.
abbrev pub OwnObjectsAreApart : Type 0
OwnObjectsAreApart =
    (sss : List (List ℕ)) (xs : List CheckedUnit) (u v : ℕ) (x y : CheckedUnit) (ns ms : Numbers)
    (i k : ℕ) (o p : Object) (n : ℕ) → IsObjectOf xs u x i o → IsObjectOf xs v y k p
    → is_external o.linkage ≡ false → is_external p.linkage ≡ false
    → slice_get (all_joined sss xs).0 u ≡ Some ns → slice_get (all_joined sss xs).0 v ≡ Some ms
    → slice_get ns.objects i ≡ Some n → slice_get ms.objects k ≡ Some n → (u ≡ v) × (i ≡ k)

-- ---- numbers, and functions that are defined

-- each object and function of a unit has a number
abbrev pub ObjectsAreNumbered : Type 0
ObjectsAreNumbered = (sss : List (List ℕ)) (xs : List CheckedUnit) (u : ℕ) (x : CheckedUnit) (ns : Numbers)
    (k : ℕ) (o : Object) → slice_get xs u ≡ Some x → slice_get (all_joined sss xs).0 u ≡ Some ns
    → slice_get x.objects k ≡ Some o → (n : ℕ) × (slice_get ns.objects k ≡ Some n)

abbrev pub FunctionsAreNumbered : Type 0
FunctionsAreNumbered = (sss : List (List ℕ)) (xs : List CheckedUnit) (u : ℕ) (x : CheckedUnit) (ns : Numbers)
    (k : ℕ) (f : Function) → slice_get xs u ≡ Some x → slice_get (all_joined sss xs).0 u ≡ Some ns
    → slice_get x.functions k ≡ Some f → (n : ℕ) × (slice_get ns.functions k ≡ Some n)

-- how many functions the units before this one define
abbrev pub definitions_before : List CheckedUnit → ℕ → ℕ
definitions_before [] u = 0
definitions_before (x ∷ xs) zero = 0
definitions_before (x ∷ xs) (suc u) = length x.definitions + definitions_before xs u

-- the program's definition of the number k: of the unit's definitions the one of the number `index`
pub record IsDefinition (xs : List CheckedUnit) (y : List Numbers) (k n : ℕ) : Type 0 where
  pub unit : ℕ
  pub checked : CheckedUnit
  pub numbers : Numbers
  pub index : ℕ
  pub function : ℕ
  pub there : slice_get xs unit ≡ Some checked
  pub told : slice_get y unit ≡ Some numbers
  pub defined : slice_get checked.definitions index ≡ Some function
  pub number : n ≡ number_in numbers.functions function
  pub place : k ≡ definitions_before xs unit + index

abbrev pub LinkedDefinitions : Type 0
LinkedDefinitions = (sss : List (List ℕ)) (xs : List CheckedUnit) (k n : ℕ)
    → slice_get (all_joined sss xs).1.definitions k ≡ Some n → IsDefinition xs (all_joined sss xs).0 k n

abbrev pub LinkedDefinitionsAreThere : Type 0
LinkedDefinitionsAreThere = (sss : List (List ℕ)) (xs : List CheckedUnit) (u : ℕ) (x : CheckedUnit) (ns : Numbers)
    (i d : ℕ) → slice_get xs u ≡ Some x → slice_get (all_joined sss xs).0 u ≡ Some ns
    → slice_get x.definitions i ≡ Some d
    → slice_get (all_joined sss xs).1.definitions (definitions_before xs u + i) ≡ Some (number_in ns.functions d)
