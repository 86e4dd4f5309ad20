-- What the checks of a unit accept is well typed (C90 6.7).
use Rattle.std.specs.Prelude.{◌≡◌, ◌⊎◌, ℕ, ◌≤◌, true, false, List, [], ◌++◌, length, Some, None, is_some, slice_get, ⊤}
use Rattle.sp_parse_trees.specs.Syntax.{External}
use Rattle.sp_types.specs.declared.program.Storage.{Storage}
use Rattle.sp_types.specs.declared.program.Storage.TheVariants.{Static, Outside, Text, Formal}
use Rattle.sp_types.specs.Types.{CType, array, result_of, Struct}
use Rattle.sp_types.specs.Structs.{IsTable, IsFormed, IsFormedSignature}
use Rattle.sp_types.specs.Programs.{Object, Function}
use Rattle.sp_base_checked.specs.Answers.{accepted}
use Rattle.sp_check_operands.specs.Conversions.{is_function}
use Rattle.sp_check_objects.specs.Objects.{has_linkage}
use Rattle.sp_base_checked.specs.Units.{CheckedUnit}
use Rattle.sp_decl_check.specs.Units.{unit_checked}
use Rattle.sp_ir.specs.Terrain.{size_of}
use Rattle.sp_base_layout_laws.specs.Laws.{HaveMembers}
use Rattle.sp_check_typing.specs.Trees.{Scene, IsCalled}
use Rattle.sp_check_typing.specs.Starts.{IsStaticStart}
use Rattle.sp_check_typing.specs.Statements.{is_lasting, IsTypedBody}
use Rattle.sp_check_typing.specs.Programs.{sees, AreOwners}
use Rattle.sp_check_written_laws.specs.Laws.{AreByteNames}
use Rattle.sp_check_expr_laws.specs.Sound.{IsSound, IsSoundSignature, KnowsElements}
use Rattle.sp_check_written_laws.specs.Statements.{AreWrittenExternals}

-- a function sees the objects of static storage, and its own
abbrev pub scene_in : CheckedUnit → List ℕ → Scene
scene_in x own = record {
  structs = x.structs;
  objects = x.objects;
  functions = length x.functions;
  is_visible = sees x.objects own;
}

-- an array of complete elements whose length isn't told
abbrev pub IsUnmeasured : List Struct → CType → Type 0
IsUnmeasured ss (array t None) = 1 ≤ size_of ss t
IsUnmeasured ss t = ⊥

-- start values are known before the program runs. An array whose length another unit may tell has
-- none, nor has what the unit doesn't define; elements are complete there too (C90 6.7.2)
abbrev pub HasUnitStart : CheckedUnit → Object → Storage → Type 0
HasUnitStart x o Static =
    IsStaticStart (scene_in x []) o ⊎ ((o.start ≡ []) × IsUnmeasured x.structs o.of)
HasUnitStart x o Text = IsStaticStart (scene_in x []) o
HasUnitStart x o Outside = (o.start ≡ []) × KnowsElements x.structs o.of
HasUnitStart x o storage = ⊤

pub record IsTypedObject (x : CheckedUnit) (o : Object) : Type 0 where
  pub formed : IsFormed x.structs o.of
  pub plain : is_function o.of ≡ false
  pub sound : IsSound o.of
  -- what has linkage lasts, and is no literal (C90 6.1.2.4)
  pub home : has_linkage o.linkage ≡ true → (o.storage ≡ Static) ⊎ (o.storage ≡ Outside)
  pub start : HasUnitStart x o o.storage

pub record IsFormal (x : CheckedUnit) (n : ℕ) : Type 0 where
  pub object : Object
  pub there : slice_get x.objects n ≡ Some object
  pub storage : object.storage ≡ Formal
  pub private : has_linkage object.linkage ≡ false
  pub sized : 1 ≤ size_of x.structs object.of

-- an object that a function lists beside its formals; one with linkage is the unit's (C90 6.1.2.2)
pub record IsLocal (x : CheckedUnit) (n : ℕ) : Type 0 where
  pub object : Object
  pub there : slice_get x.objects n ≡ Some object
  pub private : has_linkage object.linkage ≡ false
  pub sized : is_lasting object.storage ≡ false → 1 ≤ size_of x.structs object.of

-- a function that is defined
pub record IsTypedFunction (x : CheckedUnit) (g : Function) : Type 0 where
  pub result : IsCalled x.structs (result_of g.of)
  pub formals : (i n : ℕ) → slice_get g.formals i ≡ Some n → IsFormal x n
  pub distinct : (i j n : ℕ) → slice_get g.formals i ≡ Some n → slice_get g.formals j ≡ Some n
      → i ≡ j
  pub locals : (i n : ℕ) → slice_get g.locals i ≡ Some n → IsLocal x n
  pub bodied : is_some g.body ≡ true
  pub body : IsTypedBody (scene_in x (g.formals ++ g.locals)) (result_of g.of) g.body

-- the structs form a table, over which the types of objects and functions are formed; each
-- function is defined once
pub record IsTypedUnit (x : CheckedUnit) : Type 0 where
  pub structs : IsTable x.structs
  pub members : HaveMembers x.structs
  pub objects : (n : ℕ) (o : Object) → slice_get x.objects n ≡ Some o → IsTypedObject x o
  pub functions : (n : ℕ) (g : Function) → slice_get x.functions n ≡ Some g
      → IsFormedSignature x.structs g.of × IsSoundSignature g.of
  pub definitions : (k n : ℕ) → slice_get x.definitions k ≡ Some n
      → (g : Function) × (slice_get x.functions n ≡ Some g) × IsTypedFunction x g
  pub distinct : (j k n : ℕ) → slice_get x.definitions j ≡ Some n
      → slice_get x.definitions k ≡ Some n → j ≡ k
  -- what has a body is defined
  pub defined : (d : ℕ) (g : Function) → slice_get x.functions d ≡ Some g
      → is_some g.body ≡ true → (i : ℕ) × (slice_get x.definitions i ≡ Some d)
  -- a name with linkage is one object at most, and one function at most
  pub apart : (i k : ℕ) (o p : Object) → slice_get x.objects i ≡ Some o
      → slice_get x.objects k ≡ Some p → has_linkage o.linkage ≡ true
      → has_linkage p.linkage ≡ true → o.name ≡ p.name → i ≡ k
  pub named : (i k : ℕ) (f g : Function) → slice_get x.functions i ≡ Some f
      → slice_get x.functions k ≡ Some g → f.name ≡ g.name → i ≡ k
  -- an object is one function's own
  pub owners : AreOwners x.functions x.definitions

-- each unit that the checks accept
abbrev pub UnitsAreTyped : Type 0
UnitsAreTyped = (names : List (List ℕ)) (us : List External) (x : CheckedUnit)
    → AreByteNames names → AreWrittenExternals us → unit_checked names us ≡ accepted x
    → IsTypedUnit x
