-- Which programs are well typed (C90 6.7).
use Rattle.std.specs.Prelude.{◌≡◌, ℕ, ◌≤◌, nat_eq, ◌||◌, Bool, false, List, [], ◌++◌, length, Option, Some, None, slice_get, ⊤}
use Rattle.std.specs.List.{list_any}
use Rattle.sp_types.specs.declared.program.Storage.{Storage}
use Rattle.sp_types.specs.declared.program.Storage.TheVariants.{Static, Text, Formal}
use Rattle.sp_types.specs.Types.{result_of}
use Rattle.sp_types.specs.Structs.{IsTable, IsFormed, IsFormedSignature}
use Rattle.sp_types.specs.Programs.{Object, Function, Program}
use Rattle.sp_ir.specs.Terrain.{size_of}
use Rattle.sp_base_layout_laws.specs.Laws.{HaveMembers}
use Rattle.sp_check_typing.specs.Trees.{Scene, IsCalled}
use Rattle.sp_check_typing.specs.Starts.{IsStaticStart}
use Rattle.sp_check_typing.specs.Statements.{is_lasting, IsTypedBody}

abbrev pub lasts : Option Object → Bool
lasts None = false
lasts (Some o) = is_lasting o.storage

-- a function sees the objects of static storage, and its own
abbrev pub sees : List Object → List ℕ → ℕ → Bool
sees os own n = lasts (slice_get os n) || list_any (nat_eq n) own

abbrev pub scene_of : Program → List ℕ → Scene
scene_of p own = record { structs = p.structs; objects = p.objects; functions = length p.functions; is_visible = sees p.objects own }

-- of these functions the one of the number k of the definitions lists this object as its own
pub record ListsIn (functions : List Function) (definitions : List ℕ) (k : ℕ) (n : ℕ) : Type 0 where
  pub number : ℕ
  pub function : Function
  pub defined : slice_get definitions k ≡ Some number
  pub there : slice_get functions number ≡ Some function
  pub index : ℕ
  pub listed : slice_get (function.formals ++ function.locals) index ≡ Some n

abbrev pub Lists : Program → ℕ → ℕ → Type 0
Lists p k n = ListsIn p.functions p.definitions k n

-- no two list one object
abbrev pub AreOwners : List Function → List ℕ → Type 0
AreOwners functions definitions = (j k n : ℕ) → ListsIn functions definitions j n
    → ListsIn functions definitions k n → j ≡ k

abbrev pub HasStaticStart : Program → Object → Storage → Type 0
HasStaticStart p o Static = IsStaticStart (scene_of p []) o
HasStaticStart p o Text = IsStaticStart (scene_of p []) o
HasStaticStart p o storage = ⊤

pub record IsTypedObject (p : Program) (n : ℕ) (o : Object) : Type 0 where
  pub formed : IsFormed p.structs o.of
  -- what a function lists is complete (C90 6.5)
  pub sized : is_lasting o.storage ≡ false → 1 ≤ size_of p.structs o.of
  pub owned : is_lasting o.storage ≡ false → (k : ℕ) × Lists p k n
  pub start : HasStaticStart p o o.storage

pub record IsFormal (p : Program) (n : ℕ) : Type 0 where
  pub object : Object
  pub there : slice_get p.objects n ≡ Some object
  pub storage : object.storage ≡ Formal
  pub sized : 1 ≤ size_of p.structs object.of

-- a function that is defined
pub record IsTypedFunction (p : Program) (g : Function) : Type 0 where
  pub result : IsCalled p.structs (result_of g.of)
  pub formals : (i n : ℕ) → slice_get g.formals i ≡ Some n → IsFormal p n
  pub distinct : (i j n : ℕ) → slice_get g.formals i ≡ Some n → slice_get g.formals j ≡ Some n → i ≡ j
  pub body : IsTypedBody (scene_of p (g.formals ++ g.locals)) (result_of g.of) g.body

pub record IsTypedProgram (p : Program) : Type 0 where
  pub structs : IsTable p.structs
  pub members : HaveMembers p.structs
  pub objects : (n : ℕ) (o : Object) → slice_get p.objects n ≡ Some o → IsTypedObject p n o
  pub functions : (n : ℕ) (g : Function) → slice_get p.functions n ≡ Some g → IsFormedSignature p.structs g.of
  pub definitions : (k n : ℕ) → slice_get p.definitions k ≡ Some n
      → (g : Function) × (slice_get p.functions n ≡ Some g) × IsTypedFunction p g
  -- each function is defined once, and an object is one function's own
  pub distinct : (j k n : ℕ) → slice_get p.definitions j ≡ Some n → slice_get p.definitions k ≡ Some n → j ≡ k
  pub owners : AreOwners p.functions p.definitions
  pub main : (k : ℕ) × (slice_get p.definitions k ≡ Some p.main)
