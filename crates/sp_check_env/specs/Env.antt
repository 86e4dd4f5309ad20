-- The environment of a unit: its scopes, its names with linkage, and its tables (C90 6.1.2.1 to 6.1.2.3).
use Rattle.std.specs.Prelude.{ℕ, zero, suc, ℤ, Bool, false, ◌==◌, List, [], ◌∷◌, ◌++◌, Option, Some, None, if◌then◌else◌, nat_eq, slice_set, unwrap_or}
use Rattle.indexmap.specs.IndexMap.{insert_entry}
use Rattle.sp_tree.specs.declared.fault.FaultKind.TheVariants.{RedeclaredName}
use Rattle.sp_tree.specs.declared.fault.Place.{Place}
use Rattle.sp_types.specs.Types.{CType, Signature, Struct}
use Rattle.sp_types.specs.Programs.{Object, Function}
use Rattle.sp_types.specs.declared.program.Linkage.{Linkage}
use Rattle.sp_types.specs.declared.program.Linkage.TheVariants.{External}
use Rattle.sp_base_checked.specs.Answers.{Checked, accepted, refused}
use Rattle.sp_check_scopes.specs.declared.meaning.Tag.{Tag}
use Rattle.sp_check_scopes.specs.declared.scope.ScopeKind.TheVariants.{Block, Parameters}
use Rattle.sp_check_scopes.specs.Meanings.{Meaning, object, function}
use Rattle.sp_check_scopes.specs.Scopes.{Scope, Scopes, file_scope, entry}
use Rattle.sp_check_scopes.specs.Scopes as scopes
use Rattle.sp_base_checked.specs.Units.{Typing}
use Rattle.sp_check_env.specs.declared.env.Entity.{Entity}

-- what the unit has declared, in the order of the text: a number names an entry
pub record Tables : Type 0 where
  pub structs : List Struct
  pub objects : List Object
  pub functions : List Function
  pub constants : List ℤ
  pub typings : List Typing

-- `links` has each name with linkage that is declared by now, whether it is visible here or not;
-- `depths` tells of complete structs how many structs and arrays lie inside one another in them
pub record Env : Type 0 where
  pub scopes : Scopes
  pub links : List (ℕ × Entity)
  pub depths : List (ℕ × ℕ)
  pub tables : Tables

abbrev pub unit_start : Env
unit_start = record { scopes = file_scope; links = []; depths = []; tables = record { structs = []; objects = []; functions = []; constants = []; typings = [] } }

-- ---- scopes

-- a block; a list of parameters
abbrev pub entered : Env → Env
entered env = record env { scopes = scopes.entered Block env.scopes }

abbrev pub list_entered : Env → Env
list_entered env = record env { scopes = scopes.entered Parameters env.scopes }

abbrev pub left : Env → Env
left env = record env { scopes = scopes.left env.scopes }

-- the scope of a list is set aside, and inside the others again as a block's: the parameters of a
-- definition are in the block that is its body (6.1.2.1)
abbrev pub set_aside : Env → Env
set_aside env = record env { scopes = scopes.set_aside env.scopes }

abbrev pub resumed : Scope → Env → Env
resumed s env = record env { scopes = scopes.resumed s env.scopes }

abbrev pub with_tag : Env → ℕ → Tag → Env
with_tag env n t = record env { scopes = scopes.with_tag env.scopes n t }

-- 6.1.2.1, 6.5: a scope declares a name once, but for one object or one function; `named` are the
-- scopes with the name in it
abbrev pub is_same_entity : Meaning → Meaning → Bool
is_same_entity (object j) (object k) = j == k
is_same_entity (function j) (function k) = j == k
is_same_entity _ _ = false

abbrev pub declared_beside : Env → Scopes → Meaning → Place → Option Meaning → Checked Env
declared_beside env named m p None = accepted (record env { scopes = named })
declared_beside env named m p (Some old) = if is_same_entity old m then accepted env else refused RedeclaredName p

abbrev pub declared : Env → ℕ → Meaning → Place → Checked Env
declared env n m p = declared_beside env (scopes.with_name env.scopes n m) m p (entry env.scopes.inner.names n)

-- the same in the innermost block, or the file: a list of parameters is no block
abbrev pub declared_in_block : Env → ℕ → Meaning → Place → Checked Env
declared_in_block env n m p = declared_beside env (scopes.with_block_name env.scopes n m) m p (scopes.meaning_in_block env.scopes n)

-- ---- names with linkage (6.1.2.2)

abbrev pub linked : Env → ℕ → Option Entity
linked env n = entry env.links n

abbrev pub with_link : Env → ℕ → Entity → Env
with_link env n e = record env { links = insert_entry nat_eq env.links n e }

-- ---- how deep structs are

abbrev pub struct_depth : Env → ℕ → ℕ
struct_depth env k = unwrap_or (entry env.depths k) 0

abbrev pub with_depth : Env → ℕ → ℕ → Env
with_depth env k d = record env { depths = insert_entry nat_eq env.depths k d }

-- ---- tables: a number that names no entry changes nothing

abbrev pub object_type : Option Object → Option CType
object_type None = None
object_type (Some o) = Some o.of

abbrev pub object_linkage : Option Object → Option Linkage
object_linkage None = None
object_linkage (Some o) = Some o.linkage

abbrev pub function_type : Option Function → Option Signature
function_type None = None
function_type (Some f) = Some f.of

abbrev pub function_linkage : Option Function → Option Linkage
function_linkage None = None
function_linkage (Some f) = Some f.linkage

abbrev pub with_struct : Env → Struct → Env
with_struct env s = record env { tables = record env.tables { structs = env.tables.structs ++ s ∷ [] } }

abbrev pub set_struct : Env → ℕ → Struct → Env
set_struct env k s = record env { tables = record env.tables { structs = slice_set env.tables.structs k s } }

abbrev pub with_object : Env → Object → Env
with_object env o = record env { tables = record env.tables { objects = env.tables.objects ++ o ∷ [] } }

abbrev pub set_object : Env → ℕ → Object → Env
set_object env k o = record env { tables = record env.tables { objects = slice_set env.tables.objects k o } }

abbrev pub with_function : Env → Function → Env
with_function env f = record env { tables = record env.tables { functions = env.tables.functions ++ f ∷ [] } }

abbrev pub set_function : Env → ℕ → Function → Env
set_function env k f = record env { tables = record env.tables { functions = slice_set env.tables.functions k f } }

-- the entry of a number is changed
abbrev pub changed : {A : Type 0} → (A → A) → List A → ℕ → List A
changed f [] k = []
changed f (x ∷ xs) zero = f x ∷ xs
changed f (x ∷ xs) (suc k) = x ∷ changed f xs k

abbrev pub typed_by : Signature → Function → Function
typed_by s f = record f { of = s }

abbrev pub with_function_type : Env → ℕ → Signature → Env
with_function_type env k s = record env { tables = record env.tables { functions = changed (typed_by s) env.tables.functions k } }

abbrev pub with_constant : Env → ℤ → Env
with_constant env z = record env { tables = record env.tables { constants = env.tables.constants ++ z ∷ [] } }

abbrev pub with_typings : Env → List Typing → Env
with_typings env ts = record env { tables = record env.tables { typings = ts } }

-- those of names of external linkage are kept
abbrev pub typings_with : List Typing → Linkage → Typing → List Typing
typings_with ts External t = ts ++ t ∷ []
typings_with ts l t = ts

-- a name of this linkage has this type behind the declarator at a place
abbrev pub with_typing : Env → Linkage → ℕ → CType → Place → Env
with_typing env l n t p = with_typings env (typings_with env.tables.typings l (record { name = n; of = t; place = p }))
