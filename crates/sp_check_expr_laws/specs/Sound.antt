-- Environments in which expressions are well typed: what the checks keep of types, structs, objects
-- and names.
use Rattle.std.specs.Prelude.{◌≡◌, ℕ, ◌≤◌, ◌<◌, ◌||◌, Bool, true, false, List, [], ◌∷◌, length, Option, Some, None, slice_get, ⊤}
use Rattle.sp_types.specs.declared.ctype.IntKind.TheVariants.{Int}
use Rattle.sp_types.specs.declared.extents.Extent.{Extent}
use Rattle.sp_types.specs.Types.{CType, void, integer, floating, pointer, array, structure, function, Signature, signature, Parameters, untold, listed, CTypes, no_types, next_type, Struct}
use Rattle.sp_types.specs.Structs.{IsTable, IsFormed, IsFormedSignature}
use Rattle.sp_types.specs.Programs.{Object, Function}
use Rattle.sp_check_operands.specs.Conversions.{is_array, is_function, is_complete}
use Rattle.sp_check_scopes.specs.Meanings.{Meaning}
use Rattle.sp_check_scopes.specs.Meanings as means
use Rattle.sp_check_scopes.specs.Scopes.{Scope}
use Rattle.sp_base_checked.specs.Units.{Typing}
use Rattle.sp_check_env.specs.Env.{Env}
use Rattle.sp_ir.specs.Formed.{InKind}
use Rattle.sp_check_typing.specs.Trees.{Scene}
use Rattle.sp_check_typing.specs.Programs.{lasts}

-- ---- types

-- no function in it returns an array (C90 6.5.4.3)
abbrev mutual
  pub IsSound : CType → Type 0
  IsSound void = ⊤
  IsSound (integer k) = ⊤
  IsSound (floating k) = ⊤
  IsSound (pointer t) = IsSound t
  IsSound (array t n) = IsSound t
  IsSound (structure k) = ⊤
  IsSound (function s) = IsSoundSignature s

  pub IsSoundSignature : Signature → Type 0
  IsSoundSignature (signature r ps dots) = (is_array r ≡ false) × IsSound r × AreSoundParameters ps

  pub AreSoundParameters : Parameters → Type 0
  AreSoundParameters untold = ⊤
  AreSoundParameters (listed ts) = AreSound ts

  pub AreSound : CTypes → Type 0
  AreSound no_types = ⊤
  AreSound (next_type t ts) = IsSound t × AreSound ts

-- ---- arrays

-- what is declared as an array has complete elements, and is complete where its length is told
-- (C90 6.5.4.2)
abbrev pub KnowsElements : List Struct → CType → Type 0
KnowsElements ss (array t None) = is_complete ss t ≡ true
KnowsElements ss (array t (Some n)) = is_complete ss (array t (Some n)) ≡ true
KnowsElements ss t = ⊤

-- ---- structs

-- it has a size and an alignment, where it is complete
abbrev pub HasExtent : Option Extent → Type 0
HasExtent None = ⊤
HasExtent (Some e) = (1 ≤ e.size) × (1 ≤ e.align)

abbrev pub AreSoundIn : List (ℕ × CType) → Type 0
AreSoundIn [] = ⊤
AreSoundIn (m ∷ ms) = IsSound m.1 × AreSoundIn ms

abbrev pub AreSoundMembers : Option (List (ℕ × CType)) → Type 0
AreSoundMembers None = ⊤
AreSoundMembers (Some ms) = AreSoundIn ms

abbrev pub IsSoundStruct : Struct → Type 0
IsSoundStruct s = HasExtent s.extent × AreSoundMembers s.members

-- ---- objects

-- what a tree may name: the function at hand has the objects `own`
abbrev pub is_seen : (ℕ → Bool) → List Object → ℕ → Bool
is_seen own objects k = own k || lasts (slice_get objects k)

-- objects that last alone
abbrev pub lasting_alone : ℕ → Bool
lasting_alone k = false

abbrev pub scene_of : (ℕ → Bool) → Env → Scene
scene_of own env = record {
  structs = env.tables.structs;
  objects = env.tables.objects;
  functions = length env.tables.functions;
  is_visible = is_seen own env.tables.objects;
}

-- ---- meanings

-- a name of an object names one that is seen, a constant is an int, a type is formed and sound
abbrev pub IsSoundMeaning : (ℕ → Bool) → Env → Meaning → Type 0
IsSoundMeaning own env (means.object k) = is_seen own env.tables.objects k ≡ true
IsSoundMeaning own env (means.function k) = ⊤
IsSoundMeaning own env (means.constant z) = InKind Int z
IsSoundMeaning own env (means.named t) = IsFormed env.tables.structs t × IsSound t
    × KnowsElements env.tables.structs t

abbrev pub AreSoundNames : (ℕ → Bool) → Env → List (ℕ × Meaning) → Type 0
AreSoundNames own env ns = (k : ℕ) (n : ℕ × Meaning) → slice_get ns k ≡ Some n
    → IsSoundMeaning own env n.1

-- ---- environments

abbrev pub IsSoundObject : Env → Object → Type 0
IsSoundObject env o = IsFormed env.tables.structs o.of × (is_function o.of ≡ false) × IsSound o.of

abbrev pub AreObjects : Env → List ℕ → Type 0
AreObjects env ns = (k n : ℕ) → slice_get ns k ≡ Some n → n < length env.tables.objects

abbrev pub IsSoundFunction : Env → Function → Type 0
IsSoundFunction env f = IsFormedSignature env.tables.structs f.of × IsSoundSignature f.of
    × AreObjects env f.formals × AreObjects env f.locals

-- the function at hand has the objects `own`
pub record IsSoundEnv (own : ℕ → Bool) (env : Env) : Type 0 where
  pub table : IsTable env.tables.structs
  pub structs : (k : ℕ) (s : Struct) → slice_get env.tables.structs k ≡ Some s → IsSoundStruct s
  pub objects : (k : ℕ) (o : Object) → slice_get env.tables.objects k ≡ Some o → IsSoundObject env o
  pub functions : (k : ℕ) (f : Function) → slice_get env.tables.functions k ≡ Some f
      → IsSoundFunction env f
  pub typings : (k : ℕ) (t : Typing) → slice_get env.tables.typings k ≡ Some t
      → IsFormed env.tables.structs t.of
  pub inner : AreSoundNames own env env.scopes.inner.names
  pub around : (k : ℕ) (s : Scope) → slice_get env.scopes.around k ≡ Some s
      → AreSoundNames own env s.names
