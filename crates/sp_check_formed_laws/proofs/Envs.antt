-- Environments whose types are formed, and how they go on.
use Rattle.std.proofs.Common.{◌≡◌, ℕ, ◌≤◌, ◌<◌, false, ◌==◌, length, List, [], ◌∷◌, Option, Some, None, refl, arith}
use Rattle.std.specs.Prelude.{slice_get, ⊤}
use Rattle.sp_types.specs.Types.{Struct}
use Rattle.sp_types.specs.Structs.{IsTable, IsFormed, IsFormedSignature}
use Rattle.sp_types.specs.Programs.{Object, Function}
use Rattle.sp_check_operands.specs.Conversions.{is_function}
use Rattle.sp_check_scopes.specs.Meanings.{Meaning}
use Rattle.sp_check_scopes.specs.Meanings as means
use Rattle.sp_check_scopes.specs.Scopes.{Scope, entry, or_else, meaning_in, visible_meaning}
use Rattle.sp_check_env.specs.Env.{Env, Tables}
use Rattle.sp_check_formed_laws.proofs.Lists.{Each, each_first, each_behind, each_found}
use Rattle.sp_check_formed_laws.proofs.Longer.{type_longer, signature_longer}

-- ---- what is formed

-- a name of a type names one that is formed
abbrev pub IsMeant : List Struct → Meaning → Type 0
IsMeant ss (means.object k) = ⊤
IsMeant ss (means.function k) = ⊤
IsMeant ss (means.constant z) = ⊤
IsMeant ss (means.named t) = IsFormed ss t

abbrev pub AreMeant : List Struct → List (ℕ × Meaning) → Type 0
AreMeant ss ns = Each (λ n. IsMeant ss n.1) ns

abbrev pub IsFormedObject : List Struct → Object → Type 0
IsFormedObject ss o = IsFormed ss o.of × (is_function o.of ≡ false)

-- numbers of entries, of which there are so many
abbrev pub AreBelow : ℕ → List ℕ → Type 0
AreBelow n ks = Each (λ k. k < n) ks

pub below_more : (n m : ℕ) (ks : List ℕ) → n ≤ m → AreBelow n ks → AreBelow m ks
below_more n m ks l h = λ i k at. let low : k < n = h i k at in omega (arith, low, l)

-- its signature is formed, and its formals and locals are objects of the unit, of which there are n
abbrev pub IsFormedFunction : List Struct → ℕ → Function → Type 0
IsFormedFunction ss n f = IsFormedSignature ss f.of × AreBelow n f.formals × AreBelow n f.locals

pub record IsFormedEnv (env : Env) : Type 0 where
  pub table : IsTable env.tables.structs
  pub objects : Each (λ o. IsFormedObject env.tables.structs o) env.tables.objects
  pub functions : Each (λ f. IsFormedFunction env.tables.structs (length env.tables.objects) f) env.tables.functions
  pub typings : Each (λ t. IsFormed env.tables.structs t.of) env.tables.typings
  pub inner : AreMeant env.tables.structs env.scopes.inner.names
  pub around : Each (λ s. AreMeant env.tables.structs s.names) env.scopes.around

-- ---- what stays

-- the table of structs grows, and those that aren't open stay as they are; objects are added
pub record Keeps (t u : Tables) : Type 0 where
  pub longer : length t.structs ≤ length u.structs
  pub closed : (k : ℕ) (s : Struct) → slice_get t.structs k ≡ Some s → (s.level == 0) ≡ false → slice_get u.structs k ≡ Some s
  pub objects : length t.objects ≤ length u.objects

-- behind a rule the environment is formed, and keeps what was there
pub record Goes (env later : Env) : Type 0 where
  pub formed : IsFormedEnv later
  pub keeps : Keeps env.tables later.tables

pub goes_nowhere : (env : Env) → IsFormedEnv env → Goes env env
goes_nowhere env h = record { formed = h; keeps = record { longer = omega arith; closed = λ k s at l. at; objects = omega arith } }

pub keeps_on : (a b c : Tables) → Keeps a b → Keeps b c → Keeps a c
keeps_on a b c g h = record {
  longer = omega (arith, g.longer, h.longer);
  closed = λ k s at l. h.closed k s (g.closed k s at l) l;
  objects = omega (arith, g.objects, h.objects);
}

pub goes_on : (a b c : Env) → Goes a b → Goes b c → Goes a c
goes_on a b c g h = record { formed = h.formed; keeps = keeps_on a.tables b.tables c.tables g.keeps h.keeps }

-- ---- names

pub meant_longer : (ss rs : List Struct) → length ss ≤ length rs → (m : Meaning) → IsMeant ss m → IsMeant rs m
meant_longer ss rs l (means.object k) h = tt
meant_longer ss rs l (means.function k) h = tt
meant_longer ss rs l (means.constant z) h = tt
meant_longer ss rs l (means.named t) h = type_longer ss rs l t h

found_or : (ss : List Struct) (o other : Option Meaning) (m : Meaning) → ((m : Meaning) → o ≡ Some m → IsMeant ss m) → (other ≡ Some m → IsMeant ss m) → or_else o other ≡ Some m → IsMeant ss m
found_or ss (Some x) other m h g e = h m e
found_or ss None other m h g e = g e

meant_in : (ss : List Struct) (scopes : List Scope) (n : ℕ) (m : Meaning) → Each (λ s. AreMeant ss s.names) scopes → meaning_in scopes n ≡ Some m → IsMeant ss m
meant_in ss [] n m h e = absurd (cc)
meant_in ss (s ∷ scopes) n m h e =
    found_or ss (entry s.names n) (meaning_in scopes n) m (λ x g. each_found (IsMeant ss) s.names n x (h 0 s refl) g) (meant_in ss scopes n m (each_behind (λ s. AreMeant ss s.names) s scopes h)) e

pub visible_meant : (env : Env) (n : ℕ) (m : Meaning) → IsFormedEnv env → visible_meaning env.scopes n ≡ Some m → IsMeant env.tables.structs m
visible_meant env n m h e =
    meant_in env.tables.structs (env.scopes.inner ∷ env.scopes.around) n m
    (each_first (λ s. AreMeant env.tables.structs s.names) env.scopes.inner env.scopes.around h.inner h.around) e

-- ---- a table that grows

-- the environment with another table of structs
abbrev pub over : Env → List Struct → Env
over env ss = record env { tables = record env.tables { structs = ss } }

pub formed_over : (env : Env) (ss : List Struct) → length env.tables.structs ≤ length ss → IsTable ss → IsFormedEnv env → IsFormedEnv (over env ss)
formed_over env ss l table h = record {
  table = table;
  objects = λ k o at. (type_longer env.tables.structs ss l o.of (h.objects k o at).0, (h.objects k o at).1);
  functions = λ k f at. (signature_longer env.tables.structs ss l f.of (h.functions k f at).0, (h.functions k f at).1, (h.functions k f at).2);
  typings = λ k t at. type_longer env.tables.structs ss l t.of (h.typings k t at);
  inner = λ k n at. meant_longer env.tables.structs ss l n.1 (h.inner k n at);
  around = λ j s at k n g. meant_longer env.tables.structs ss l n.1 (h.around j s at k n g);
}
