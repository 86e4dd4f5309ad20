-- Sound environments, and how they go on.
use Rattle.std.proofs.Common.{◌≡◌, ◌⊎◌, inl, inr, ℕ, ◌≤◌, ◌||◌, Bool, true, false, length, List, [], ◌∷◌, Option, Some, None, refl, ap, sym, ◌∙◌, true≢false, arith}
use Rattle.std.specs.Prelude.{slice_get, ⊤}
use Rattle.sp_types.specs.declared.ctype.IntKind.TheVariants.{Int}
use Rattle.sp_types.specs.Types.{CType, Signature, Struct, result_of}
use Rattle.sp_types.specs.Programs.{Object, Function}
use Rattle.sp_types.specs.declared.program.Storage.{Storage}
use Rattle.sp_types.specs.declared.program.Storage.TheVariants.{Static, Outside}
use Rattle.sp_check_scopes.specs.Meanings.{Meaning}
use Rattle.sp_check_scopes.specs.Meanings as means
use Rattle.sp_check_scopes.specs.Scopes.{Scope, is_empty, is_file_scope, entry, or_else, meaning_in, visible_meaning}
use Rattle.sp_check_env.specs.declared.env.Entity.TheVariants as entities
use Rattle.sp_check_env.specs.Env.{Env, linked}
use Rattle.sp_ir.specs.Formed.{InKind}
use Rattle.sp_check_objects.specs.Objects.{has_linkage}
use Rattle.sp_check_formed_laws.proofs.Lists.{Each, each_first, each_behind, each_found}
use Rattle.sp_check_formed_laws.proofs.Stays.{Stays}
use Rattle.sp_check_formed_laws.proofs.Tables.{whole_level}
use Rattle.sp_check_formed_laws.proofs.Envs.{IsFormedEnv, Keeps, keeps_on}
use Rattle.sp_check_typing.specs.Statements.{is_lasting}
use Rattle.sp_check_typing.specs.Programs.{lasts}
use Rattle.sp_check_expr_laws.specs.Sound.{IsSound, IsSoundSignature, KnowsElements, IsSoundStruct, is_seen, lasting_alone, scene_of}
use Rattle.sp_check_expr_laws.proofs.Elements.{elements_stay}
use Rattle.sp_check_expr_laws.proofs.Types.{IsSoundTable}
use Rattle.sp_check_typing.specs.Refines.{Tells}
use Rattle.sp_check_typing.specs.Sorts.{agrees}
use Rattle.sp_check_expr_laws.proofs.Grows.{Grows}
use Rattle.sp_check_expr_laws.proofs.Starts.{HaveStarts, IsCalm, calm_on, starts_calm}
use Rattle.sp_check_expr_laws.proofs.Named.{KeepNames, names_nowhere, names_on}
use Rattle.sp_check_expr_laws.proofs.Gains.{ScopesGain, scopes_stay, scopes_gain_on, empty_alike}

-- ---- what is sound

abbrev pub IsFitting : (ℕ → Bool) → List Struct → List Object → Meaning → Type 0
IsFitting own ss os (means.object k) = is_seen own os k ≡ true
IsFitting own ss os (means.function k) = ⊤
IsFitting own ss os (means.constant z) = InKind Int z
IsFitting own ss os (means.named t) = IsSound t × KnowsElements ss t

abbrev pub AreFitting : (ℕ → Bool) → List Struct → List Object → List (ℕ × Meaning) → Type 0
AreFitting own ss os ns = Each (λ n. IsFitting own ss os n.1) ns

-- what is sound besides being formed
pub record IsFit (own : ℕ → Bool) (env : Env) : Type 0 where
  pub formed : IsFormedEnv env
  pub structs : Each IsSoundStruct env.tables.structs
  pub objects : Each (λ o. IsSound o.of) env.tables.objects
  pub functions : Each (λ f. IsSoundSignature f.of) env.tables.functions
  pub inner : AreFitting own env.tables.structs env.tables.objects env.scopes.inner.names
  pub around : Each
      (λ s. AreFitting own env.tables.structs env.tables.objects s.names) env.scopes.around

pub fit_table : (own : ℕ → Bool) (env : Env) → IsFit own env → IsSoundTable env.tables.structs
fit_table own env h = record { table = h.formed.table; structs = h.structs }

-- ---- what stays

-- what has linkage lasts, and is no literal (C90 6.1.2.4)
abbrev pub IsHomeStorage : Storage → Type 0
IsHomeStorage s = (s ≡ Static) ⊎ (s ≡ Outside)

pub home_lasting : (s : Storage) → IsHomeStorage s → is_lasting s ≡ true
home_lasting s (inl h) = ap is_lasting h
home_lasting s (inr h) = ap is_lasting h

abbrev pub IsHome : Object → Type 0
IsHome o = has_linkage o.linkage ≡ true → IsHomeStorage o.storage

-- the object of this number tells all that it told, has its linkage, and lasts where it lasted;
-- where it doesn't last it is the same
pub record IsKeptObject (os : List Object) (k : ℕ) (o : Object) : Type 0 where
  pub object : Object
  pub there : slice_get os k ≡ Some object
  pub same : (t : CType) → Tells o.of t → Tells object.of t
  pub stored : is_lasting o.storage ≡ true → is_lasting object.storage ≡ true
  pub linkage : object.linkage ≡ o.linkage
  pub whole : is_lasting o.storage ≡ false → object ≡ o

abbrev pub KeepObjects : List Object → List Object → Type 0
KeepObjects os rs = (k : ℕ) (o : Object) → slice_get os k ≡ Some o → IsKeptObject rs k o

pub kept_there : (os : List Object) (k : ℕ) (o : Object) → slice_get os k ≡ Some o
    → IsKeptObject os k o
kept_there os k o at =
    record {
      object = o;
      there = at;
      same = λ t h. h;
      stored = λ h. h;
      linkage = refl;
      whole = λ h. refl;
    }

-- what the result of a function of one type agrees with, that of the other agrees with
abbrev pub Follows : Signature → Signature → Type 0
Follows s r = (t : CType) → agrees (result_of s) t ≡ true → agrees (result_of r) t ≡ true

-- the function of this number has the body that it had, and a type that follows
pub record IsKeptFunction (fs : List Function) (k : ℕ) (f : Function) : Type 0 where
  pub function : Function
  pub there : slice_get fs k ≡ Some function
  pub formals : function.formals ≡ f.formals
  pub locals : function.locals ≡ f.locals
  pub body : function.body ≡ f.body
  pub follows : Follows f.of function.of

abbrev pub KeepFunctions : List Function → List Function → Type 0
KeepFunctions fs gs = (k : ℕ) (f : Function) → slice_get fs k ≡ Some f → IsKeptFunction gs k f

pub kept_function : (fs : List Function) (k : ℕ) (f : Function) → slice_get fs k ≡ Some f
    → IsKeptFunction fs k f
kept_function fs k f at = record {
  function = f;
  there = at;
  formals = refl;
  locals = refl;
  body = refl;
  follows = λ t h. h;
}

-- a name that is linked to an object stays so (C90 6.1.2.2)
abbrev pub KeepLinks : Env → Env → Type 0
KeepLinks env later = (n k : ℕ) → linked env n ≡ Some (entities.Object k)
    → linked later n ≡ Some (entities.Object k)

-- objects are kept, objects and functions are added, and of the scopes only the innermost one
-- changes: those around it gain functions alone
pub record Moves (env later : Env) : Type 0 where
  pub keeps : Keeps env.tables later.tables
  pub objects : KeepObjects env.tables.objects later.tables.objects
  pub homes : Each IsHome env.tables.objects → Each IsHome later.tables.objects
  pub functions : length env.tables.functions ≤ length later.tables.functions
  pub kept : KeepFunctions env.tables.functions later.tables.functions
  pub around : ScopesGain env.scopes.around later.scopes.around
  pub links : KeepLinks env later
  pub names : KeepNames env later

pub moves_nowhere : (env : Env) → Moves env env
moves_nowhere env = record {
  keeps = record { longer = omega arith; closed = λ k s at l. at; objects = omega arith };
  objects = kept_there env.tables.objects;
  homes = λ h. h;
  functions = omega arith;
  kept = kept_function env.tables.functions;
  around = scopes_stay env.scopes.around;
  links = λ n k e. e;
  names = names_nowhere env;
}

pub moves_on : (a b c : Env) → Moves a b → Moves b c → Moves a c
moves_on a b c g h = record {
  keeps = keeps_on a.tables b.tables c.tables g.keeps h.keeps;
  objects = λ k o at.
      let x : IsKeptObject b.tables.objects k o = g.objects k o at in
      let y : IsKeptObject c.tables.objects k x.object = h.objects k x.object x.there in
      record {
        object = y.object;
        there = y.there;
        same = λ t s. y.same t (x.same t s);
        stored = λ s. y.stored (x.stored s);
        linkage = y.linkage ∙ x.linkage;
        whole = λ s. y.whole (ap (λ z. is_lasting z.storage) (x.whole s) ∙ s) ∙ x.whole s;
      };
  homes = λ x. h.homes (g.homes x);
  functions = omega (arith, g.functions, h.functions);
  kept = λ k f at.
      let x : IsKeptFunction b.tables.functions k f = g.kept k f at in
      let y : IsKeptFunction c.tables.functions k x.function = h.kept k x.function x.there in
      record {
        function = y.function;
        there = y.there;
        formals = y.formals ∙ x.formals;
        locals = y.locals ∙ x.locals;
        body = y.body ∙ x.body;
        follows = λ t s. y.follows t (x.follows t s);
      };
  around = scopes_gain_on a.scopes.around b.scopes.around c.scopes.around g.around h.around;
  links = λ n k e. h.links n k (g.links n k e);
  names = names_on a b c g.names h.names;
}

-- ---- what is seen stays so

or_more : (a b c : Bool) → (b ≡ true → c ≡ true) → (a || b) ≡ true → (a || c) ≡ true
or_more true b c m h = refl
or_more false b c m h = m h

pub lasts_on : (env later : Env) (k : ℕ) → Moves env later
    → lasts (slice_get env.tables.objects k) ≡ true
    → lasts (slice_get later.tables.objects k) ≡ true
lasts_on env later k g h = by (slice_get env.tables.objects k) refl h
  where
    by : (o : Option Object) → slice_get env.tables.objects k ≡ o → lasts o ≡ true
        → lasts (slice_get later.tables.objects k) ≡ true
    by None e h = absurd (true≢false (sym h))
    by (Some o) e h =
        let x : IsKeptObject later.tables.objects k o = g.objects k o e in
        ap lasts x.there ∙ x.stored h

module _ (own : ℕ → Bool) (env later : Env) (g : Moves env later) where
  pub seen_on : (k : ℕ) → is_seen own env.tables.objects k ≡ true
      → is_seen own later.tables.objects k ≡ true
  seen_on k h = or_more (own k) (lasts (slice_get env.tables.objects k))
      (lasts (slice_get later.tables.objects k)) (lasts_on env later k g) h

  pub table_stays : IsFormedEnv env → Stays env.tables.structs later.tables.structs
  table_stays f = record {
    longer = g.keeps.longer;
    complete = λ k s e at whole. g.keeps.closed k s at
        (whole_level env.tables.structs s s.members e whole (f.table k s at));
  }

  fitting_on : IsFormedEnv env → (m : Meaning)
      → IsFitting own env.tables.structs env.tables.objects m
      → IsFitting own later.tables.structs later.tables.objects m
  fitting_on f (means.object k) h = seen_on k h
  fitting_on f (means.function k) h = h
  fitting_on f (means.constant z) h = h
  fitting_on f (means.named t) h =
      (h.0, elements_stay env.tables.structs later.tables.structs (table_stays f) t h.1)

  pub all_fitting_on : IsFormedEnv env → (ns : List (ℕ × Meaning))
      → AreFitting own env.tables.structs env.tables.objects ns
      → AreFitting own later.tables.structs later.tables.objects ns
  all_fitting_on f ns h = λ k n at. fitting_on f n.1 (h k n at)

  pub around_fitting_on : IsFormedEnv env
      → Each (λ s. AreFitting own env.tables.structs env.tables.objects s.names) env.scopes.around
      → Each (λ s. AreFitting own later.tables.structs later.tables.objects s.names)
      env.scopes.around
  around_fitting_on f h = λ k s at. all_fitting_on f s.names (h k s at)

  pub scene_grows : IsFormedEnv env → Grows (scene_of own env) (scene_of own later)
  scene_grows f = record {
    stays = table_stays f;
    functions = g.functions;
    names = λ n o at seen.
        let x : IsKeptObject later.tables.objects n o = g.objects n o at in
        record { object = x.object; there = x.there; visible = seen_on n seen; same = x.same };
  }

-- ---- names

found_or : (own : ℕ → Bool) (ss : List Struct) (os : List Object) (o other : Option Meaning)
    (m : Meaning)
    → ((m : Meaning) → o ≡ Some m → IsFitting own ss os m) →
    (other ≡ Some m → IsFitting own ss os m)
    → or_else o other ≡ Some m → IsFitting own ss os m
found_or own ss os (Some x) other m h g e = h m e
found_or own ss os None other m h g e = g e

fitting_in : (own : ℕ → Bool) (ss : List Struct) (os : List Object) (scopes : List Scope) (n : ℕ)
    (m : Meaning)
    → Each (λ s. AreFitting own ss os s.names) scopes → meaning_in scopes n ≡ Some m
    → IsFitting own ss os m
fitting_in own ss os [] n m h e = absurd (cc)
fitting_in own ss os (s ∷ scopes) n m h e =
    found_or own ss os (entry s.names n) (meaning_in scopes n) m
    (λ x g. each_found (IsFitting own ss os) s.names n x (h 0 s refl) g)
    (fitting_in own ss os scopes n m (each_behind (λ s. AreFitting own ss os s.names) s scopes h)) e

pub visible_fitting : (own : ℕ → Bool) (env : Env) (n : ℕ) (m : Meaning) → IsFit own env
    → visible_meaning env.scopes n ≡ Some m → IsFitting own env.tables.structs env.tables.objects m
visible_fitting own env n m h e =
    fitting_in own env.tables.structs env.tables.objects (env.scopes.inner ∷ env.scopes.around) n m
    (each_first
    (λ s. AreFitting own env.tables.structs env.tables.objects s.names) env.scopes.inner env.scopes.around
    h.inner h.around) e

-- ---- behind a rule

-- a function that has all objects: rules are told so to show that they declare none
abbrev pub SeesAll : (ℕ → Bool) → Type 0
SeesAll own = (k : ℕ) → own k ≡ true

-- start values stay known; in the scope of the file an object that is `own` may come to wait
abbrev pub KeepsStarts : (ℕ → Bool) → Env → Env → Type 0
KeepsStarts own env later = (waits : ℕ → Bool)
    → (is_file_scope env.scopes ≡ true → (k : ℕ) → own k ≡ true → waits k ≡ true)
    → HaveStarts waits env → HaveStarts waits later

-- the environment is sound, and what was there stays
pub record Reaches (own : ℕ → Bool) (env later : Env) : Type 0 where
  pub fit : IsFit own later
  pub moves : Moves env later
  pub calm : SeesAll own → IsCalm env later
  pub starts : KeepsStarts own env later

pub reaches_nowhere : (own : ℕ → Bool) (env : Env) → IsFit own env → Reaches own env env
reaches_nowhere own env h = record {
  fit = h;
  moves = moves_nowhere env;
  calm = λ all k o at. inl at;
  starts = λ waits w x. x;
}

-- the file's scope is the innermost one where it was
pub around_alike : {env later : Env} → Moves env later
    → is_empty later.scopes.around ≡ is_empty env.scopes.around
around_alike {env = env} {later = later} g =
    empty_alike env.scopes.around later.scopes.around g.around

pub file_later : (env later : Env) → Moves env later → is_file_scope later.scopes ≡ true
    → is_file_scope env.scopes ≡ true
file_later env later g h = sym (around_alike g) ∙ h

pub reaches_on : (own : ℕ → Bool) (a b c : Env) → Reaches own a b → Reaches own b c
    → Reaches own a c
reaches_on own a b c g h = record {
  fit = h.fit;
  moves = moves_on a b c g.moves h.moves;
  calm = λ all. calm_on a b c g.moves.keeps.objects (g.calm all) (h.calm all);
  starts = λ waits w x.
      h.starts waits (λ file. w (file_later a b g.moves file)) (g.starts waits w x);
}

pub grows_of : (own : ℕ → Bool) (env later : Env) → IsFit own env → Reaches own env later
    → Grows (scene_of own env) (scene_of own later)
grows_of own env later h g = scene_grows own env later g.moves h.formed

-- where no object is declared, they stay known
pub calm_starts : (own : ℕ → Bool) (env later : Env) → IsFormedEnv env → IsCalm env later
    → Moves env later → KeepsStarts own env later
calm_starts own env later f calm g waits w x =
    starts_calm waits env later f.table (scene_grows lasting_alone env later g f) calm x
