-- What a rule does to an environment leaves it sound.
use Rattle.std.proofs.Common.{◌≡◌, ◌⊎◌, inl, inr, ℕ, zero, suc, ◌≤◌, ℤ, nat_le, ◌||◌, Bool, true, false, true≢false, ◌∙◌, ap, sym, subst, length, List, [], ◌∷◌, ◌++◌, Option, Some, None, if◌then◌else◌, refl, arith}
use Rattle.std.specs.Prelude.{slice_get, is_some}
use Rattle.std.proofs.lemmas.Bool.{le-leb}
use Rattle.sp_tree.specs.declared.fault.Place.{Place}
use Rattle.sp_types.specs.Types.{CType, Signature, Struct}
use Rattle.sp_types.specs.Structs.{IsFormed, IsFormedSignature}
use Rattle.sp_types.specs.Programs.{Object, Function}
use Rattle.sp_types.specs.declared.program.Linkage.{Linkage}
use Rattle.sp_tree.specs.declared.fault.FaultKind.TheVariants.{RedeclaredName}
use Rattle.sp_base_checked.specs.Answers.{accepted, refused}
use Rattle.sp_check_scopes.specs.declared.meaning.Tag.{Tag}
use Rattle.sp_check_scopes.specs.Meanings.{Meaning}
use Rattle.sp_check_scopes.specs.Meanings as means
use Rattle.sp_check_scopes.specs.declared.scope.ScopeKind.{ScopeKind}
use Rattle.sp_check_scopes.specs.Scopes.{Scope, Scopes, file_scope, entry}
use Rattle.sp_check_scopes.specs.Scopes as scopes
use Rattle.sp_base_checked.specs.Units.{Typing}
use Rattle.sp_check_env.specs.declared.env.Entity.{Entity}
use Rattle.sp_check_env.specs.declared.env.Entity.TheVariants as entities
use Rattle.sp_check_env.specs.Env.{Env, with_tag, is_same_entity, declared_beside, declared, declared_in_block, linked, with_link, with_object, with_function, typed_by, changed, with_function_type, with_constant, with_typings, typings_with, with_typing, list_entered, left, set_aside, resumed}
use Rattle.sp_check_objects.specs.Objects.{has_linkage}
use Rattle.sp_check_formed_laws.proofs.Lists.{some_is, Each, each_none, each_first, each_pushed, each_changed, each_inserted, pushed_length, pushed_before}
use Rattle.sp_check_formed_laws.proofs.Envs.{IsMeant, AreMeant, IsFormedObject, IsFormedFunction, IsFormedEnv, Goes}
use Rattle.sp_check_formed_laws.proofs.Updates.{goes_inside, goes_constant, goes_linked, goes_object, goes_function, goes_function_typed, goes_typings, typings_more, goes_left, goes_set_aside}
use Rattle.sp_check_typing.specs.Programs.{lasts}
use Rattle.sp_check_expr_laws.specs.Sound.{IsSound, IsSoundSignature, IsSoundStruct, lasting_alone}
use Rattle.sp_check_expr_laws.proofs.Types.{or_left, or_right, or_wider}
use Rattle.sp_check_expr_laws.proofs.Envs.{IsFitting, AreFitting, IsFit, IsHome, KeepObjects, kept_there, Follows, IsKeptFunction, KeepFunctions, kept_function, KeepLinks, Moves, moves_nowhere, SeesAll, KeepsStarts, Reaches, reaches_nowhere, all_fitting_on, around_fitting_on, scene_grows, calm_starts}
use Rattle.sp_check_expr_laws.proofs.Gains.{ScopesGain, all_scopes, scopes_stay, names_gained, scopes_gained, block_name_gained}
use Rattle.sp_check_expr_laws.proofs.Named.{inserted_kept, KeepNames, names_nowhere, names_linked, names_object, names_function, names_typed}
use Rattle.sp_check_expr_laws.proofs.Starts.{HasStart, HaveStarts, IsAside, aside_start, IsCalm, start_stays, pushed_split}
use Rattle.sp_check_expr_laws.proofs.After.{Leads, leads, leads_none}

changed_length : {A : Type 0} (f : A → A) (xs : List A) (k : ℕ)
    → length (changed f xs k) ≡ length xs
changed_length f [] k = refl
changed_length f (x ∷ xs) zero = refl
changed_length f (x ∷ xs) (suc k) = ap suc (changed_length f xs k)

-- a function takes a type that follows
changed_kept : (s : Signature) (fs : List Function) (k : ℕ)
    → ((f : Function) → slice_get fs k ≡ Some f → Follows f.of s)
    → KeepFunctions fs (changed (typed_by s) fs k)
changed_kept s [] k h j x at = kept_function [] j x at
changed_kept s (f ∷ fs) zero h zero x at =
    subst (λ x. IsKeptFunction (typed_by s f ∷ fs) 0 x) (some_is f x at) (record {
      function = typed_by s f;
      there = refl;
      formals = refl;
      locals = refl;
      body = refl;
      follows = h f refl;
    })
changed_kept s (f ∷ fs) zero h (suc j) x at = kept_function (typed_by s f ∷ fs) (suc j) x at
changed_kept s (f ∷ fs) (suc k) h zero x at =
    kept_function (f ∷ changed (typed_by s) fs k) 0 x at
changed_kept s (f ∷ fs) (suc k) h (suc j) x at =
    let y : IsKeptFunction (changed (typed_by s) fs k) j x = changed_kept s fs k h j x at in
    record {
      function = y.function;
      there = y.there;
      formals = y.formals;
      locals = y.locals;
      body = y.body;
      follows = y.follows;
    }

module _ (own : ℕ → Bool) (env : Env) (h : IsFit own env) where
  -- ---- tables: the scopes stay, or gain functions

  pub reaches_by : (later : Env) → Goes env later
      → KeepObjects env.tables.objects later.tables.objects
      → (Each IsHome env.tables.objects → Each IsHome later.tables.objects)
      → length env.tables.functions ≤ length later.tables.functions
      → KeepFunctions env.tables.functions later.tables.functions
      → ScopesGain (all_scopes env.scopes) (all_scopes later.scopes)
      → Each IsSoundStruct later.tables.structs → Each (λ o. IsSound o.of) later.tables.objects
      → Each (λ f. IsSoundSignature f.of) later.tables.functions
      → (SeesAll own → IsCalm env later) → (Moves env later → KeepsStarts own env later)
      → KeepLinks env later → KeepNames env later → Reaches own env later
  reaches_by later g kept homes more functions-kept gain structs objects functions calm starts
      links names =
      let m : Moves env later =
      record {
        keeps = g.keeps;
        objects = kept;
        homes = homes;
        functions = more;
        kept = functions-kept;
        around = gain.1;
        links = links;
        names = names;
      } in record {
        fit = record {
          formed = g.formed;
          structs = structs;
          objects = objects;
          functions = functions;
          inner = names_gained (IsFitting own later.tables.structs later.tables.objects) (λ k. tt)
              env.scopes.inner.names later.scopes.inner.names gain.0
              (all_fitting_on own env later m h.formed env.scopes.inner.names h.inner);
          around = scopes_gained (IsFitting own later.tables.structs later.tables.objects) (λ k. tt)
              env.scopes.around later.scopes.around gain.1
              (around_fitting_on own env later m h.formed h.around);
        };
        moves = m;
        calm = calm;
        starts = starts m;
      }

  -- the objects stay as they are
  pub still : (later : Env) → later.tables.objects ≡ env.tables.objects → IsCalm env later
  still later same k o at = inl (ap (λ os. slice_get os k) (sym same) ∙ at)

  pub still_starts : (later : Env) → later.tables.objects ≡ env.tables.objects → Moves env later
      → KeepsStarts own env later
  still_starts later same = calm_starts own env later h.formed (still later same)

  pub reaches_constant : (z : ℤ) → Reaches own env (with_constant env z)
  reaches_constant z =
      reaches_by (with_constant env z) (goes_constant env h.formed z)
      (kept_there env.tables.objects) (λ x. x)
      (omega arith) (kept_function env.tables.functions)
      (scopes_stay (all_scopes env.scopes)) h.structs h.objects h.functions
      (λ all. still (with_constant env z) refl) (still_starts (with_constant env z) refl)
      (λ m j e. e) (names_nowhere env)

  -- a name that wasn't linked
  pub reaches_linked : (n : ℕ) (e : Entity) → linked env n ≡ None
      → Reaches own env (with_link env n e)
  reaches_linked n e none =
      reaches_by (with_link env n e) (goes_linked env h.formed n e) (kept_there env.tables.objects)
      (λ x. x)
      (omega arith) (kept_function env.tables.functions)
      (scopes_stay (all_scopes env.scopes)) h.structs h.objects h.functions
      (λ all. still (with_link env n e) refl) (still_starts (with_link env n e) refl)
      (λ m j is. inserted_kept env.links n e m (entities.Object j) none is)
      (names_linked env n e none)

  pub reaches_typings : (ts : List Typing) → Each (λ t. IsFormed env.tables.structs t.of) ts
      → Reaches own env (with_typings env ts)
  reaches_typings ts p =
      reaches_by (with_typings env ts) (goes_typings env h.formed ts p)
      (kept_there env.tables.objects) (λ x. x)
      (omega arith) (kept_function env.tables.functions)
      (scopes_stay (all_scopes env.scopes)) h.structs h.objects h.functions
      (λ all. still (with_typings env ts) refl) (still_starts (with_typings env ts) refl)
      (λ m j e. e) (names_nowhere env)

  pub reaches_typing : (l : Linkage) (n : ℕ) (t : CType) (p : Place) → IsFormed env.tables.structs t
      → Reaches own env (with_typing env l n t p)
  reaches_typing l n t p f =
      reaches_typings (typings_with env.tables.typings l (record { name = n; of = t; place = p }))
      (typings_more env h.formed l (record { name = n; of = t; place = p }) f)

  -- one more object without linkage, with a start of its own
  pub reaches_object : (o : Object) → has_linkage o.linkage ≡ false → IsFormedObject env.tables.structs o → IsSound o.of
      → (SeesAll own → IsAside o)
      → ((waits : ℕ → Bool)
      → HasStart waits (with_object env o) (length env.tables.objects) o o.storage)
      → Reaches own env (with_object env o)
  reaches_object o private f p aside start =
      reaches_by (with_object env o) (goes_object env h.formed o f)
      (λ k x at. kept_there (env.tables.objects ++ o ∷ []) k x
      (pushed_before env.tables.objects o x k at))
      (λ x. each_pushed IsHome env.tables.objects o x
      (λ mine. absurd (true≢false (sym mine ∙ private)))) (omega arith)
      (kept_function env.tables.functions)
      (scopes_stay (all_scopes env.scopes)) h.structs
      (each_pushed (λ o. IsSound o.of) env.tables.objects o h.objects p) h.functions
      (λ all k x at. calm all x (pushed_split env.tables.objects o x k at))
      (λ m waits w x k y at. begun m waits x k y (pushed_split env.tables.objects o y k at))
      (λ m j e. e) (names_object env o private)
    where
      calm : SeesAll own → (x : Object) → {k : ℕ}
          → (slice_get env.tables.objects k ≡ Some x)
          ⊎ ((k ≡ length env.tables.objects) × (o ≡ x))
          → (slice_get env.tables.objects k ≡ Some x)
          ⊎ ((length env.tables.objects ≤ k) × IsAside x)
      calm all x (inl at) = inl at
      calm all x (inr y) = inr (omega (arith, y.0), subst IsAside y.1 (aside all))

      begun : Moves env (with_object env o) → (waits : ℕ → Bool) → HaveStarts waits env → (k : ℕ)
          (y : Object)
          → (slice_get env.tables.objects k ≡ Some y)
          ⊎ ((k ≡ length env.tables.objects) × (o ≡ y))
          → HasStart waits (with_object env o) k y y.storage
      begun m waits x k y (inl at) =
          start_stays waits env (with_object env o) h.formed.table
          (scene_grows lasting_alone env (with_object env o) m h.formed) k y y.storage (x k y at)
      begun m waits x k y (inr z) =
          subst (λ u. HasStart waits (with_object env o) k u u.storage) z.1
          (subst (λ i. HasStart waits (with_object env o) i o o.storage) (sym z.0) (start waits))

  -- a literal, or a parameter
  pub reaches_aside : (o : Object) → has_linkage o.linkage ≡ false
      → IsFormedObject env.tables.structs o → IsSound o.of → IsAside o → Reaches own env (with_object env o)
  reaches_aside o private f p aside =
      reaches_object o private f p (λ all. aside)
      (λ waits. aside_start waits (with_object env o) (length env.tables.objects) o aside)

  -- one more function, to which its name is linked
  pub reaches_function : (f : Function) → IsFormedFunction env.tables.structs
      (length env.tables.objects) f → IsSoundSignature f.of → is_some f.body ≡ false
      → linked env f.name ≡ Some (entities.Function (length env.tables.functions))
      → Reaches own env (with_function env f)
  reaches_function f g p bodiless link =
      reaches_by (with_function env f) (goes_function env h.formed f g)
      (kept_there env.tables.objects) (λ x. x)
      (omega (arith, pushed_length env.tables.functions f))
      (λ k x at. kept_function (env.tables.functions ++ f ∷ []) k x
      (pushed_before env.tables.functions f x k at)) (scopes_stay (all_scopes env.scopes))
      h.structs h.objects
      (each_pushed (λ f. IsSoundSignature f.of) env.tables.functions f h.functions p)
      (λ all. still (with_function env f) refl) (still_starts (with_function env f) refl)
      (λ m j e. e) (names_function env f bodiless link)

  pub reaches_function_typed : (k : ℕ) (s : Signature) → IsFormedSignature env.tables.structs s
      → IsSoundSignature s
      → ((f : Function) → slice_get env.tables.functions k ≡ Some f → Follows f.of s)
      → Reaches own env (with_function_type env k s)
  reaches_function_typed k s g p follows =
      reaches_by (with_function_type env k s) (goes_function_typed env h.formed k s g)
      (kept_there env.tables.objects) (λ x. x)
      (omega (arith, changed_length (typed_by s) env.tables.functions k))
      (changed_kept s env.tables.functions k follows) (scopes_stay (all_scopes env.scopes))
      h.structs h.objects
      (each_changed (λ f. IsSoundSignature f.of) (typed_by s) env.tables.functions k h.functions
      (λ f x. p)) (λ all. still (with_function_type env k s) refl)
      (still_starts (with_function_type env k s) refl) (λ m j e. e) (names_typed env k s)

  -- ---- scopes: those around the innermost one gain functions

  abbrev in_scopes : Scopes → Env
  in_scopes s = record env { scopes = s }

  scopes_moves : (s : Scopes) → ScopesGain env.scopes.around s.around → Moves env (in_scopes s)
  scopes_moves s gain = record {
    keeps = (moves_nowhere env).keeps;
    objects = kept_there env.tables.objects;
    homes = λ x. x;
    functions = omega arith;
    kept = kept_function env.tables.functions;
    around = gain;
    links = λ m j e. e;
    names = names_nowhere env;
  }

  reaches_scopes : (s : Scopes) → ScopesGain env.scopes.around s.around
      → AreMeant env.tables.structs s.inner.names
      → AreFitting own env.tables.structs env.tables.objects s.inner.names
      → Reaches own env (in_scopes s)
  reaches_scopes s gain meant fits = record {
    fit = record {
      formed = record {
        table = h.formed.table;
        objects = h.formed.objects;
        functions = h.formed.functions;
        typings = h.formed.typings;
        inner = meant;
        around = scopes_gained (IsMeant env.tables.structs) (λ k. tt)
            env.scopes.around s.around gain h.formed.around;
      };
      structs = h.structs;
      objects = h.objects;
      functions = h.functions;
      inner = fits;
      around = scopes_gained (IsFitting own env.tables.structs env.tables.objects) (λ k. tt)
          env.scopes.around s.around gain h.around;
    };
    moves = scopes_moves s gain;
    calm = λ all. still (in_scopes s) refl;
    starts = still_starts (in_scopes s) refl (scopes_moves s gain);
  }

  pub reaches_tagged : (n : ℕ) (t : Tag) → Reaches own env (with_tag env n t)
  reaches_tagged n t =
      reaches_scopes (scopes.with_tag env.scopes n t) (scopes_stay env.scopes.around)
      h.formed.inner h.inner

  reaches_named : (n : ℕ) (m : Meaning) → IsMeant env.tables.structs m
      → IsFitting own env.tables.structs env.tables.objects m
      → Reaches own env (in_scopes (scopes.with_name env.scopes n m))
  reaches_named n m meant fits =
      reaches_scopes (scopes.with_name env.scopes n m) (scopes_stay env.scopes.around)
      (each_inserted (IsMeant env.tables.structs) env.scopes.inner.names n m h.formed.inner meant)
      (each_inserted (IsFitting own env.tables.structs env.tables.objects)
      env.scopes.inner.names n m h.inner fits)

  -- the name of a function goes to the innermost block
  reaches_named_in_block : (n k : ℕ)
      → Reaches own env (in_scopes (scopes.with_block_name env.scopes n (means.function k)))
  reaches_named_in_block n k =
      let s : Scopes = scopes.with_block_name env.scopes n (means.function k) in
      let gain : ScopesGain (all_scopes env.scopes) (all_scopes s) =
      block_name_gained env.scopes n k in
      reaches_scopes s gain.1
      (names_gained (IsMeant env.tables.structs) (λ k. tt)
      env.scopes.inner.names s.inner.names gain.0 h.formed.inner)
      (names_gained (IsFitting own env.tables.structs env.tables.objects) (λ k. tt)
      env.scopes.inner.names s.inner.names gain.0 h.inner)

  -- the name goes to these scopes, or is there already
  leads_beside : (named : Scopes) (m : Meaning) (p : Place) (o : Option Meaning)
      → Reaches own env (in_scopes named) → Leads own env (declared_beside env named m p o)
  leads_beside named m p None g = leads g
  leads_beside named m p (Some old) g = by (is_same_entity old m)
    where
      by : (b : Bool) → Leads own env (if b then accepted env else refused RedeclaredName p)
      by true = leads (reaches_nowhere own env h)
      by false = leads_none

  pub leads_declared : (n : ℕ) (m : Meaning) (p : Place) → IsMeant env.tables.structs m
      → IsFitting own env.tables.structs env.tables.objects m → Leads own env (declared env n m p)
  leads_declared n m p meant fits =
      leads_beside (scopes.with_name env.scopes n m) m p (entry env.scopes.inner.names n)
      (reaches_named n m meant fits)

  pub leads_declared_in_block : (n k : ℕ) (p : Place)
      → Leads own env (declared_in_block env n (means.function k) p)
  leads_declared_in_block n k p =
      leads_beside (scopes.with_block_name env.scopes n (means.function k)) (means.function k) p
      (scopes.meaning_in_block env.scopes n) (reaches_named_in_block n k)

-- ---- more objects are seen

abbrev pub IsWider : (ℕ → Bool) → (ℕ → Bool) → Type 0
IsWider own wide = (k : ℕ) → own k ≡ true → wide k ≡ true

fitting_wider : (own wide : ℕ → Bool) (ss : List Struct) (os : List Object) (m : Meaning)
    → IsWider own wide
    → IsFitting own ss os m → IsFitting wide ss os m
fitting_wider own wide ss os (means.object k) w h =
    or_wider (own k) (wide k) (lasts (slice_get os k)) (w k) h
fitting_wider own wide ss os (means.function k) w h = h
fitting_wider own wide ss os (means.constant z) w h = h
fitting_wider own wide ss os (means.named t) w h = h

pub fit_wider : (own wide : ℕ → Bool) (env : Env) → IsWider own wide → IsFit own env
    → IsFit wide env
fit_wider own wide env w h = record {
  formed = h.formed;
  structs = h.structs;
  objects = h.objects;
  functions = h.functions;
  inner = λ k n at. fitting_wider own wide env.tables.structs env.tables.objects n.1 w
      (h.inner k n at);
  around = λ j s there k n at.
      fitting_wider own wide env.tables.structs env.tables.objects n.1 w
      (h.around j s there k n at);
}

-- what is seen besides lasts
fitting_narrower : (own wide : ℕ → Bool) (ss : List Struct) (os : List Object) (m : Meaning)
    → ((k : ℕ) → wide k ≡ true → lasts (slice_get os k) ≡ true) → IsFitting wide ss os m
    → IsFitting own ss os m
fitting_narrower own wide ss os (means.object k) w h = by (wide k) refl h
  where
    by : (b : Bool) → wide k ≡ b → (b || lasts (slice_get os k)) ≡ true
        → (own k || lasts (slice_get os k)) ≡ true
    by true is g = or_right (own k) (lasts (slice_get os k)) (w k is)
    by false is g = or_right (own k) (lasts (slice_get os k)) g
fitting_narrower own wide ss os (means.function k) w h = h
fitting_narrower own wide ss os (means.constant z) w h = h
fitting_narrower own wide ss os (means.named t) w h = h

pub fit_narrower : (own wide : ℕ → Bool) (env : Env)
    → ((k : ℕ) → wide k ≡ true → lasts (slice_get env.tables.objects k) ≡ true) → IsFit wide env
    → IsFit own env
fit_narrower own wide env w h = record {
  formed = h.formed;
  structs = h.structs;
  objects = h.objects;
  functions = h.functions;
  inner = λ k n at.
      fitting_narrower own wide env.tables.structs env.tables.objects n.1 w (h.inner k n at);
  around = λ j s there k n at.
      fitting_narrower own wide env.tables.structs env.tables.objects n.1 w
      (h.around j s there k n at);
}

-- ---- scopes that are entered and left

-- a block, or a list of parameters
abbrev in_scope : ScopeKind → Env → Env
in_scope kind env = record env { scopes = scopes.entered kind env.scopes }

pub fit_entered : {kind : ScopeKind} (own : ℕ → Bool) (env : Env) → IsFit own env
    → IsFit own (in_scope kind env)
fit_entered {kind = kind} own env h = record {
  formed = (goes_inside env h.formed kind).formed;
  structs = h.structs;
  objects = h.objects;
  functions = h.functions;
  inner = each_none (λ n. IsFitting own env.tables.structs env.tables.objects n.1);
  around = each_first
      (λ s. AreFitting own env.tables.structs env.tables.objects s.names) env.scopes.inner
      env.scopes.around h.inner h.around;
}

-- the scopes around the one that goes gained functions alone, whatever was seen in it
reaches_out : {kind : ScopeKind} (file : Scopes) (own wide : ℕ → Bool) (env later : Env)
    → IsFit own env → (SeesAll own → SeesAll wide) → Reaches wide (in_scope kind env) later
    → IsFormedEnv (record later { scopes = scopes.left_to file later.scopes.around })
    → Reaches own env (record later { scopes = scopes.left_to file later.scopes.around })
reaches_out file own wide env later h wider g formed =
    reaches_by own env h (record later { scopes = scopes.left_to file later.scopes.around })
    (record { formed = formed; keeps = g.moves.keeps })
    g.moves.objects g.moves.homes g.moves.functions g.moves.kept
    (by later.scopes.around g.moves.around) g.fit.structs g.fit.objects
    g.fit.functions (λ all. g.calm (wider all))
    (λ m waits w x. g.starts waits (λ file. absurd (true≢false (sym file))) x) g.moves.links
    g.moves.names
  where
    by : (around : List Scope) → ScopesGain (all_scopes env.scopes) around
        → ScopesGain (all_scopes env.scopes) (all_scopes (scopes.left_to file around))
    by [] gain = absurd gain
    by (s ∷ ss) gain = gain

pub reaches_left : {kind : ScopeKind} (own wide : ℕ → Bool) (env later : Env) → IsFit own env
    → (SeesAll own → SeesAll wide)
    → Reaches wide (in_scope kind env) later → Reaches own env (left later)
reaches_left own wide env later h wider g =
    reaches_out later.scopes own wide env later h wider g (goes_left later g.fit.formed).formed

pub reaches_set_aside : {kind : ScopeKind} (own wide : ℕ → Bool) (env later : Env) → IsFit own env
    → (SeesAll own → SeesAll wide)
    → Reaches wide (in_scope kind env) later → Reaches own env (set_aside later)
reaches_set_aside own wide env later h wider g =
    reaches_out file_scope own wide env later h wider g
    (goes_set_aside later g.fit.formed).formed

-- one that was set aside is inside the others again
pub reaches_resumed : (own : ℕ → Bool) (env : Env) (s : Scope) → IsFit own env
    → AreMeant env.tables.structs s.names
    → AreFitting own env.tables.structs env.tables.objects s.names
    → Reaches own (list_entered env) (resumed s env)
reaches_resumed own env s h meant fits =
    reaches_scopes own (list_entered env) (fit_entered own env h) (scopes.resumed s env.scopes)
    (scopes_stay (all_scopes env.scopes)) meant fits

-- ---- the list of parameters of a declarator

-- besides, the objects from a number on
abbrev pub more_seen : (ℕ → Bool) → ℕ → ℕ → Bool
more_seen own from k = own k || nat_le from k

pub more_wider : (own : ℕ → Bool) (from : ℕ) → IsWider own (more_seen own from)
more_wider own from k h = or_left (own k) (nat_le from k) h

pub more_from : (own : ℕ → Bool) (from k : ℕ) → from ≤ k → more_seen own from k ≡ true
more_from own from k l = or_right (own k) (nat_le from k) (le-leb from k l)
