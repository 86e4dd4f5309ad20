-- Declarations of objects leave the environment sound, and the entry of each is declared
-- (C90 6.1.2.2, 6.1.2.6, 6.7.2).
use Rattle.std.proofs.Common.{◌≡◌, ◌⊎◌, inl, inr, ℕ, ◌≤◌, ◌<◌, Bool, true, false, ◌&&◌, ◌||◌, not, if◌then◌else◌, length, List, [], ◌∷◌, ◌++◌, Option, Some, None, refl, ap, sym, subst, ◌∙◌, true≢false, arith}
use Rattle.std.proofs.lemmas.Bool.{not-true}
use Rattle.std.specs.Prelude.{is_some, slice_get, slice_set, ⊤}
use Rattle.sp_tree.specs.declared.fault.Place.{Place}
use Rattle.sp_tree.specs.declared.fault.FaultKind.{FaultKind}
use Rattle.sp_tree.specs.declared.fault.FaultKind.TheVariants.{RedeclaredName}
use Rattle.sp_tree.specs.declared.token.Keyword.{Keyword}
use Rattle.sp_tree.specs.declared.token.Keyword.TheVariants as words
use Rattle.sp_types.specs.Types.{CType, void}
use Rattle.sp_types.specs.Typed.{Typed}
use Rattle.sp_types.specs.Structs.{IsFormed}
use Rattle.sp_types.specs.Compatible.{compatible}
use Rattle.sp_types.specs.Programs.{Object}
use Rattle.sp_types.specs.declared.program.Linkage.{Linkage}
use Rattle.sp_types.specs.declared.program.Linkage.TheVariants.{External, Internal, Inner}
use Rattle.sp_types.specs.declared.program.Storage.{Storage}
use Rattle.sp_types.specs.declared.program.Storage.TheVariants.{Outside, Static, Text, Auto, Formal}
use Rattle.sp_base_checked.specs.Answers.{Checked, accepted, refused, and_then, where_met, where_given}
use Rattle.sp_check_scopes.specs.Meanings.{Meaning}
use Rattle.sp_check_scopes.specs.Meanings as means
use Rattle.sp_check_scopes.specs.Scopes.{Scopes, entry, is_file_scope, with_name}
use Rattle.sp_check_env.specs.declared.env.Entity.{Entity}
use Rattle.sp_check_env.specs.declared.env.Entity.TheVariants as entities
use Rattle.sp_check_env.specs.Env.{Env, is_same_entity, declared_beside, declared, with_typing, linked, with_link, set_object, object_type}
use Rattle.sp_check_primaries.specs.Composite.{composite}
use Rattle.sp_check_primaries.specs.Functions.{is_same_linkage, is_retyped, retyped}
use Rattle.sp_check_objects.specs.Objects.{storage_for, is_outside, new_object, object_reserved, reserved_number, object_added, is_valued, is_more_defined, joined_object, may_join, joined_at, object_joined, object_declared, has_linkage}
use Rattle.sp_check_typing.specs.Refines.{Tells}
use Rattle.sp_check_typing.specs.Trees.{Scene}
use Rattle.sp_check_typing.specs.Statements.{IsEntered, is_lasting}
use Rattle.sp_check_formed_laws.proofs.Lists.{some_is, get_below, set_there, set_other}
use Rattle.sp_check_formed_laws.proofs.After.{refused_not, accepted_is, Gives, gives, gives_none, gives_met, gives_given}
use Rattle.sp_check_formed_laws.proofs.Composites.{composite_formed, composite_function}
use Rattle.sp_check_typing.specs.Programs.{lasts}
use Rattle.sp_check_expr_laws.specs.Sound.{KnowsElements, is_seen, lasting_alone, scene_of}
use Rattle.sp_check_expr_laws.proofs.Types.{and_true, or_left, or_right, IsSoundTable}
use Rattle.sp_check_expr_laws.proofs.Composites.{composite_sound}
use Rattle.sp_check_expr_laws.proofs.Named.{inserted_there}
use Rattle.sp_check_expr_laws.proofs.Envs.{IsHomeStorage, home_lasting, IsHome, IsFit, IsKeptObject, fit_table, Moves, SeesAll, KeepsStarts, Reaches, reaches_nowhere, reaches_on, grows_of, scene_grows, seen_on, lasts_on, around_alike}
use Rattle.sp_check_expr_laws.proofs.Grows.{IsStill, Grows}
use Rattle.sp_check_expr_laws.proofs.Starts.{HasStart, IsAside, aside_start, IsCalm, start_stays, pushed_split}
use Rattle.sp_check_expr_laws.proofs.After.{After, Leads, leads_none}
use Rattle.sp_check_expr_laws.proofs.Updates.{reaches_linked, reaches_typing, reaches_object, leads_declared}
use Rattle.sp_check_expr_laws.proofs.Functions.{reaches_retyped}
use Rattle.sp_check_expr_laws.proofs.Objects.{same_or_apart, seen_set, set_split, set_starts, composite_tells, reaches_set, reaches_replaced}
use Rattle.sp_check_unit_laws.proofs.Held.{IsHeld, held_on}
use Rattle.sp_check_unit_laws.proofs.Going.{begun_stays, IsBegun}
use Rattle.sp_check_initialiser_laws.proofs.Initialisers.{IsObjectType, Completes}
use Rattle.sp_check_unit_laws.proofs.Begun.{IsTested, is_declared, holds_values, begun_start, none_elements, composed_start, holds_inside}
use Rattle.sp_check_unit_laws.proofs.Composed.{elements_composed}

pub leads_given : {own : ℕ → Bool} {env : Env} {B : Type 0} {o : Option B} {f : B → Checked Env}
    (k : FaultKind) (p : Place) → ((x : B) → o ≡ Some x → Leads own env (f x))
    → Leads own env (where_given o k p f)
leads_given {o = Some x} k p h = h x refl
leads_given {o = None} k p h = leads_none

-- ---- answers that are environments, of which more is known

pub record Ends (own : ℕ → Bool) (env : Env) (P : Env → Type 0) (c : Checked Env) : Type 0 where
  pub at : (later : Env) → c ≡ accepted later → Reaches own env later × P later

module _ {own : ℕ → Bool} {env : Env} {P : Env → Type 0} where
  pub ends : {later : Env} → Reaches own env later → P later → Ends own env P (accepted later)
  ends {later = later} g h = record
      { at = λ y e. subst (λ y. Reaches own env y × P y) (accepted_is later y e) (g, h) }

  pub ends_none : {k : FaultKind} {p : Place} → Ends own env P (refused k p)
  ends_none {k = k} {p = p} = record { at = λ x e. absurd (refused_not k p x e) }

  pub ends_given : {B : Type 0} {o : Option B} {f : B → Checked Env} (k : FaultKind) (p : Place)
      → ((x : B) → o ≡ Some x → Ends own env P (f x)) → Ends own env P (where_given o k p f)
  ends_given {o = Some x} k p h = h x refl
  ends_given {o = None} k p h = ends_none

  pub ends_met : {b : Bool} {c : Checked Env} (k : FaultKind) (p : Place)
      → (b ≡ true → Ends own env P c) → Ends own env P (where_met b k p c)
  ends_met {b = true} k p h = h refl
  ends_met {b = false} k p h = ends_none

  -- behind a part that starts from an environment of its own
  pub ends_behind : {B : Type 0} {from : Env} {Q : B → Env → Type 0} {c : Checked (B × Env)}
      {f : B × Env → Checked Env} → After own from Q c
      → ((x : B × Env) → Reaches own from x.1 → Q x.0 x.1 → Ends own env P (f x))
      → Ends own env P (and_then c f)
  ends_behind {c = accepted x} h g = g x (h.at x refl).0 (h.at x refl).1
  ends_behind {c = refused k p} h g = ends_none

-- ---- what stands behind the declaration of an object

-- the object of the number has no linkage
abbrev pub IsPrivate : ℕ → Env → Type 0
IsPrivate k env =
    (o : Object) → slice_get env.tables.objects k ≡ Some o → has_linkage o.linkage ≡ false

-- it is seen, it is a new one or lasts, and without linkage it is declared and stays without
pub record IsEntry (own : ℕ → Bool) (first : ℕ) (l : Linkage) (k : ℕ) (env : Env) : Type 0 where
  pub seen : is_seen own env.tables.objects k ≡ true
  pub where_from : (first ≤ k) ⊎ (lasts (slice_get env.tables.objects k) ≡ true)
  pub declared : has_linkage l ≡ false → IsBegun (scene_of own env) k
  pub private : has_linkage l ≡ false → IsPrivate k env

pub entry_on : (own : ℕ → Bool) (first : ℕ) (l : Linkage) (k : ℕ) (env later : Env) → IsFit own env
    → Reaches own env later → IsEntry own first l k env → IsEntry own first l k later
entry_on own first l k env later h g x = record {
  seen = seen_on own env later g.moves k x.seen;
  where_from = by x.where_from;
  declared = λ e. begun_stays (scene_of own env) (scene_of own later) h.formed.table
      (grows_of own env later h g) g.moves.objects k (x.declared e);
  private = λ e o at.
      let b : IsBegun (scene_of own env) k = x.declared e in
      let y : IsKeptObject later.tables.objects k b.object =
      g.moves.objects k b.object b.there in
      subst (λ z. has_linkage z.linkage ≡ false) (some_is y.object o (sym y.there ∙ at))
      (ap has_linkage y.linkage ∙ x.private e b.object b.there);
}
  where
    by : (first ≤ k) ⊎ (lasts (slice_get env.tables.objects k) ≡ true)
        → (first ≤ k) ⊎ (lasts (slice_get later.tables.objects k) ≡ true)
    by (inl y) = inl y
    by (inr y) = inr (lasts_on env later k g.moves y)

-- ---- tables

-- a name that is declared leaves the tables and links as they are
pub beside_tables : (env : Env) (named : Scopes) (m : Meaning) (p : Place) (o : Option Meaning)
    → Gives (λ e. (e.tables ≡ env.tables) × (e.links ≡ env.links)) (declared_beside env named m p o)
beside_tables env named m p None = gives (refl, refl)
beside_tables env named m p (Some old) = by (is_same_entity old m)
  where
    by : (b : Bool)
        → Gives (λ e. (e.tables ≡ env.tables) × (e.links ≡ env.links))
        (if b then accepted env else refused RedeclaredName p)
    by true = gives (refl, refl)
    by false = gives_none

pub declared_tables : (env : Env) (n : ℕ) (m : Meaning) (p : Place)
    → Gives (λ e. (e.tables ≡ env.tables) × (e.links ≡ env.links)) (declared env n m p)
declared_tables env n m p =
    beside_tables env (with_name env.scopes n m) m p (entry env.scopes.inner.names n)

-- ---- an object takes another start, or tells more

module _ (own : ℕ → Bool) (env : Env) (k : ℕ) (o : Object)
    (seen : (own k || is_lasting o.storage) ≡ true) (was : Object)
    (there : slice_get env.tables.objects k ≡ Some was) (same : Completes was.of o.of) where
  told_still : (n : ℕ) (x : Object) → slice_get env.tables.objects n ≡ Some x
      → is_seen own env.tables.objects n ≡ true → IsStill (scene_of own (set_object env k o)) n x
  told_still n x at s = by (same_or_apart k n)
    where
      by : (k ≡ n) ⊎ (k ≡ n → ⊥) → IsStill (scene_of own (set_object env k o)) n x
      by (inl is) =
          let old : was ≡ x =
          some_is was x (sym there ∙ ap (slice_get env.tables.objects) is ∙ at) in
          record {
            object = o;
            there = subst (λ i. slice_get (slice_set env.tables.objects k o) i ≡ Some o) is
                (set_there env.tables.objects k o (get_below env.tables.objects k was there));
            visible = seen_set own env.tables.objects k o seen n s;
            same = subst (λ y. Completes y.of o.of) old same;
          }
      by (inr other) = record {
        object = x;
        there = set_other env.tables.objects k o n x other at;
        visible = seen_set own env.tables.objects k o seen n s;
        same = λ t h. h;
      }

  pub told_grows : Grows (scene_of own env) (scene_of own (set_object env k o))
  told_grows = record {
    stays = record { longer = omega arith; complete = λ j s e at h. at };
    functions = omega arith;
    names = told_still;
  }

-- ---- a new entry

pub reaches_place : (own : ℕ → Bool) (env : Env) (n : ℕ) (p : Place)
    (o : Option Entity) → (SeesAll own → ⊥) → IsFit own env
    → Reaches own env (object_reserved env n p o)
reaches_place own env n p None partly h =
    reaches_object own env h (new_object n void Outside Inner p) refl (tt, refl) tt
    (λ all. absurd (partly all)) (λ waits. (refl, tt))
reaches_place own env n p (Some (entities.Object k)) partly h = reaches_nowhere own env h
reaches_place own env n p (Some (entities.Function k)) partly h =
    reaches_object own env h (new_object n void Outside Inner p) refl (tt, refl) tt
    (λ all. absurd (partly all)) (λ waits. (refl, tt))

-- besides the entry of the number the objects are those before, and such as start by themselves
abbrev pub IsQuiet : Env → Env → ℕ → Type 0
IsQuiet env later k = (j : ℕ) (y : Object) → slice_get later.tables.objects j ≡ Some y
    → (k ≡ j → ⊥) → (slice_get env.tables.objects j ≡ Some y) ⊎ IsAside y

pub quiet_reserved : (env : Env) (n : ℕ) (p : Place) (o : Option Entity)
    (later : Env) → IsCalm (object_reserved env n p o) later
    → IsQuiet env later (reserved_number env o)
quiet_reserved env n p (Some (entities.Object k)) later calm j y at apart = by (calm j y at)
  where
    by : (slice_get env.tables.objects j ≡ Some y)
        ⊎ ((length env.tables.objects ≤ j) × IsAside y)
        → (slice_get env.tables.objects j ≡ Some y) ⊎ IsAside y
    by (inl h) = inl h
    by (inr h) = inr h.1
quiet_reserved env n p o later calm j y at apart = by (calm j y at)
  where
    new : Object
    new = new_object n void Outside Inner p

    pushed : (slice_get env.tables.objects j ≡ Some y)
        ⊎ ((j ≡ length env.tables.objects) × (new ≡ y))
        → (slice_get env.tables.objects j ≡ Some y) ⊎ IsAside y
    pushed (inl h) = inl h
    pushed (inr h) = absurd (apart (sym h.0))

    by : (slice_get (env.tables.objects ++ new ∷ []) j ≡ Some y)
        ⊎ ((length (env.tables.objects ++ new ∷ []) ≤ j) × IsAside y)
        → (slice_get env.tables.objects j ≡ Some y) ⊎ IsAside y
    by (inl h) = pushed (pushed_split env.tables.objects new y j h)
    by (inr h) = inr h.1

pub storage_home : (l : Linkage) (class : Option Keyword) (valued : Bool) → has_linkage l ≡ true
    → IsHomeStorage (storage_for l class valued)
storage_home Inner class valued h = absurd (true≢false (sym h))
storage_home External (Some words.Extern) true h = inl refl
storage_home External (Some words.Extern) false h = inr refl
storage_home Internal (Some words.Extern) true h = inl refl
storage_home Internal (Some words.Extern) false h = inr refl
storage_home External class valued h = inl refl
storage_home Internal class valued h = inl refl

pub storage_inside : (l : Linkage) (class : Option Keyword) (valued : Bool) → has_linkage l ≡ false
    → is_outside (storage_for l class valued) ≡ false
storage_inside External class valued h = absurd (true≢false h)
storage_inside Internal class valued h = absurd (true≢false h)
storage_inside Inner (Some words.Static) valued h = refl
storage_inside Inner class valued h = refl

-- no value is entered
empty_entered : (r : Scene) (s : Storage) (t : CType) → IsEntered r s t []
empty_entered r Auto t = tt
empty_entered r Static t = tt
empty_entered r Outside t = tt
empty_entered r Text t = tt
empty_entered r Formal t = tt

mine_seen : (l : Linkage) (own-k last : Bool) → (has_linkage l ≡ true → last ≡ true)
    → (has_linkage l ≡ false → own-k ≡ true) → (own-k || last) ≡ true
mine_seen External own-k last h g = or_right own-k last (h refl)
mine_seen Internal own-k last h g = or_right own-k last (h refl)
mine_seen Inner own-k last h g = or_left own-k last (g refl)

-- where it was declared before this
abbrev pub IsKeptEntry : Bool → ℕ → Env → Type 0
IsKeptEntry valued k env = valued ≡ true → (o : Object) → slice_get env.tables.objects k ≡ Some o
    → holds_values o.storage ≡ true

-- its type was tested, where the declaration may define it
abbrev pub IsReady : Linkage → Storage → Bool → ℕ → Env → Type 0
IsReady l s valued k env = is_outside s ≡ false → (o : Object)
    → slice_get env.tables.objects k ≡ Some o
    → IsTested env.tables.structs l valued o.of

abbrev pub Readies : Linkage → Storage → Bool → ℕ → Checked Env → Type 0
Readies l s valued k c = (e : Env) → c ≡ accepted e → IsReady l s valued k e

-- only in the scope of the file an external object is defined
abbrev pub IsOuter : Env → Linkage → Storage → Type 0
IsOuter env l s = l ≡ External → is_outside s ≡ false → is_file_scope env.scopes ≡ true

-- its name is linked to it, and it lasts
abbrev pub IsLinkedAs : ℕ → Linkage → ℕ → Env → Type 0
IsLinkedAs n l k env = has_linkage l ≡ true → (linked env n ≡ Some (entities.Object k))
    × (lasts (slice_get env.tables.objects k) ≡ true)

-- where it has no initialiser, it may be left open (6.7.2)
abbrev pub IsOpening : (ℕ → Bool) → ℕ → Linkage → Storage → Bool → Type 0
IsOpening own k l s valued =
    l ≡ External → is_outside s ≡ false → valued ≡ false → own k ≡ true

abbrev pub IsDeclaredAs : (ℕ → Bool) → ℕ → ℕ → Linkage → ℕ → Bool → Env → Type 0
IsDeclaredAs own first n l k valued env =
    IsEntry own first l k env × IsKeptEntry valued k env × IsLinkedAs n l k env

module _ (own : ℕ → Bool) (env later : Env) (g : Reaches own env later) (k n : ℕ) (t : CType)
    (l : Linkage) (p : Place) (mine : has_linkage l ≡ false → own k ≡ true)
    (f : IsObjectType t later) (partly : SeesAll own → ⊥) (held : IsHeld own env)
    (quiet : IsQuiet env later k) (knows : KnowsElements later.tables.structs t) (s : Storage)
    (declares : is_declared s ≡ true)
    (outer : IsOuter env l s) (valued : Bool) (holds : valued ≡ true → holds_values s ≡ true)
    (opens : IsOpening own k l s valued) where
  abbrev o : Object
  o = new_object n t s l p

  added_starts : length env.tables.objects ≤ k
      → (is_outside s ≡ false → IsTested later.tables.structs l valued t)
      → Moves env (set_object later k o) → KeepsStarts own env (set_object later k o)
  added_starts new tested m waits w h j y at = by (set_split later.tables.objects k o j y at)
    where
      a : Env
      a = set_object later k o

      kept : (slice_get env.tables.objects j ≡ Some y) ⊎ IsAside y
          → HasStart waits a j y y.storage
      kept (inl there) =
          start_stays waits env a held.fit.formed.table
          (scene_grows lasting_alone env a m held.fit.formed) j y y.storage (h j y there)
      kept (inr aside) = aside_start waits a j y aside

      by : ((k ≡ j) × (o ≡ y)) ⊎ ((k ≡ j → ⊥) × (slice_get later.tables.objects j ≡ Some y))
          → HasStart waits a j y y.storage
      by (inl x) =
          subst (λ z. HasStart waits a j z z.storage) x.1
          (subst (λ i. HasStart waits a i o s) x.0
          (begun_start waits a
          (fit_table own later g.fit) k l valued o refl f.0.0 f.1 f.0.1 knows s declares
          (λ e i v. w (outer e i) k (opens e i v)) tested))
      by (inr x) = kept (quiet j y x.1 x.0)

  abbrev a : Env
  a = set_object later k o

  abbrev c : Env
  c = with_typing a l n t p

  added_ends : (has_linkage l ≡ true → linked later n ≡ Some (entities.Object k))
      → (has_linkage l ≡ true → IsHomeStorage s)
      → length env.tables.objects ≤ k → k < length later.tables.objects
      → Readies l s valued k (declared c n (means.object k) p)
      → Ends own env (IsDeclaredAs own (length env.tables.objects) n l k valued)
      (declared c n (means.object k) p)
  added_ends link home new low ready = record { at = λ e eq. (ended e eq).at e eq }
    where
      ended : (e : Env) → declared c n (means.object k) p ≡ accepted e
          → Ends own env (IsDeclaredAs own (length env.tables.objects) n l k valued)
          (declared c n (means.object k) p)
      ended e eq =
          let there : slice_get a.tables.objects k ≡ Some o =
          set_there later.tables.objects k o low in
          let tables : (x : Env) → declared c n (means.object k) p ≡ accepted x
          → x.tables ≡ c.tables =
          λ x is. ((declared_tables c n (means.object k) p).at x is).0 in
          let objects : (x : Env) → declared c n (means.object k) p ≡ accepted x
          → slice_get x.tables.objects k ≡ Some o =
          (λ x is. ap (λ z. slice_get z.objects k) (tables x is) ∙ there) in
          let tested : is_outside s ≡ false → IsTested later.tables.structs l valued t =
          (λ inside. subst (λ ss. IsTested ss l valued t) (ap (λ z. z.structs) (tables e eq))
          (ready e eq inside o (objects e eq))) in
          let lasting : has_linkage l ≡ true → is_lasting s ≡ true =
          λ h. home_lasting s (home h) in
          let shown : (own k || is_lasting s) ≡ true =
          mine_seen l (own k) (is_lasting s) lasting mine in
          let to-a : Reaches own env a =
          reaches_set own env later k o g home (λ h. link) new shown f.0.0 f.1 f.0.1
          (λ all. absurd (partly all)) (added_starts new tested) in
          let to-c : Reaches own env c =
          reaches_on own env a c to-a (reaches_typing own a to-a.fit l n t p f.0.0) in
          let at-c : IsEntry own (length env.tables.objects) l k c =
          record {
            seen = subst (λ x. (own k || lasts x) ≡ true) (sym there) shown;
            where_from = inl new;
            declared = λ e. record {
              object = o;
              there = there;
              visible = subst (λ x. (own k || lasts x) ≡ true) (sym there) shown;
              entered = empty_entered (scene_of own c) s t;
            };
            private = λ e x at.
                subst (λ z. has_linkage z.linkage ≡ false) (some_is o x (sym there ∙ at)) e;
          } in
          record {
            at = λ x is.
                let i : Reaches own c x =
                (leads_declared own c to-c.fit n (means.object k) p tt at-c.seen).at x is in
                let links : x.links ≡ c.links =
                ((declared_tables c n (means.object k) p).at x is).1 in (
                  reaches_on own env c x to-c i,
                  (
                    entry_on own (length env.tables.objects) l k c x to-c.fit i at-c,
                    λ v y there-y.
                        subst (λ z. holds_values z.storage ≡ true)
                        (some_is o y (sym (objects x is) ∙ there-y)) (holds v),
                    λ h. (
                      ap (λ ls. entry ls n) links ∙ link h,
                      ap lasts (objects x is) ∙ lasting h,
                    ),
                  ),
                );
          }

none_of : {A : Type 0} (o : Option A) → not (is_some o) ≡ true → o ≡ None
none_of None h = refl
none_of (Some x) h = absurd (true≢false (sym h))

met_so : {A : Type 0} {b : Bool} {d : Checked A} {x : A} (k : FaultKind) (p : Place) → b ≡ true
    → d ≡ accepted x → where_met b k p d ≡ accepted x
met_so {d = d} k p h e = ap (λ b. where_met b k p d) h ∙ e

-- a name with linkage has no entry before, and is linked to the new one
first_ends : (own : ℕ → Bool) (env later : Env) → Reaches own env later → (k n : ℕ) (t : CType)
    (l : Linkage) (p : Place) → (has_linkage l ≡ false → own k ≡ true) → IsObjectType t later
    → (SeesAll own → ⊥) → IsHeld own env → IsQuiet env later k
    → KnowsElements later.tables.structs t → (s : Storage) → is_declared s ≡ true
    → IsOuter env l s → (valued : Bool) → (valued ≡ true → holds_values s ≡ true)
    → IsOpening own k l s valued → (has_linkage l ≡ true → IsHomeStorage s)
    → length env.tables.objects ≤ k → k < length later.tables.objects
    → Readies l s valued k (object_added later k n t s l p)
    → Ends own env (IsDeclaredAs own (length env.tables.objects) n l k valued)
    (object_added later k n t s l p)
first_ends own env later g k n t External p mine f partly held quiet knows s declares outer valued
    holds opens home new low ready =
    ends_met {b = not (is_some (linked later n))} _ _ (λ first.
    added_ends own env (with_link later n (entities.Object k))
    (reaches_on own env later (with_link later n (entities.Object k)) g
    (reaches_linked own later g.fit n (entities.Object k) (none_of (linked later n) first)))
    k n t External p mine f partly held quiet knows s declares outer valued holds opens
    (λ e. inserted_there later.links n (entities.Object k)) home new low
    (λ e eq. ready e (met_so RedeclaredName p first eq)))
first_ends own env later g k n t Internal p mine f partly held quiet knows s declares outer valued
    holds opens home new low ready =
    ends_met {b = not (is_some (linked later n))} _ _ (λ first.
    added_ends own env (with_link later n (entities.Object k))
    (reaches_on own env later (with_link later n (entities.Object k)) g
    (reaches_linked own later g.fit n (entities.Object k) (none_of (linked later n) first)))
    k n t Internal p mine f partly held quiet knows s declares outer valued holds opens
    (λ e. inserted_there later.links n (entities.Object k)) home new low
    (λ e eq. ready e (met_so RedeclaredName p first eq)))
first_ends own env later g k n t Inner p mine f partly held quiet knows s declares outer valued
    holds opens home new low ready =
    added_ends own env later g k n t Inner p mine f partly held quiet knows s declares outer valued
    holds opens (λ e. absurd (true≢false (sym e))) home new low ready

-- ---- a further declaration

linked_same : (a l : Linkage) → is_same_linkage a l ≡ true → has_linkage l ≡ true
    → has_linkage a ≡ true
linked_same External External h g = refl
linked_same Internal Internal h g = refl
linked_same Inner Inner h g = g
linked_same a l h g = absurd (true≢false (sym h))

module _ (l : Linkage) (s : Storage) (valued : Bool) (k : ℕ) (t : CType) where
  -- where it is in the end, and is tested, it starts as it should
  abbrev Begins : Env → Object → Object → Type 0
  Begins env was o = (waits : ℕ → Bool) →
      (l ≡ External → is_outside s ≡ false → valued ≡ false → waits k ≡ true)
      → (is_outside s ≡ false → IsTested env.tables.structs l valued o.of)
      → HasStart waits env k was was.storage → HasStart waits env k o o.storage

  -- what is joined to the entry that was there
  record IsJoined (env : Env) (o : Object) : Type 0 where
    was : Object
    there : slice_get env.tables.objects k ≡ Some was
    same : (u : CType) → Tells was.of u → Tells o.of u
    lasted : is_lasting was.storage ≡ true
    lasting : is_lasting o.storage ≡ true
    home : IsHome o
    name : o.name ≡ was.name
    linkage : o.linkage ≡ was.linkage
    good : IsObjectType o.of env
    begins : (c : Env) → IsSoundTable c.tables.structs → IsFormed c.tables.structs o.of
        → KnowsElements c.tables.structs t → Begins c was o
    holds : valued ≡ true → holds_values o.storage ≡ true

  -- what has no value by now
  unvalued : (start : List (ℕ × Typed)) → not (is_valued start) ≡ true → start ≡ []
  unvalued [] h = refl
  unvalued (v ∷ vs) h = absurd (true≢false (sym h))

  outside_none : (waits : ℕ → Bool) (env : Env) (o : Object) (st : Storage)
      → is_outside st ≡ true → HasStart waits env k o st → o.start ≡ []
  outside_none waits env o Outside h start = start.0
  outside_none waits env o Static h start = absurd (true≢false (sym h))
  outside_none waits env o Text h start = absurd (true≢false (sym h))
  outside_none waits env o Auto h start = absurd (true≢false (sym h))
  outside_none waits env o Formal h start = absurd (true≢false (sym h))

  none_before : (waits : ℕ → Bool) (env : Env) (was : Object) (v : Bool)
      → is_more_defined was.storage s v ≡ true → not (v && is_valued was.start) ≡ true
      → HasStart waits env k was was.storage → was.start ≡ []
  none_before waits env was true more may start = unvalued was.start may
  none_before waits env was false more may start =
      outside_none waits env was was.storage
      (and_true (is_outside was.storage) (not (is_outside s)) more).0 start

  more_inside : (st : Storage) (v : Bool) → (v ≡ true → is_outside s ≡ false)
      → is_more_defined st s v ≡ true → is_outside s ≡ false
  more_inside st true inside more = inside refl
  more_inside st false inside more =
      not-true (is_outside s) (and_true (is_outside st) (not (is_outside s)) more).1

  module _ (own : ℕ → Bool) (env : Env) (was : Object) (p : Place) (h : IsHeld own env)
      (fits : compatible was.of t ≡ true) (at : slice_get env.tables.objects k ≡ Some was)
      (lasted : is_lasting was.storage ≡ true) (f : IsObjectType t env)
      (may : not (valued && is_valued was.start) ≡ true)
      (inside : valued ≡ true → is_outside s ≡ false) where
    composed : IsObjectType (composite was.of t) env
    composed = (
      (
        composite_formed env.tables.structs was.of t (h.fit.formed.objects k was at).0 f.0.0,
        composite_sound was.of t (h.fit.objects k was at) f.0.1,
      ),
      composite_function was.of t ∙ (h.fit.formed.objects k was at).1,
    )

    abbrev defined_object : Object
    defined_object = record was { of = composite was.of t; storage = Static; place = p }

    defined_begins : is_more_defined was.storage s valued ≡ true → (c : Env)
        → IsSoundTable c.tables.structs → IsFormed c.tables.structs (composite was.of t)
        → KnowsElements c.tables.structs t → Begins c was defined_object
    defined_begins more c table formed knows waits w tested start =
        let none : was.start ≡ [] = none_before waits c was valued more may start in
        let before : KnowsElements c.tables.structs was.of =
        none_elements waits c table k l valued was was.storage lasted none start in
        let here : is_outside s ≡ false = more_inside was.storage valued inside more in
        begun_start waits c table k l valued defined_object none formed composed.1 composed.0.1
        (elements_composed c.tables.structs was.of t fits before knows) Static refl
        (λ e i v. w e here v) (λ i. tested here)

    by_more : (b : Bool) → is_more_defined was.storage s valued ≡ b
        → IsJoined env
        (if b then record was { of = composite was.of t; storage = Static; place = p }
        else record was { of = composite was.of t })
    by_more true more = record {
      was = was;
      there = at;
      same = composite_tells was.of t;
      lasted = lasted;
      lasting = refl;
      home = λ e. inl refl;
      name = refl;
      linkage = refl;
      good = composed;
      begins = defined_begins more;
      holds = λ v. refl;
    }
    by_more false more = record {
      was = was;
      there = at;
      same = composite_tells was.of t;
      lasted = lasted;
      lasting = lasted;
      home = h.homes k was at;
      name = refl;
      linkage = refl;
      good = composed;
      begins = λ c table formed knows waits w tested start.
          composed_start waits c table k l valued was t formed composed.1 composed.0.1 fits knows
          was.storage start;
      holds = λ v. absurd (true≢false (sym (or_left valued _ v) ∙ more));
    }

    joined_good : IsJoined env (joined_object was t s valued p)
    joined_good = by_more (is_more_defined was.storage s valued) refl

  joins : (own : ℕ → Bool) (env : Env) (p : Place) → IsHeld own env
      → has_linkage l ≡ true → IsObjectType t env → (valued ≡ true → is_outside s ≡ false)
      → Gives (IsJoined env) (joined_at env.tables.objects t s l valued p k)
  joins own env p h linked f inside =
      gives_given {o = slice_get env.tables.objects k} _ _ (λ o e.
      gives_met {b = may_join o t l valued} _ _ (λ may.
      let both : ((is_same_linkage o.linkage l && compatible o.of t) ≡ true)
      × (not (valued && is_valued o.start) ≡ true) =
      and_true (is_same_linkage o.linkage l && compatible o.of t)
      (not (valued && is_valued o.start)) may in
      let same : (is_same_linkage o.linkage l ≡ true) × (compatible o.of t ≡ true) =
      and_true (is_same_linkage o.linkage l) (compatible o.of t) both.0 in
      gives (joined_good own env o p h same.1 e
      (home_lasting o.storage (h.homes k o e (linked_same o.linkage l same.0 linked))) f both.1
      inside)))

-- the answer of a part, where the whole is known
ends_known : {own : ℕ → Bool} {env : Env} {P : Env → Type 0} {B : Type 0} {Q : B → Type 0}
    {c : Checked B} {f : B → Checked Env} → Gives Q c
    → ((x : B) → Q x → ((e : Env) → f x ≡ accepted e → and_then c f ≡ accepted e)
    → Ends own env P (f x)) → Ends own env P (and_then c f)
ends_known {c = accepted x} h g = g x (h.at x refl) (λ e i. i)
ends_known {c = refused k p} h g = ends_none

joined_ends : (own : ℕ → Bool) (env : Env) (n : ℕ) (t : CType) (s : Storage) (l : Linkage)
    (valued : Bool) (p : Place) (first k : ℕ) → IsHeld own env → has_linkage l ≡ true
    → IsObjectType t env → KnowsElements env.tables.structs t → (SeesAll own → ⊥)
    → (valued ≡ true → is_outside s ≡ false) → IsOuter env l s → IsOpening own k l s valued
    → linked env n ≡ Some (entities.Object k)
    → Readies l s valued k (object_joined env n t s l valued p k)
    → Ends own env (IsDeclaredAs own first n l k valued) (object_joined env n t s l valued p k)
joined_ends own env n t s l valued p first k h mine f knows partly inside outer opens link
    ready =
    ends_known (joins l s valued k t own env p h mine f inside) (λ o j whole.
    by o j (is_retyped (object_type (slice_get env.tables.objects k)) o.of)
    (λ e i. ready e (whole e i)))
  where
    by : (o : Object) → IsJoined l s valued k t env o → (b : Bool)
        → Readies l s valued k
        (declared (set_object (retyped env b l n o.of p) k o) n (means.object k) p)
        → Ends own env (IsDeclaredAs own first n l k valued)
        (declared (set_object (retyped env b l n o.of p) k o) n (means.object k) p)
    by o j b told = record { at = λ e eq. (ended e eq).at e eq }
      where
        a : Env
        a = retyped env b l n o.of p

        c : Env
        c = set_object a k o

        there : slice_get c.tables.objects k ≡ Some o
        there = set_there env.tables.objects k o (get_below env.tables.objects k j.was j.there)

        tables : (e : Env) → declared c n (means.object k) p ≡ accepted e → e.tables ≡ c.tables
        tables e eq = ((declared_tables c n (means.object k) p).at e eq).0

        objects : (e : Env) → declared c n (means.object k) p ≡ accepted e
            → slice_get e.tables.objects k ≡ Some o
        objects e eq = ap (λ z. slice_get z.objects k) (tables e eq) ∙ there

        to-a : Reaches own env a
        to-a = reaches_retyped own env h.fit b l n o.of p j.good.0.0

        joined_starts : (is_outside s ≡ false → IsTested c.tables.structs l valued o.of)
            → Moves env c → KeepsStarts own env c
        joined_starts tested m waits w x =
            set_starts a k o waits to-a.fit.formed.table
            (told_grows lasting_alone a k o j.lasting j.was j.there j.same)
            (to-a.starts waits w x)
            (j.begins c (fit_table own a to-a.fit) j.good.0.0 knows waits
            (λ e i v. w (outer e i) k (opens e i v)) tested
            (start_stays waits env c h.fit.formed.table
            (scene_grows lasting_alone env c m h.fit.formed) k j.was j.was.storage
            (x k j.was j.there)))

        ended : (e : Env) → declared c n (means.object k) p ≡ accepted e
            → Ends own env (IsDeclaredAs own first n l k valued)
            (declared c n (means.object k) p)
        ended e eq =
            let tested : is_outside s ≡ false → IsTested c.tables.structs l valued o.of =
            (λ i. subst (λ ss. IsTested ss l valued o.of) (ap (λ z. z.structs) (tables e eq))
            (told e eq i o (objects e eq))) in
            let to-c : Reaches own env c =
            reaches_replaced own env a k j.was o to-a j.there j.same j.lasted j.lasting j.home
            j.name j.linkage j.good.0.0 j.good.1 j.good.0.1 (λ all. absurd (partly all)) (joined_starts tested) in
            let entry : IsEntry own first l k c =
            record {
              seen = subst (λ x. (own k || lasts x) ≡ true) (sym there)
                  (or_right (own k) (is_lasting o.storage) j.lasting);
              where_from = inr (ap lasts there ∙ j.lasting);
              declared = λ e. absurd (true≢false (sym mine ∙ e));
              private = λ e. absurd (true≢false (sym mine ∙ e));
            } in
            record {
              at = λ x is.
                  let i : Reaches own c x =
                  (leads_declared own c to-c.fit n (means.object k) p tt entry.seen).at x is in (
                    reaches_on own env c x to-c i,
                    (
                      entry_on own first l k c x to-c.fit i entry,
                      λ v y there-y.
                          subst (λ z. holds_values z.storage ≡ true)
                          (some_is o y (sym (objects x is) ∙ there-y)) (j.holds v),
                      λ g. (
                        (reaches_on own env c x to-c i).moves.links n k link,
                        ap lasts (objects x is) ∙ j.lasting,
                      ),
                    ),
                  );
            }

-- ---- both

-- where the entry of the number stands
abbrev pub IsPlace : Env → Env → ℕ → Linkage → ℕ → Option Entity → Type 0
IsPlace env later n l k None =
    (length env.tables.objects ≤ k) × (k < length later.tables.objects)
IsPlace env later n l k (Some (entities.Object j)) = (j ≡ k) × (has_linkage l ≡ true)
    × (linked env n ≡ Some (entities.Object j))
IsPlace env later n l k (Some (entities.Function j)) = ⊤

-- what the storage of a declaration is
pub record IsStored (env : Env) (l : Linkage) (s : Storage) (valued : Bool) : Type 0 where
  pub home : has_linkage l ≡ true → IsHomeStorage s
  pub declares : is_declared s ≡ true
  pub outer : IsOuter env l s
  pub holds : valued ≡ true → holds_values s ≡ true

pub object_ends : (own : ℕ → Bool) (env later : Env) (k n : ℕ) (t : CType) (s : Storage)
    (l : Linkage) (valued : Bool) (p : Place) (o : Option Entity) → IsHeld own env
    → Reaches own env later → IsObjectType t later → (has_linkage l ≡ false → own k ≡ true)
    → KnowsElements later.tables.structs t
    → IsStored env l s valued → IsOpening own k l s valued → IsPlace env later n l k o
    → (SeesAll own → ⊥)
    → IsQuiet env later k → Readies l s valued k (object_declared later k n t s l valued p o)
    → Ends own env (IsDeclaredAs own (length env.tables.objects) n l k valued)
    (object_declared later k n t s l valued p o)
object_ends own env later k n t s l valued p None h g f mine knows stored opens place
    partly quiet ready =
    first_ends own env later g k n t l p mine f partly h quiet knows s stored.declares stored.outer
    valued stored.holds opens stored.home place.0 place.1 ready
object_ends own env later k n t s l valued p (Some (entities.Object j)) h g f mine knows
    stored opens place partly quiet ready =
    subst (λ i. IsOpening own i l s valued
    → Readies l s valued i (object_joined later n t s l valued p j)
    → Ends own env (IsDeclaredAs own (length env.tables.objects) n l i valued)
    (object_joined later n t s l valued p j)) place.0
    (λ open-here told. ends_from
    (joined_ends own later n t s l valued p (length env.tables.objects) j
    (held_on h g) place.1 f knows partly
    (λ v. holds_inside s (stored.holds v))
    (λ e i. around_alike g.moves ∙ stored.outer e i) open-here
    (g.moves.links n j place.2) told)) opens ready
  where
    ends_from : {P : Env → Type 0} {c : Checked Env} → Ends own later P c → Ends own env P c
    ends_from x = record
        { at = λ e i. (reaches_on own env later e g (x.at e i).0, (x.at e i).1) }
object_ends own env later k n t s l valued p (Some (entities.Function j)) h g f mine knows
    stored opens place partly quiet ready =
    ends_none
