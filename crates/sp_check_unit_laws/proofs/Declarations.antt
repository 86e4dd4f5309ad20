-- The environment behind a declaration is sound, and the objects that it lists are declared, where
-- they are the function's own and start values are typed (C90 6.5, 6.7.2).
use Rattle.sp_types.specs.Structs.{IsFormed}
use Rattle.std.proofs.Common.{◌≡◌, ◌⊎◌, inl, inr, ℕ, ◌≤◌, ◌<◌, Bool, true, false, not, ◌&&◌, ◌||◌, length, List, [], ◌∷◌, ◌++◌, Option, Some, None, refl, ap, sym, subst, ◌∙◌, true≢false, arith}
use Rattle.std.specs.Prelude.{slice_get, slice_set}
use Rattle.sp_tree.specs.declared.fault.Place.{Place}
use Rattle.sp_tree.specs.declared.token.Keyword.{Keyword}
use Rattle.sp_tree.specs.declared.token.Keyword.TheVariants as words
use Rattle.sp_parse_trees.specs.Syntax.{Declarator, MaybeInit, Init, no_init, some_init, InitDeclarator, init_declarator, InitDeclarators, no_items, next_item, Declaration, declaration, Declarations, no_declarations, next_declaration}
use Rattle.sp_parse_trees.specs.Places.{declarator_place}
use Rattle.sp_types.specs.Types.{CType, void, integer, floating, pointer, array, structure, function, Signature, Struct}
use Rattle.sp_types.specs.Programs.{Object}
use Rattle.sp_types.specs.declared.program.Linkage.{Linkage}
use Rattle.sp_types.specs.declared.program.Linkage.TheVariants.{External, Internal, Inner}
use Rattle.sp_types.specs.declared.program.Storage.{Storage}
use Rattle.sp_types.specs.declared.program.Storage.TheVariants.{Outside, Static, Text, Auto, Formal}
use Rattle.sp_base_checked.specs.Answers.{Checked, accepted, refused, and_then}
use Rattle.sp_check_operands.specs.Conversions.{is_function, is_void}
use Rattle.sp_check_binary_rules.specs.Rules.{function_type}
use Rattle.sp_check_scopes.specs.Meanings as means
use Rattle.sp_check_scopes.specs.Scopes.{is_file_scope}
use Rattle.sp_check_env.specs.declared.env.Entity.{Entity}
use Rattle.sp_check_env.specs.declared.env.Entity.TheVariants as entities
use Rattle.sp_check_env.specs.Env.{Env, set_object, linked, object_type}
use Rattle.sp_check_members.specs.Parameters.{declared_name}
use Rattle.sp_expr_check.specs.Expressions.{declared_type}
use Rattle.sp_check_initialisers.specs.Initialisers.{is_unmeasured, Started, started}
use Rattle.sp_check_initialisers.specs.StaticValues.{is_static_storage}
use Rattle.sp_check_objects.specs.Objects.{has_linkage, linkage_for, static_linkage, plain_linkage, storage_for, is_outside, entry_for, object_reserved, reserved_number, new_object}
use Rattle.sp_check_declarations.specs.Words.{storage_class, is_typedef, is_automatic, declares_tag, has_none, is_given, names_function}
use Rattle.sp_check_declarations.specs.Declarations.{is_floating_array, may_define, target, object_valued, object_finished, with_number, object_told, object_at, function_linkage, may_declare, other_told, other_checked, names_object, item_declared, items_declared, declaration_checked}
use Rattle.sp_check_statements.specs.Parts.{one_declaration, declarations_checked}
use Rattle.sp_check_typing.specs.Trees.{Scene}
use Rattle.sp_check_typing.specs.Statements.{IsEntered, IsDeclared, AreDeclared, is_lasting}
use Rattle.sp_check_formed_laws.proofs.Lists.{none_some, some_is, each_pushed, get_below, set_there, pushed_length}
use Rattle.sp_check_formed_laws.proofs.After.{accepted_is, Gives, gives, gives_then, gives_more, gives_met, gives_given, anything}
use Rattle.sp_check_formed_laws.proofs.Expressions.{declared_formed}
use Rattle.sp_check_written_laws.specs.Written.{IsWrittenInit, IsWrittenStart, IsWrittenDeclarator, IsWrittenItem, AreWrittenItems, IsWrittenDeclaration, AreWrittenDeclarations}
use Rattle.sp_check_typing.specs.Programs.{lasts}
use Rattle.sp_check_written_laws.specs.Laws.{AreByteNames}
use Rattle.sp_check_expr_laws.specs.Sound.{KnowsElements, is_seen, lasting_alone, scene_of}
use Rattle.sp_check_expr_laws.proofs.Envs.{IsFit, IsKeptObject, SeesAll, Reaches, reaches_nowhere, reaches_on, grows_of, around_alike}
use Rattle.sp_check_expr_laws.proofs.Starts.{HasStart, HaveStarts, IsAside, IsCalm, start_stays}
use Rattle.sp_check_expr_laws.proofs.Grows.{Grows}
use Rattle.sp_check_expr_laws.proofs.After.{After, Leads, leads, leads_after, leads_met, leads_either}
use Rattle.sp_check_expr_laws.proofs.Updates.{fit_wider, leads_declared}
use Rattle.sp_check_expr_laws.proofs.Functions.{IsGoodSignature, function_sound}
use Rattle.sp_check_expr_laws.proofs.Objects.{set_starts, passing_grows, reaches_set, reaches_replaced}
use Rattle.sp_check_expr_laws.proofs.Leaves.{IsType, type_kept}
use Rattle.sp_check_expr_laws.proofs.Expressions.{specifiers_good, declared_good}
use Rattle.sp_check_expr_laws.proofs.Declared.{elements_kept, specifiers_elements, declared_elements}
use Rattle.sp_check_expr_laws.proofs.Law.{sound_of}
use Rattle.sp_check_unit_laws.proofs.Fits.{AreOwn}
use Rattle.sp_check_unit_laws.proofs.Started.{IsStart}
use Rattle.sp_check_unit_laws.proofs.Starts.{starts_typed}
use Rattle.sp_check_unit_laws.proofs.Begun.{IsTested, holds_values, storage_declared, storage_valued}
use Rattle.sp_check_unit_laws.proofs.Parted.{each_right}
use Rattle.sp_check_unit_laws.proofs.Listed.{number_listed, items_before, all_before}
use Rattle.sp_check_unit_laws.proofs.Shows.{Shows, shown, shows_none, hence, behind, shows_lead, shows_met, shows_given, shows_either, ahead, asked}
use Rattle.sp_check_unit_laws.proofs.Held.{IsHeld, held_on}
use Rattle.sp_ir.specs.Terrain.{size_of}
use Rattle.sp_check_typing.specs.Statements.{is_lasting}
use Rattle.sp_check_objects.specs.Objects.{may_wait}
use Rattle.sp_check_expr_laws.proofs.Types.{complete_sized}
use Rattle.sp_check_expr_laws.proofs.Envs.{fit_table}
use Rattle.sp_check_operands.specs.Conversions.{is_complete}
use Rattle.sp_check_unit_laws.proofs.Locals.{IsLocalIn, AreLocals, no_locals, locals_both, locals_moved}
use Rattle.sp_check_unit_laws.proofs.Going.{IsBegun, started_stays, all_declared_stay}
use Rattle.sp_check_initialiser_laws.proofs.Initialisers.{IsObjectType, Completes, IsStartedType, IsStartedSet, started_sound}
use Rattle.sp_check_initialiser_laws.proofs.Sets.{AreSetIn, leaves_known}
use Rattle.sp_check_unit_laws.proofs.Objects.{leads_given, Ends, ends, ends_given, ends_met, ends_behind, ends_none, IsEntry, IsKeptEntry, IsLinkedAs, IsOpening, IsOuter, IsReady, IsQuiet, quiet_reserved, told_grows, reaches_place, storage_home, storage_inside, IsPlace, object_ends}

-- ---- signatures

pub signature_in : (env : Env) (t : CType) (s : Signature) → IsType t env
    → function_type t ≡ Some s → IsGoodSignature env.tables.structs s
signature_in env (function r) s h e =
    subst (λ s. IsGoodSignature env.tables.structs s) (some_is r s e) h
signature_in env void s h e = absurd (none_some s e)
signature_in env (integer k) s h e = absurd (none_some s e)
signature_in env (floating k) s h e = absurd (none_some s e)
signature_in env (pointer t) s h e = absurd (none_some s e)
signature_in env (array t n) s h e = absurd (none_some s e)
signature_in env (structure k) s h e = absurd (none_some s e)

-- ---- the values of an object

-- where linkage is none the object stands here, and has to be complete
waits_not : (l : Linkage) (t : CType) → has_linkage l ≡ false → may_wait l t ≡ false
waits_not External t h = absurd (true≢false h)
waits_not Internal t h = refl
waits_not Inner t h = refl

last_of : (a b c : Bool) → a ≡ false → b ≡ false → (a || b || c) ≡ true → c ≡ true
last_of true b c h g e = absurd (true≢false h)
last_of false true c h g e = absurd (true≢false g)
last_of false false c h g e = e

-- what was tested where it is defined
tested_waiting : (ss : List Struct) (a : Bool) (l : Linkage) (t : CType)
    → (a || may_wait l t || is_complete ss t) ≡ true → a ≡ false → IsTested ss l false t
tested_waiting ss true l t h e = absurd (true≢false e)
tested_waiting ss false External t h e = by (is_void t) refl h
  where
    by : (b : Bool) → is_void t ≡ b → (not b || is_complete ss t) ≡ true
        → IsTested ss External false t
    by true is h = inl h
    by false is h = inr (inr (refl, is, refl))
tested_waiting ss false Internal t h e = inl h
tested_waiting ss false Inner t h e = inl h

tested_started : (ss : List Struct) (l : Linkage) (t : CType) (b : Bool) → is_unmeasured t ≡ b
    → (b || is_complete ss t) ≡ true → IsTested ss l true t
tested_started ss l t true is h = inr (inl is)
tested_started ss l t false is h = inl h

-- only in the scope of the file an external object is defined
outer_file : (l : Linkage) (class : Option Keyword) (valued file : Bool)
    → (file || not (has_linkage l) || not valued) ≡ true
    → (file ≡ false → l ≡ External → class ≡ Some words.Extern) → l ≡ External
    → is_outside (storage_for l class valued) ≡ false → file ≡ true
outer_file l class valued true may h e i = refl
outer_file External class true false may h e i = absurd (true≢false (sym may))
outer_file External class false false may h e i =
    let out : is_outside (storage_for External (Some words.Extern) false) ≡ false =
    subst (λ c. is_outside (storage_for External c false) ≡ false) (h refl refl) i in
    absurd (true≢false out)
outer_file Internal class valued false may h e i = absurd (cc)
outer_file Inner class valued false may h e i = absurd (cc)

-- the object of a number that was there stays so, where no object is declared
calm_same : (env later : Env) (k : ℕ) (o : Object) → IsCalm env later
    → slice_get env.tables.objects k ≡ Some o → IsKeptObject later.tables.objects k o
    → slice_get later.tables.objects k ≡ Some o
calm_same env later k o calm at y = by (calm k y.object y.there)
  where
    by : (slice_get env.tables.objects k ≡ Some y.object)
        ⊎ ((length env.tables.objects ≤ k) × IsAside y.object)
        → slice_get later.tables.objects k ≡ Some o
    by (inl same) = y.there ∙ sym same ∙ at
    by (inr x) =
        let low : k < length env.tables.objects = get_below env.tables.objects k o at in
        absurd (omega (arith, low, x.0))

-- two facts of one answer, in the environment behind it
pub after_both : {own : ℕ → Bool} {A : Type 0} {env : Env} {P : A → Env → Type 0}
    {Q : A × Env → Type 0} {c : Checked (A × Env)} → After own env P c → Gives Q c
    → After own env (λ x later. P x later × Q (x, later)) c
after_both h g = record { at = λ x e. ((h.at x e).0, ((h.at x e).1, g.at x e)) }

-- a part whose answer is told of by what comes behind it
ends_through : {own : ℕ → Bool} {env : Env} {P Q : Env → Type 0} {c : Checked Env}
    {f : Env → Checked Env} (R : Env → Type 0)
    → ((e later : Env) → f e ≡ accepted later → R e)
    → (((e : Env) → c ≡ accepted e → R e) → Ends own env Q c)
    → ((e : Env) → Reaches own env e → Q e → Ends own env P (f e)) → Ends own env P (and_then c f)
ends_through {own = own} {env = env} {P = P} {Q = Q} {c = accepted x} {f = f} R back h g =
    record { at = λ later eq. by later eq }
  where
    by : (later : Env) → f x ≡ accepted later → Reaches own env later × P later
    by later eq =
        let e : Ends own env Q (accepted x) =
        h (λ y is. subst R (accepted_is x y is) (back x later eq)) in
        (g x (e.at x refl).0 (e.at x refl).1).at later eq
ends_through {c = refused k p} R back h g = ends_none

-- a function that has all objects
abbrev all_seen : ℕ → Bool
all_seen k = true

module _ (names : List (List ℕ)) (bytes : AreByteNames names) (own : ℕ → Bool)
    (partly : SeesAll own → ⊥) where
  -- an object without linkage is complete, where it doesn't last
  abbrev IsWhole : Linkage → ℕ → Env → Type 0
  IsWhole l k env = has_linkage l ≡ false → (o : Object) → slice_get env.tables.objects k ≡ Some o
      → is_lasting o.storage ≡ false → 1 ≤ size_of env.tables.structs o.of

  abbrev IsFinished : Env → ℕ → Linkage → ℕ → Env → Type 0
  IsFinished first n l k env = IsEntry own (length first.tables.objects) l k env
      × IsWhole l k env × IsLinkedAs n l k env

  complete_has : (env : Env) → IsFit own env → (t : CType) → IsFormed env.tables.structs t
      → is_complete env.tables.structs t ≡ true → 1 ≤ size_of env.tables.structs t
  complete_has env h t f c = (complete_sized env.tables.structs (fit_table own env h) t f c).0

  -- the entry with its values
  module _ (first : Env) (env : Env) (l : Linkage) (k : ℕ) (h : IsHeld own env)
      (g : Reaches own first env) (x : IsEntry own (length first.tables.objects) l k env)
      (o : Object) (at : slice_get env.tables.objects k ≡ Some o)
      (holds : holds_values o.storage ≡ true) where
    abbrev valued : Started → Object
    valued v = record o { of = v.of; start = v.values }

    seen_here : (own k || is_lasting o.storage) ≡ true
    seen_here = subst (λ y. (own k || lasts y) ≡ true) at x.seen

    abbrev IsSameIn : Env → Type 0
    IsSameIn later = slice_get later.tables.objects k ≡ Some o

    valued_grows : (v : Started) (later : Env) → IsSameIn later → Completes o.of v.of
        → Grows (scene_of lasting_alone later)
        (scene_of lasting_alone (set_object later k (valued v)))
    valued_grows v later same told = by o.storage refl holds
      where
        by : (s : Storage) → o.storage ≡ s → holds_values s ≡ true
            → Grows (scene_of lasting_alone later)
            (scene_of lasting_alone (set_object later k (valued v)))
        by Static is e =
            told_grows lasting_alone later k (valued v) (ap is_lasting is) o same told
        by Auto is e = passing_grows later k (valued v) (ap lasts same ∙ ap is_lasting is)
        by Outside is e = absurd (true≢false (sym e))
        by Text is e = absurd (true≢false (sym e))
        by Formal is e = absurd (true≢false (sym e))

    -- where it lasts, its values are known before the program runs
    valued_start : (waits : ℕ → Bool) (v : Started) (later : Env) → Reaches own env later
        → IsStartedType o.of v later → IsSameIn later
        → IsStart own (target o o.place o.place) later v
        → AreSetIn (target o o.place o.place) v.values later
        → HasStart waits (set_object later k (valued v)) k (valued v) o.storage
    valued_start waits v later i f same start set = by o.storage refl holds
      where
        by : (s : Storage) → o.storage ≡ s → holds_values s ≡ true
            → HasStart waits (set_object later k (valued v)) k (valued v) s
        by Static is e =
            let fixed : is_static_storage o.storage ≡ true = ap is_static_storage is in
            start_stays waits later (set_object later k (valued v)) i.fit.formed.table
            (valued_grows v later same f.1) k (valued v) Static
            (inl (record {
              sized = complete_has later i.fit v.of f.0.0.0 f.2;
              known = leaves_known own later v.of v.values (start.static fixed) (set fixed);
            }))
        by Auto is e = tt
        by Outside is e = absurd (true≢false (sym e))
        by Text is e = absurd (true≢false (sym e))
        by Formal is e = absurd (true≢false (sym e))

    valued_reaches : (v : Started) (later : Env) → Reaches own env later
        → IsStartedType o.of v later → IsSameIn later
        → IsStart own (target o o.place o.place) later v
        → AreSetIn (target o o.place o.place) v.values later
        → Reaches own first (set_object later k (valued v))
    valued_reaches v later i f same start set = by x.where_from
      where
        starts : (waits : ℕ → Bool) → HaveStarts waits later
            → HaveStarts waits (set_object later k (valued v))
        starts waits y =
            set_starts later k (valued v) waits i.fit.formed.table
            (valued_grows v later same f.1) y (valued_start waits v later i f same start set)

        by : (length first.tables.objects ≤ k) ⊎ (lasts (slice_get env.tables.objects k) ≡ true)
            → Reaches own first (set_object later k (valued v))
        by (inl new) =
            let to : Reaches own first later = reaches_on own first env later g i in
            reaches_set own first later k (valued v) to
            (h.homes k o at) (λ y mine. y.0 k o same mine) new seen_here f.0.0.0 f.0.1 f.0.0.1 (λ all. absurd (partly all))
            (λ m waits w y. starts waits (to.starts waits w y))
        by (inr lasting) =
            let last : is_lasting o.storage ≡ true = sym (ap lasts at) ∙ lasting in
            reaches_on own first env (set_object later k (valued v)) g
            (reaches_replaced own env later k o (valued v) i at f.1 last last (h.homes k o at) refl
            refl f.0.0.0 f.0.1 f.0.0.1
            (λ all. absurd (partly all)) (λ m waits w y. starts waits (i.starts waits w y)))

    -- it is as it was before its initialiser, where it doesn't last
    auto_entered : (v : Started) (later : Env) → Reaches own env later → IsStartedType o.of v later
        → IsStart own (target o o.place o.place) later v → o.storage ≡ Auto
        → IsEntered (scene_of own (set_object later k (valued v))) Auto v.of v.values
    auto_entered v later i f start is =
        let y : IsKeptObject later.tables.objects k o = i.moves.objects k o at in
        let same : y.object ≡ o = y.whole (ap is_lasting is) in
        started_stays (scene_of own later) (scene_of own (set_object later k (valued v)))
        i.fit.formed.table
        (told_grows own later k (valued v) seen_here y.object y.there
        (subst (λ z. Completes z.of v.of) (sym same) f.1)) v.of v.values
        (start.automatic (ap is_static_storage is))

    valued_entered : (v : Started) (later : Env) → Reaches own env later
        → IsStartedType o.of v later → IsStart own (target o o.place o.place) later v
        → (s : Storage) → o.storage ≡ s
        → IsEntered (scene_of own (set_object later k (valued v))) s v.of v.values
    valued_entered v later i f start Auto is = auto_entered v later i f start is
    valued_entered v later i f start Static is = tt
    valued_entered v later i f start Outside is = tt
    valued_entered v later i f start Text is = tt
    valued_entered v later i f start Formal is = tt

    valued_entry : (v : Started) (later : Env) → Reaches own env later → IsStartedType o.of v later
        → IsStart own (target o o.place o.place) later v
        → IsEntry own (length first.tables.objects) l k (set_object later k (valued v))
    valued_entry v later i f start =
        let y : IsKeptObject later.tables.objects k o = i.moves.objects k o at in
        let there : slice_get (slice_set later.tables.objects k (valued v)) k ≡ Some (valued v) =
        set_there later.tables.objects k (valued v)
        (get_below later.tables.objects k y.object y.there) in
        let seen : is_seen own (slice_set later.tables.objects k (valued v)) k ≡ true =
        subst (λ z. (own k || lasts z) ≡ true) (sym there) seen_here in
        record {
          seen = seen;
          where_from = by x.where_from there;
          declared = λ e. record {
            object = valued v;
            there = there;
            visible = seen;
            entered = valued_entered v later i f start o.storage refl;
          };
          private = λ e z at-z.
              subst (λ z. has_linkage z.linkage ≡ false)
              (some_is (valued v) z (sym there ∙ at-z)) (x.private e o at);
        }
      where
        by : (length first.tables.objects ≤ k) ⊎ (lasts (slice_get env.tables.objects k) ≡ true)
            → slice_get (slice_set later.tables.objects k (valued v)) k ≡ Some (valued v)
            → (length first.tables.objects ≤ k)
            ⊎ (lasts (slice_get (slice_set later.tables.objects k (valued v)) k) ≡ true)
        by (inl new) there = inl new
        by (inr lasting) there = inr (ap lasts there ∙ sym (ap lasts at) ∙ lasting)

    valued_whole : (v : Started) (later : Env) → Reaches own env later → IsStartedType o.of v later
        → IsWhole l k (set_object later k (valued v))
    valued_whole v later i f e x there passes =
        let y : IsKeptObject later.tables.objects k o = i.moves.objects k o at in
        let same : valued v ≡ x = some_is (valued v) x
        (sym (set_there later.tables.objects k (valued v)
        (get_below later.tables.objects k y.object y.there)) ∙ there) in
        subst (λ z. 1 ≤ size_of later.tables.structs z.of) same
        (complete_has later i.fit v.of f.0.0.0 f.2)

    valued_lasts : (v : Started) (later : Env) → Reaches own env later
        → lasts (slice_get env.tables.objects k) ≡ true
        → lasts (slice_get (slice_set later.tables.objects k (valued v)) k) ≡ true
    valued_lasts v later i last =
        let y : IsKeptObject later.tables.objects k o = i.moves.objects k o at in
        ap lasts (set_there later.tables.objects k (valued v)
        (get_below later.tables.objects k y.object y.there)) ∙ sym (ap lasts at) ∙ last

  -- behind the initialiser of the object
  record IsTold (k : ℕ) (p at : Place) (o : Object) (v : Started) (later : Env) : Type 0 where
    kind : IsStartedSet (target o p at) o.of v later
    start : IsStart own (target o p at) later v
    same : slice_get later.tables.objects k ≡ Some o

  valued_ends : (first env : Env) (n : ℕ) (l : Linkage) (k : ℕ) (p at : Place) (i : Init)
      → IsHeld own env → Reaches own first env → IsEntry own (length first.tables.objects) l k env
      → IsKeptEntry true k env → IsLinkedAs n l k env → IsWrittenInit i
      → Ends own first (IsFinished first n l k) (object_valued names env k p at i)
  valued_ends first env n l k p at i h g x kept link w =
      ends_given {o = slice_get env.tables.objects k} _ _ (λ o e.
      let f : IsObjectType o.of env =
      (((h.fit.formed.objects k o e).0, h.fit.objects k o e), (h.fit.formed.objects k o e).1) in
      ends_behind (started_told o f e) (λ v j q. ends
      (valued_reaches first env l k h g x o e (kept refl o e) v.0 v.1 j q.kind.0 q.same
      (record { automatic = q.start.automatic; static = q.start.static }) q.kind.1) (
        valued_entry first env l k h g x o e (kept refl o e) v.0 v.1 j q.kind.0
            (record { automatic = q.start.automatic; static = q.start.static }),
        valued_whole first env l k h g x o e (kept refl o e) v.0 v.1 j q.kind.0,
        λ mine. (
          j.moves.links n k (link mine).0,
          valued_lasts first env l k h g x o e (kept refl o e) v.0 v.1 j (link mine).1,
        ),
      )))
    where
      started_told : (o : Object) → IsObjectType o.of env → slice_get env.tables.objects k ≡ Some o
          → After own env (IsTold k p at o) (started names env (target o p at) o.of i)
      started_told o f there = record {
        at = λ v e.
            let a = (started_sound names bytes own env (target o p at) o.of i h.fit f w).at v e in
            let b = (started_sound names bytes all_seen env (target o p at) o.of i
            (fit_wider own all_seen env (λ j x. refl) h.fit) f w).at v e in (
              a.0,
              record {
                kind = a.1;
                start = starts_typed names bytes own env (target o p at) o.of i
                    (sound_of own env h.fit) f.0.0 f.1 f.0.1 w v e;
                same = calm_same env v.1 k o (b.0.calm (λ j. refl)) there
                    (a.0.moves.objects k o there);
              },
            );
      }

  finished_ends : (first env : Env) (n : ℕ) (l : Linkage) (k : ℕ) (p at : Place) (s : Storage)
      (start : MaybeInit) → IsHeld own env
      → Reaches own first env → IsEntry own (length first.tables.objects) l k env
      → IsKeptEntry (is_given start) k env → IsLinkedAs n l k env
      → IsWrittenStart start → (has_linkage l ≡ false → is_outside s ≡ false)
      → Ends own first (IsFinished first n l k) (object_finished names env k p at l s start)
  finished_ends first env n l k p at s no_init h g x kept link w inside =
      ends_given {o = object_type (slice_get env.tables.objects k)} _ _ (λ t e.
      ends_met {b = is_outside s || may_wait l t || is_complete env.tables.structs t} _ _ (λ whole.
      ends g (
        x,
        λ f o there passes.
            let same : t ≡ o.of = some_is t o.of (sym e ∙ ap object_type there) in
            complete_has env h.fit o.of (h.fit.formed.objects k o there).0
            (subst (λ u. is_complete env.tables.structs u ≡ true) same
            (last_of (is_outside s) (may_wait l t) (is_complete env.tables.structs t) (inside f)
            (waits_not l t f) whole)),
        link,
      )))
  finished_ends first env n l k p at s (some_init i) h g x kept link w inside =
      valued_ends first env n l k p at i h g x kept link w

  -- what is accepted was tested
  finished_ready : (env : Env) (k : ℕ) (p at : Place) (l : Linkage) (s : Storage)
      (start : MaybeInit)
      → Gives (λ later. IsReady l s (is_given start) k env)
      (object_finished names env k p at l s start)
  finished_ready env k p at l s no_init =
      gives_given {o = object_type (slice_get env.tables.objects k)} _ _ (λ t e.
      gives_met {b = is_outside s || may_wait l t || is_complete env.tables.structs t} _ _
      (λ whole. gives {x = env} (λ inside o there.
      let same : t ≡ o.of = some_is t o.of (sym e ∙ ap object_type there) in
      subst (λ u. IsTested env.tables.structs l false u) same
      (tested_waiting env.tables.structs (is_outside s) l t whole inside))))
  finished_ready env k p at l s (some_init i) =
      gives_given {o = slice_get env.tables.objects k} _ _ (λ o e.
      gives_then {Q = λ y. (is_unmeasured o.of || is_complete env.tables.structs o.of) ≡ true}
      (gives_met {b = is_unmeasured o.of || is_complete env.tables.structs o.of} _ _
      (λ whole. gives_more (λ y u. whole) anything)) (λ y whole.
      gives (λ inside x there.
      let same : o ≡ x = some_is o x (sym e ∙ there) in
      subst (λ z. IsTested env.tables.structs l true z.of) same
      (tested_started env.tables.structs l o.of (is_unmeasured o.of) refl whole))))

  -- ---- objects

  -- in a block an external name is one of a declaration with `extern`
  abbrev IsOuterClass : Env → Linkage → Option Keyword → Type 0
  IsOuterClass env l class =
      is_file_scope env.scopes ≡ false → l ≡ External → class ≡ Some words.Extern

  -- what may be left open is `own`
  abbrev pub MayOpen : Env → ℕ → Linkage → Option Keyword → Bool → Type 0
  MayOpen env k l class valued = is_file_scope env.scopes ≡ true
      → IsOpening own k l (storage_for l class valued) valued

  told_ends : (first env : Env) (class : Option Keyword) (t : CType) (k n : ℕ) (p at : Place)
      (start : MaybeInit) (l : Linkage) (e : Option Entity) → IsHeld own first
      → Reaches own first env → IsObjectType t env → (has_linkage l ≡ false → own k ≡ true)
      → IsPlace first env n l k e → IsWrittenStart start → IsQuiet first env k
      → KnowsElements env.tables.structs t → IsOuterClass first l class
      → MayOpen first k l class (is_given start)
      → Ends own first (IsFinished first n l k) (object_told names env class t k n p at start l e)
  told_ends first env class t k n p at start l e h g f mine place w quiet knows outer opens =
      let s : Storage = storage_for l class (is_given start) in
      ends_met {b = may_define env l (is_given start)} _ _ (λ may.
      ends_met {b = is_outside s || not (is_floating_array t)} _ _ (λ fits.
      ends_through (IsReady l s (is_given start) k)
      (λ x later eq. (finished_ready x k p at l s start).at later eq)
      (λ ready.
      let file : IsOuter first l s = λ is inside.
      outer_file l class (is_given start) (is_file_scope first.scopes)
      (subst (λ b. (b || not (has_linkage l) || not (is_given start)) ≡ true)
      (around_alike g.moves) may) outer is inside in
      object_ends own first env k n t s l (is_given start) p e h g f mine knows (record {
        home = storage_home l class (is_given start);
        declares = storage_declared l class (is_given start);
        outer = file;
        holds = storage_valued l class (is_given start);
      }) (λ is inside v. opens (file is inside) is inside v) place partly quiet ready) (λ later j x.
      finished_ends first later n l k p at s start (held_on h j) j x.0 x.1 x.2 w
      (storage_inside l class (is_given start)))))

  abbrev AreDeclaredIn : List ℕ → Env → Type 0
  AreDeclaredIn ns env = AreDeclared (scene_of own env) ns × AreLocals ns env

  declared_on : (env later : Env) → IsHeld own env → Reaches own env later → (ns : List ℕ)
      → AreDeclaredIn ns env → AreDeclaredIn ns later
  declared_on env later h g ns c = (
    all_declared_stay (scene_of own env) (scene_of own later) h.fit.formed.table
        (grows_of own env later h.fit g) g.moves.objects ns c.0,
    locals_moved env later h.fit.formed g.moves ns c.1,
  )

  none_declared : (env : Env) → AreDeclaredIn [] env
  none_declared env = (tt, no_locals env)

  declared_pushed : (s : Scene) (ns : List ℕ) (n : ℕ) → AreDeclared s ns → IsDeclared s n
      → AreDeclared s (ns ++ n ∷ [])
  declared_pushed s [] n h d = (d, tt)
  declared_pushed s (m ∷ ns) n h d = (h.0, declared_pushed s ns n h.1 d)

  declared_both : (s : Scene) (ns ms : List ℕ) → AreDeclared s ns → AreDeclared s ms
      → AreDeclared s (ns ++ ms)
  declared_both s [] ms h d = d
  declared_both s (n ∷ ns) ms h d = (h.0, declared_both s ns ms h.1 d)

  -- the list with the entry of the number
  listed_by : (l : Linkage) (env : Env) (ks : List ℕ) (k : ℕ) (first : ℕ) → AreDeclaredIn ks env
      → IsEntry own first l k env × IsWhole l k env → AreDeclaredIn (with_number ks l k) env
  listed_by External env ks k first h x = h
  listed_by Internal env ks k first h x = h
  listed_by Inner env ks k first h x =
      let b : IsBegun (scene_of own env) k = x.0.declared refl in (
        declared_pushed (scene_of own env) ks k h.0 (record {
          object = b.object;
          there = b.there;
          visible = b.visible;
          entered = b.entered;
          sized = x.1 refl b.object b.there;
        }),
        each_pushed (IsLocalIn env) ks k h.1 (record {
          object = b.object;
          there = b.there;
          private = x.0.private refl b.object b.there;
          sized = x.1 refl b.object b.there;
        }),
      )

  -- besides, the name is linked to the object
  abbrev pub AreLinkedIn : ℕ → Linkage → ℕ → List ℕ → Env → Type 0
  AreLinkedIn n l k ns env = AreDeclaredIn ns env × IsLinkedAs n l k env

  linked_less : (env : Env) (n : ℕ) (l : Linkage) (k : ℕ) (c : Checked (List ℕ × Env))
      → Shows own env (AreOwn own) (AreLinkedIn n l k) c
      → Shows own env (AreOwn own) AreDeclaredIn c
  linked_less env n l k c h = record { at = λ x e l. ((h.at x e l).0, (h.at x e l).1.0) }

  pub object_shows : (env : Env) (ks : List ℕ) (class : Option Keyword) (base : CType)
      (d : Declarator)
      (start : MaybeInit) (n : ℕ) (p : Place) (l : Linkage) (e : Option Entity) → IsHeld own env
      → AreDeclaredIn ks env → IsType base env → KnowsElements env.tables.structs base
      → names_function (is_function base) d ≡ false
      → IsWrittenDeclarator d → IsWrittenStart start
      → (has_linkage l ≡ false → own (reserved_number env e) ≡ true)
      → ((later : Env) → Reaches own (object_reserved env n p e) later
      → IsPlace env later n l (reserved_number env e) e)
      → IsOuterClass env l class → MayOpen env (reserved_number env e) l class (is_given start)
      → Shows own env (AreOwn own) (AreLinkedIn n l (reserved_number env e))
      (object_at names env ks class base d start n p l e)
  object_shows env ks class base d start n p l e h ns t knows plain w v mine place outer opens =
      let r : Env = object_reserved env n p e in
      let to-r : Reaches own env r = reaches_place own env n p e partly h.fit in
      ahead (declared_plain r to-r) (λ x g u.
      let to-x : Reaches own env x.1 = reaches_on own env r x.1 to-r g in
      finally (told_ends env x.1 class x.0 (reserved_number env e) n p
      (declarator_place d) start l e
      h to-x u.0 mine (place x.1 g) v (quiet_reserved env n p e x.1 u.1) u.2 outer
      opens)
      (λ later j y. shown (λ f. (
        j,
        (
          listed_by l later ks (reserved_number env e) (length env.tables.objects)
              (declared_on env later h j ks ns) (y.0, y.1),
          y.2,
        ),
      ))))
    where
      -- it is the type of an object, and no object is declared
      declared_plain : (r : Env) → Reaches own env r
          → After own r
          (λ t later. IsObjectType t later × IsCalm r later × KnowsElements later.tables.structs t)
          (declared_type names r base d)
      declared_plain r to-r = record {
        at = λ x e.
            let a = (declared_good names bytes own r base d to-r.fit w (type_kept to-r base t)).at x
            e in
            let c = (declared_good names bytes all_seen r base d
            (fit_wider own all_seen r (λ j y. refl) to-r.fit) w (type_kept to-r base t)).at x e in
            let b = (declared_formed names r base d to-r.fit.formed (type_kept to-r base t).0).at x
            e
            in
            let m = (declared_elements names bytes own r base d to-r.fit w
            (elements_kept h.fit to-r base knows)).at x e in
            (a.0, ((a.1, b.1.1 ∙ plain), c.0.calm (λ j. refl), m));
      }

      finally : {P : List ℕ → Env → Type 0} {Q : Env → Type 0} {c : Checked Env}
          {f : Env → Checked (List ℕ × Env)} → Ends own env Q c
          → ((later : Env) → Reaches own env later → Q later
          → Shows own env (AreOwn own) P (f later))
          → Shows own env (AreOwn own) P (and_then c f)
      finally {c = accepted x} h g = g x (h.at x refl).0 (h.at x refl).1
      finally {c = refused k p} h g = shows_none

  -- where the entry of a new name stands
  new_place : (env : Env) (n : ℕ) (l : Linkage) (p : Place) (later : Env)
      → Reaches own (object_reserved env n p None) later
      → IsPlace env later n l (length env.tables.objects) None
  new_place env n l p later g =
      let more : length (env.tables.objects ++ new_object n void Outside Inner p ∷ [])
      ≤ length later.tables.objects = g.moves.keeps.objects in (
        omega arith,
        omega (arith, more, pushed_length env.tables.objects (new_object n void Outside Inner p)),
      )

  pub linked_place : (env : Env) (n : ℕ) (l : Linkage) (p : Place) → has_linkage l ≡ true
      → (o : Option Entity) → linked env n ≡ o → (later : Env) → Reaches own
      (object_reserved env n p o) later
      → IsPlace env later n l (reserved_number env o) o
  linked_place env n l p mine None is later g = new_place env n l p later g
  linked_place env n l p mine (Some (entities.Object k)) is later g = (refl, mine, is)
  linked_place env n l p mine (Some (entities.Function k)) is later g = tt

  inner_apart : Inner ≡ External → ⊥
  inner_apart e = absurd (cc)

  object_typed : (env : Env) (ks : List ℕ) (class : Option Keyword) (base : CType) (d : Declarator)
      (start : MaybeInit) (n : ℕ) (p : Place) (l : Linkage) → IsHeld own env
      → AreDeclaredIn ks env → IsType base env → KnowsElements env.tables.structs base
      → names_function (is_function base) d ≡ false
      → IsWrittenDeclarator d → IsWrittenStart start → IsOuterClass env l class
      → MayOpen env (reserved_number env (linked env n)) l class (is_given start)
      → Shows own env (AreOwn own) AreDeclaredIn
      (object_at names env ks class base d start n p l (entry_for env n l))
  object_typed env ks class base d start n p External h ns t knows plain w v outer
      opens =
      linked_less env n External (reserved_number env (linked env n)) _
      (object_shows env ks class base d start n p External (linked env n) h ns t knows plain w
      v (λ e. absurd (true≢false e))
      (linked_place env n External p refl (linked env n) refl) outer opens)
  object_typed env ks class base d start n p Internal h ns t knows plain w v outer
      opens =
      linked_less env n Internal (reserved_number env (linked env n)) _
      (object_shows env ks class base d start n p Internal (linked env n) h ns t knows plain w
      v (λ e. absurd (true≢false e))
      (linked_place env n Internal p refl (linked env n) refl) outer opens)
  object_typed env ks class base d start n p Inner h ns t knows plain w v outer opens =
      asked (λ mine.
      linked_less env n Inner (length env.tables.objects) _
      (object_shows env ks class base d start n p Inner None h ns t knows plain w v
      (λ e. mine) (new_place env n Inner p) outer
      (λ file is. absurd (inner_apart is)))) (number_listed names own env ks class base d start n p)

  outer_linkage : (env : Env) (n : ℕ) (class : Option Keyword)
      → IsOuterClass env (linkage_for env n class) class
  outer_linkage env n (Some words.Extern) file e = refl
  outer_linkage env n (Some words.Static) file e =
      let same : static_linkage false ≡ External = sym (ap static_linkage file) ∙ e in
      absurd (inner_apart same)
  outer_linkage env n class file e =
      let same : plain_linkage false ≡ External = sym (ap plain_linkage file) ∙ e in
      absurd (inner_apart same)

  -- ---- functions and types

  other_leads : (env : Env) (class : Option Keyword) (whole : Place) (t : CType) (n : ℕ)
      (p at : Place) (valued : Bool) → IsFit own env → IsType t env
      → KnowsElements env.tables.structs t → Leads own env
      (other_told env class whole t n p at valued)
  other_leads env class whole t n p at valued h f knows =
      leads_either {b = is_typedef class}
      (λ e. leads_met {b = not valued} _ _ (λ plain.
      leads_declared own env h n (means.named t) p f.0 (f.1, knows)))
      (λ e. leads_met {b = may_declare env class} _ _
      (λ may. leads_met {b = not valued} _ _ (λ plain.
      leads_given {o = function_type t} _ _ (λ s g.
      leads_after (function_sound own env h n (function_linkage env n class) s p
      (signature_in env t s f g)) (λ x k a. leads (reaches_nowhere own x.1 k.fit))))))

  pub other_typed : (env : Env) (ks : List ℕ) (class : Option Keyword) (whole : Place)
      (base : CType)
      (d : Declarator) (start : MaybeInit) (n : ℕ) (p : Place) → IsHeld own env
      → AreDeclaredIn ks env → IsType base env → KnowsElements env.tables.structs base
      → IsWrittenDeclarator d
      → Shows own env (AreOwn own) AreDeclaredIn
      (other_checked names env ks class whole base d start n p)
  other_typed env ks class whole base d start n p h ns t knows w =
      behind (after_both (declared_good names bytes own env base d h.fit w t)
      (declared_elements names bytes own env base d h.fit w knows)) (λ x g u.
      shows_lead (other_leads x.1 class whole x.0 n p (declarator_place d) (is_given start) g.fit
      u.0 u.1)
      (λ e k. shown (λ l. (
        reaches_nowhere own e k.fit,
        declared_on x.1 e (held_on h g) k ks (declared_on env x.1 h g ks ns),
      ))))

  -- ---- declarations

  pub plain_name : (a b : Bool) → (not a && not b) ≡ true → b ≡ false
  plain_name true b e = absurd (true≢false (sym e))
  plain_name false true e = absurd (true≢false (sym e))
  plain_name false false e = refl

  abbrev pub ItemMayOpen : Env → Option Keyword → CType → InitDeclarator → Type 0
  ItemMayOpen env class base (init_declarator d start) = (n : ℕ × Place)
      → declared_name d ≡ Some n → names_object class base d ≡ true
      → MayOpen env (reserved_number env (linked env n.0)) (linkage_for env n.0 class) class
      (is_given start)

  pub item_typed : (env : Env) (class : Option Keyword) (whole : Place) (base : CType) (ks : List ℕ)
      (i : InitDeclarator) → IsHeld own env → IsType base env
      → KnowsElements env.tables.structs base → IsWrittenItem i → ItemMayOpen env class base i
      → AreDeclaredIn ks env
      → Shows own env (AreOwn own) AreDeclaredIn (item_declared names env class whole base ks i)
  item_typed env class whole base ks (init_declarator d start) h t knows w opens ns =
      shows_given {o = declared_name d} _ _ (λ n e.
      shows_either {b = names_object class base d}
      (λ o. object_typed env ks class base d start n.0 n.1 (linkage_for env n.0 class) h ns t knows
      (plain_name (is_typedef class) (names_function (is_function base) d) o) w.0 w.1
      (outer_linkage env n.0 class) (opens n e o))
      (λ o. other_typed env ks class whole base d start n.0 n.1 h ns t knows w.0))

  -- within a function
  abbrev IsInner : Env → Type 0
  IsInner env = is_file_scope env.scopes ≡ false

  inner_on : (env later : Env) → Reaches own env later → IsInner env → IsInner later
  inner_on env later g h = around_alike g.moves ∙ h

  inner_opens : (env : Env) (class : Option Keyword) (base : CType) (i : InitDeclarator)
      → IsInner env
      → ItemMayOpen env class base i
  inner_opens env class base (init_declarator d start) h =
      λ n e o file is inside v. absurd (true≢false (sym file ∙ h))

  items_typed : (env : Env) (class : Option Keyword) (whole : Place) (base : CType) (ks : List ℕ)
      (is : InitDeclarators) → IsHeld own env → IsType base env
      → KnowsElements env.tables.structs base → AreWrittenItems is → IsInner env
      → AreDeclaredIn ks env
      → Shows own env (AreOwn own) AreDeclaredIn (items_declared names env class whole base ks is)
  items_typed env class whole base ks no_items h t knows w inner ns =
      shown (λ l. (reaches_nowhere own env h.fit, ns))
  items_typed env class whole base ks (next_item i is) h t knows w inner ns =
      hence (item_typed env class whole base ks i h t knows w.0
      (inner_opens env class base i inner) ns)
      (λ x. items_before names own x.1 class whole base x.0 is)
      (λ x g q. items_typed x.1 class whole base x.0 is (held_on h g) (type_kept g base t)
      (elements_kept h.fit g base knows) w.1 (inner_on env x.1 g inner) q)

  pub declaration_typed : (env : Env) (d : Declaration) → IsHeld own env → IsWrittenDeclaration d
      → IsInner env
      → Shows own env (AreOwn own) AreDeclaredIn (declaration_checked names env d)
  declaration_typed env (declaration ss is p) h w inner =
      behind (after_both (specifiers_good names bytes own env (has_none is) p ss h.fit w.0)
      (specifiers_elements names bytes own env (has_none is) p ss h.fit)) (λ x g t.
      shows_met {b = not (is_file_scope x.1.scopes && is_automatic (storage_class ss))} _ _
      (λ class.
      shows_met {b = not (has_none is) || declares_tag ss} _ _ (λ some.
      items_typed x.1 (storage_class ss) p x.0 [] is (held_on h g) t.0 t.1 w.1
      (inner_on env x.1 g inner) (none_declared x.1))))

  -- ---- the declarations of a block

  one_typed : (env : Env) (ns : List ℕ) (d : Declaration) → IsHeld own env → IsWrittenDeclaration d
      → IsInner env → AreDeclaredIn ns env
      → Shows own env (AreOwn own) AreDeclaredIn (one_declaration names env ns d)
  one_typed env ns d h w inner q =
      hence (declaration_typed env d h w inner)
      (λ x. gives {x = (ns ++ x.0, x.1)} (λ l. each_right (λ n. own n ≡ true) ns x.0 l))
      (λ x g r. shown (λ l. (
        reaches_nowhere own x.1 g.fit,
        let old : AreDeclaredIn ns x.1 = declared_on env x.1 h g ns q in (
          declared_both (scene_of own x.1) ns x.0 old.0 r.0,
          locals_both x.1 ns x.0 old.1 r.1,
        ),
      )))

  pub declarations_typed : (env : Env) (ns : List ℕ) (ds : Declarations) → IsHeld own env
      → AreWrittenDeclarations ds → IsInner env → AreDeclaredIn ns env
      → Shows own env (AreOwn own) AreDeclaredIn (declarations_checked names env ns ds)
  declarations_typed env ns no_declarations h w inner q =
      shown (λ l. (reaches_nowhere own env h.fit, q))
  declarations_typed env ns (next_declaration d ds) h w inner q =
      hence (one_typed env ns d h w.0 inner q) (λ x. all_before names own x.1 x.0 ds)
      (λ x g r. declarations_typed x.1 x.0 ds (held_on h g) w.1 (inner_on env x.1 g inner) r)
