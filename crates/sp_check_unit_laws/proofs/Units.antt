-- What the checks of a unit accept is typed (C90 6.7).
use Rattle.std.proofs.Common.{◌≡◌, ◌⊎◌, inl, inr, ℕ, ◌≤◌, zero, suc, ◌+◌, ◌||◌, nat_eq, Bool, true, false, length, List, [], ◌∷◌, ◌++◌, Some, None, is_some, refl, ap, sym, subst, ◌∙◌, true≢false, eqb-true, arith}
use Rattle.std.proofs.lemmas.Bool.{not-false}
use Rattle.std.specs.Prelude.{slice_get}
use Rattle.std.specs.List.{list_any}
use Rattle.sp_parse_trees.specs.Syntax.{Specifiers, Declarator, Statement, External, definition, external_declaration, semicolon}
use Rattle.sp_types.specs.Structs.{IsFormed, IsFormedSignature}
use Rattle.sp_types.specs.Types.{CType, void, integer, floating, pointer, array, structure, function, Struct, result_of}
use Rattle.sp_types.specs.Programs.{Object, Function}
use Rattle.sp_types.specs.declared.program.Storage.{Storage}
use Rattle.sp_types.specs.declared.program.Storage.TheVariants.{Static, Outside, Text, Auto, Formal}
use Rattle.sp_types.specs.Statements.{TypedStatement}
use Rattle.sp_base_checked.specs.Answers.{Checked}
use Rattle.sp_check_scopes.specs.Scopes.{is_file_scope}
use Rattle.sp_check_env.specs.declared.env.Entity.TheVariants as entities
use Rattle.sp_check_env.specs.Env.{Env, linked, list_entered, left, set_function, unit_start}
use Rattle.sp_check_mentions.specs.Undefined.{undefined_function}
use Rattle.sp_check_statement_rules.specs.Blocks.{locals_in}
use Rattle.sp_check_statements.specs.Statements.{body_checked}
use Rattle.sp_check_heads.specs.Heads.{Head}
use Rattle.sp_decl_check.specs.Definitions.{defined, body_set, with_body, definition_checked, external_checked, externals_checked}
use Rattle.sp_decl_check.specs.Tentative.{open_tentative}
use Rattle.sp_decl_check.specs.Units.{checked_unit, unit_told}
use Rattle.sp_check_typing.specs.Sorts.{agrees, same_value, IsStored}
use Rattle.sp_check_typing.specs.Trees.{IsCalled}
use Rattle.sp_check_typing.specs.Statements.{labels_in, IsTypedStatement, IsTypedBody}
use Rattle.sp_check_typing.specs.Programs.{lasts}
use Rattle.sp_check_formed_laws.proofs.Lists.{none_some, some_is, Each, each_none, each_appended, each_set, each_pushed, set_length, set_there, set_other, get_below, pushed_before, pushed_last}
use Rattle.sp_check_formed_laws.proofs.Envs.{IsFormedEnv, AreBelow}
use Rattle.sp_check_formed_laws.proofs.Objects.{AreNumbers, Has, has_later, numbers_below}
use Rattle.sp_check_formed_laws.proofs.Updates.{goes_function_set}
use Rattle.sp_check_formed_laws.proofs.Statements.{body_formed}
use Rattle.sp_check_formed_laws.proofs.After.{Gives, gives, gives_then, gives_more}
use Rattle.sp_check_written_laws.specs.Laws.{AreByteNames}
use Rattle.sp_check_expr_laws.specs.Sound.{IsSoundSignature, scene_of, lasting_alone}
use Rattle.sp_check_expr_laws.proofs.Types.{number_equals, or_left, or_right, complete_sized}
use Rattle.sp_check_expr_laws.proofs.Grows.{Grows, called_stays}
use Rattle.sp_check_expr_laws.proofs.Envs.{IsFit, fit_table, around_alike, Follows, IsKeptFunction, KeepObjects, kept_there, Moves, SeesAll, Reaches, reaches_on, scene_grows}
use Rattle.sp_check_expr_laws.proofs.Starts.{IsWaiting, HasStart, HaveStarts, start_stays, starts_more, static_stays}
use Rattle.sp_check_expr_laws.proofs.Named.{AreNamed}
use Rattle.sp_check_expr_laws.proofs.Objects.{set_split}
use Rattle.sp_check_expr_laws.proofs.Updates.{reaches_left}
use Rattle.sp_check_expr_laws.proofs.Law.{fit_of, start_sound}
use Rattle.sp_check_expr_laws.proofs.Leaves.{IsType}
use Rattle.sp_check_written_laws.specs.Statements.{IsWrittenStatement, IsWrittenExternal, AreWrittenExternals}
use Rattle.sp_check_written_laws.specs.Written.{AreWrittenSpecifiers, IsWrittenDeclarator}
use Rattle.sp_check_unit_laws.proofs.Fits.{AreOwn, setting_of}
use Rattle.sp_check_unit_laws.specs.Units.{scene_in, IsUnmeasured, HasUnitStart, IsTypedFunction, IsTypedUnit, UnitsAreTyped}
use Rattle.sp_check_initialiser_laws.proofs.Values.{gives_both}
use Rattle.sp_check_unit_laws.proofs.Held.{IsHeld}
use Rattle.sp_check_unit_laws.proofs.Linkage.{objects_apart, functions_apart, formal_private}
use Rattle.sp_check_unit_laws.proofs.Locals.{AreLocals, locals_moved}
use Rattle.sp_check_unit_laws.proofs.Going.{statement_stays}
use Rattle.sp_check_unit_laws.proofs.Distinct.{AreDistinct, distinct_none, distinct_pushed}
use Rattle.sp_check_formed_laws.proofs.Heads.{head_formed}
use Rattle.sp_check_typing.specs.Programs.{AreOwners}
use Rattle.sp_check_unit_laws.proofs.Owners.{AreThere, ListBelow, owners_none, owners_on, listed_before, listed_below, owners_pushed}
use Rattle.sp_check_unit_laws.proofs.Formals.{AreFormals, formals_on, formals_moved}
use Rattle.sp_check_unit_laws.proofs.Heads.{IsHead, head_good}
use Rattle.sp_check_unit_laws.proofs.Bodies.{where_none_met, IsBody, body_typed}
use Rattle.sp_check_initialiser_laws.proofs.Complete.{member_less}
use Rattle.sp_check_unit_laws.proofs.Files.{IsFiled, file_typed}
use Rattle.sp_check_unit_laws.proofs.Tentative.{external_after, names_after, waits_in, waits_on, IsClosedName, names_closed, waiting_closed}
use Rattle.sp_check_unit_laws.proofs.Begun.{complete_start}
use Rattle.sp_check_operands.specs.Conversions.{is_complete, is_open_struct}
use Rattle.sp_check_typing.specs.Trees.{Scene}

-- ---- types that follow

-- what can be kept, or void, is so as the other
called_follows : (ss : List Struct) (a b : CType)
    → ((t : CType) → agrees a t ≡ true → agrees b t ≡ true) → IsCalled ss a → IsCalled ss b
called_follows ss void b f h = by b (f void refl)
  where
    by : (b : CType) → agrees b void ≡ true → IsCalled ss b
    by void e = tt
    by b e = absurd (true≢false (sym e))
called_follows ss (integer k) b f h = by b (f (integer k) refl)
  where
    by : (b : CType) → agrees b (integer k) ≡ true → IsCalled ss b
    by (integer j) e = tt
    by b e = absurd (true≢false (sym e))
called_follows ss (pointer t) b f h = by b (f (pointer t) refl)
  where
    by : (b : CType) → agrees b (pointer t) ≡ true → IsCalled ss b
    by (pointer u) e = tt
    by b e = absurd (true≢false (sym e))
called_follows ss (structure k) b f h = by b (f (structure k) (number_equals k))
  where
    by : (b : CType) → agrees b (structure k) ≡ true → IsCalled ss b
    by (structure j) e = subst (λ i. IsCalled ss (structure i)) (sym (eqb-true j k e)) h
    by b e = absurd (true≢false (sym e))
called_follows ss (floating k) b f h = absurd h
called_follows ss (array t n) b f h = absurd h
called_follows ss (function s) b f h = absurd h

-- what goes to the one goes to the other
abbrev GoesTo : List Struct → CType → CType → Type 0
GoesTo ss t e = IsStored ss t × (same_value e t ≡ true)

goes_follows : (ss : List Struct) (a b : CType)
    → ((t : CType) → agrees a t ≡ true → agrees b t ≡ true) → (e : CType) → GoesTo ss a e
    → GoesTo ss b e
goes_follows ss (integer k) b f e h = by b (f (integer k) refl) e h.1
  where
    same : (j : _) (e : CType) → same_value e (integer k) ≡ true → same_value e (integer j) ≡ true
    same j (integer i) h = refl
    same j e h = h

    by : (b : CType) → agrees b (integer k) ≡ true → (e : CType)
        → same_value e (integer k) ≡ true → GoesTo ss b e
    by (integer j) x e h = (tt, same j e h)
    by b x e h = absurd (true≢false (sym x))
goes_follows ss (pointer t) b f e h = by b (f (pointer t) refl) e h.1
  where
    same : (u e : CType) → same_value e (pointer t) ≡ true → same_value e (pointer u) ≡ true
    same u (pointer v) h = refl
    same u e h = h

    by : (b : CType) → agrees b (pointer t) ≡ true → (e : CType)
        → same_value e (pointer t) ≡ true → GoesTo ss b e
    by (pointer u) x e h = (tt, same u e h)
    by b x e h = absurd (true≢false (sym x))
goes_follows ss (structure k) b f e h = by b (f (structure k) (number_equals k)) h
  where
    by : (b : CType) → agrees b (structure k) ≡ true → GoesTo ss (structure k) e → GoesTo ss b e
    by (structure j) x h = subst (λ i. GoesTo ss (structure i) e) (sym (eqb-true j k x)) h
    by b x h = absurd (true≢false (sym x))
goes_follows ss void b f e h = absurd h.0
goes_follows ss (floating k) b f e h = absurd h.0
goes_follows ss (array t n) b f e h = absurd h.0
goes_follows ss (function s) b f e h = absurd h.0

-- ---- objects that a function lists

abbrev among : List ℕ → ℕ → Bool
among ns n = list_any (nat_eq n) ns

equals_self : (n : ℕ) → nat_eq n n ≡ true
equals_self n = number_equals n

among_left : (xs ys : List ℕ) → AreOwn (among (xs ++ ys)) xs
among_left [] ys i n at = absurd (none_some n at)
among_left (x ∷ xs) ys zero n at =
    or_left (nat_eq n x) (among (xs ++ ys) n)
    (subst (λ m. nat_eq m x ≡ true) (some_is x n at) (equals_self x))
among_left (x ∷ xs) ys (suc i) n at =
    or_right (nat_eq n x) (among (xs ++ ys) n) (among_left xs ys i n at)

among_right : (xs ys : List ℕ) → AreOwn (among (xs ++ ys)) ys
among_right [] [] i n at = absurd (none_some n at)
among_right [] (y ∷ ys) zero n at =
    or_left (nat_eq n y) (among ys n)
    (subst (λ m. nat_eq m y ≡ true) (some_is y n at) (equals_self y))
among_right [] (y ∷ ys) (suc i) n at =
    or_right (nat_eq n y) (among ys n) (among_right [] ys i n at)
among_right (x ∷ xs) ys i n at =
    or_right (nat_eq n x) (among (xs ++ ys) n) (among_right xs ys i n at)

-- a function has finitely many
abbrev total : List ℕ → ℕ
total [] = 0
total (x ∷ xs) = x + total xs

among_low : (xs : List ℕ) (n : ℕ) → among xs n ≡ true → n ≤ total xs
among_low [] n h = absurd (true≢false (sym h))
among_low (x ∷ xs) n h = by (nat_eq n x) refl h (among_low xs n)
  where
    by : (b : Bool) → nat_eq n x ≡ b → (b || among xs n) ≡ true
        → (among xs n ≡ true → n ≤ total xs) → n ≤ x + total xs
    by true e h g = let same : n ≡ x = eqb-true n x e in omega (arith, same)
    by false e h g = let low : n ≤ total xs = g h in omega (arith, low)

among_partly : (xs : List ℕ) → SeesAll (among xs) → ⊥
among_partly xs all =
    let low : suc (total xs) ≤ total xs = among_low xs (suc (total xs)) (all (suc (total xs))) in
    absurd (omega (arith, low))

-- ---- functions that are defined

pub record IsDefined (env : Env) (g : Function) : Type 0 where
  pub called : IsCalled env.tables.structs (result_of g.of)
  pub formals : AreFormals g.formals env
  pub locals : AreLocals g.locals env
  pub body : TypedStatement
  pub is : g.body ≡ Some body
  pub typed : IsTypedStatement
      (setting_of (among (g.formals ++ g.locals)) (labels_in body) (result_of g.of) env) None body

-- the environment goes on, and the function takes a type that follows
defined_by : (env later : Env) (g f : Function) → IsFormedEnv env
    → ((own : ℕ → Bool) → Grows (scene_of own env) (scene_of own later))
    → KeepObjects env.tables.objects later.tables.objects
    → AreFormals g.formals later → AreLocals g.locals later
    → f.formals ≡ g.formals → f.locals ≡ g.locals → f.body ≡ g.body → Follows g.of f.of
    → IsDefined env g → IsDefined later f
defined_by env later g f formed grows kept formals locals same-formals same-locals same-body follows h =
    let own : ℕ → Bool = among (g.formals ++ g.locals) in
    let lists : f.formals ++ f.locals ≡ g.formals ++ g.locals =
    ap (λ xs. xs ++ f.locals) same-formals ∙ ap (λ xs. g.formals ++ xs) same-locals in
    record {
      called = called_follows later.tables.structs (result_of g.of) (result_of f.of) follows
          (called_stays env.tables.structs later.tables.structs (grows own).stays (result_of g.of)
          h.called);
      formals = subst (λ ns. AreFormals ns later) (sym same-formals) formals;
      locals = subst (λ ns. AreLocals ns later) (sym same-locals) locals;
      body = h.body;
      is = same-body ∙ h.is;
      typed = subst (λ ns. IsTypedStatement
          (setting_of (among ns) (labels_in h.body) (result_of f.of) later) None h.body) (sym lists)
          (statement_stays (scene_of own env) (scene_of own later) formed.table (grows own) kept
          (labels_in h.body) (result_of g.of) (result_of f.of)
          (goes_follows later.tables.structs (result_of g.of) (result_of f.of) follows) None h.body
          h.typed);
    }

-- ---- units so far

-- the objects of these names may wait until the end of the unit
pub record IsUnitEnv (ts ns : List ℕ) (env : Env) : Type 0 where
  pub held : IsHeld lasting_alone env
  pub starts : HaveStarts (waits_in ts env) env
  pub file : is_file_scope env.scopes ≡ true
  pub named : AreNamed env
  -- what has a body is defined
  pub bodied : (k : ℕ) (f : Function) → slice_get env.tables.functions k ≡ Some f
      → is_some f.body ≡ true → (i : ℕ) × (slice_get ns i ≡ Some k)
  pub distinct : AreDistinct ns
  pub owners : AreOwners env.tables.functions ns
  pub defined : Each (λ n. (g : Function) × (slice_get env.tables.functions n ≡ Some g)
      × IsDefined env g) ns

there_of : (ts ns : List ℕ) (env : Env) → IsUnitEnv ts ns env → AreThere env.tables.functions ns
there_of ts ns env u i n at = let x = u.defined i n at in (x.0, x.1)

unit_moved : (ts us ns : List ℕ) (env later : Env) → IsUnitEnv ts ns env → IsFit lasting_alone later
    → Moves env later → HaveStarts (waits_in us later) later → IsUnitEnv us ns later
unit_moved ts us ns env later u fit g starts = record {
  held = record { fit = fit; homes = g.homes u.held.homes };
  starts = starts;
  file = around_alike g ∙ u.file;
  named = g.names.0 u.named;
  bodied = λ k f at body. let y = g.names.1 k f at body in u.bodied k y.0 y.1 y.2;
  distinct = u.distinct;
  owners = owners_on env.tables.functions later.tables.functions ns (there_of ts ns env u) g.kept
      u.owners;
  defined = λ i n at.
      let d = u.defined i n at in
      let y : IsKeptFunction later.tables.functions n d.0 = g.kept n d.0 d.1 in (
        y.function,
        y.there,
        defined_by env later d.0 y.function u.held.fit.formed
            (λ own. scene_grows own env later g u.held.fit.formed) g.objects
            (formals_moved env later u.held.fit.formed g d.0.formals d.2.formals)
            (locals_moved env later u.held.fit.formed g d.0.locals d.2.locals) y.formals
            y.locals y.body y.follows d.2,
      );
}

unit_on : (ts ns : List ℕ) (env later : Env) → IsUnitEnv ts ns env
    → Reaches lasting_alone env later → IsUnitEnv ts ns later
unit_on ts ns env later u g =
    unit_moved ts ts ns env later u g.fit g.moves
    (starts_more (waits_in ts env) (waits_in ts later) later
    (waits_on ts env later g.moves.links)
    (g.starts (waits_in ts env) (λ file k e. absurd (true≢false (sym e))) u.starts))

-- ---- a function takes its body

module _ (ts ns : List ℕ) (env : Env) (u : IsUnitEnv ts ns env) (k : ℕ) (was f : Function)
    (at : slice_get env.tables.functions k ≡ Some was) (bodiless : is_some was.body ≡ false)
    (below : AreBelow (length env.tables.objects) f.formals
    × AreBelow (length env.tables.objects) f.locals) (same : f.of ≡ was.of)
    (name : f.name ≡ was.name)
    (d : IsDefined env f) (from : ℕ) (old : ListBelow from env.tables.functions ns)
    (new : (i n : ℕ) → slice_get (f.formals ++ f.locals) i ≡ Some n → from ≤ n) where
  abbrev later : Env
  later = set_function env k f

  set_grows : (own : ℕ → Bool) → Grows (scene_of own env) (scene_of own later)
  set_grows own = record {
    stays = record { longer = omega arith; complete = λ j s e at h. at };
    functions = omega (arith, set_length env.tables.functions k f);
    names = λ n o at seen. record { object = o; there = at; visible = seen; same = λ t h. h };
  }

  set_defined : (g : Function) → IsDefined env g → IsDefined later g
  set_defined g h =
      defined_by env later g g u.held.fit.formed set_grows (kept_there env.tables.objects)
      (record { formals = h.formals.formals; distinct = h.formals.distinct }) h.locals refl refl
      refl
      (λ t e. e) h

  set_fit : IsFit lasting_alone later
  set_fit = record {
    formed = (goes_function_set env u.held.fit.formed k f (
      subst (λ s. IsFormedSignature env.tables.structs s) (sym same)
          (u.held.fit.formed.functions k was at).0,
      below.0,
      below.1,
    )).formed;
    structs = u.held.fit.structs;
    objects = u.held.fit.objects;
    functions = each_set (λ f. IsSoundSignature f.of) env.tables.functions k f
        u.held.fit.functions
        (subst IsSoundSignature (sym same) (u.held.fit.functions k was at));
    inner = u.held.fit.inner;
    around = u.held.fit.around;
  }

  -- a function that has a body is another
  apart : (i n : ℕ) → slice_get ns i ≡ Some n → k ≡ n → ⊥
  apart i n there is =
      let x = u.defined i n there in
      let old : was ≡ x.0 =
      some_is was x.0 (sym at ∙ ap (slice_get env.tables.functions) is ∙ x.1) in
      true≢false (sym (ap is_some x.2.is) ∙ sym (ap (λ g. is_some g.body) old) ∙ bodiless)

  set_named : (j : ℕ) (x : Function)
      → ((k ≡ j) × (f ≡ x)) ⊎ ((k ≡ j → ⊥) × (slice_get env.tables.functions j ≡ Some x))
      → linked env x.name ≡ Some (entities.Function j)
  set_named j x (inl y) =
      subst (λ z. linked env z.name ≡ Some (entities.Function j)) y.1
      (subst (λ i. linked env f.name ≡ Some (entities.Function i)) y.0
      (ap (λ n. linked env n) name ∙ u.named.1 k was at))
  set_named j x (inr y) = u.named.1 j x y.1

  set_bodied : (j : ℕ) (x : Function)
      → ((k ≡ j) × (f ≡ x)) ⊎ ((k ≡ j → ⊥) × (slice_get env.tables.functions j ≡ Some x))
      → is_some x.body ≡ true → (i : ℕ) × (slice_get (ns ++ k ∷ []) i ≡ Some j)
  set_bodied j x (inl y) body = (length ns, pushed_last ns k ∙ ap (λ i. Some i) y.0)
  set_bodied j x (inr y) body =
      let z = u.bodied j x y.1 body in (z.0, pushed_before ns k j z.0 z.1)

  set_unit : IsUnitEnv ts (ns ++ k ∷ []) later
  set_unit = record {
    held = record { fit = set_fit; homes = u.held.homes };
    starts = λ j o at.
        start_stays (waits_in ts env) env later u.held.fit.formed.table
        (set_grows lasting_alone) j o
        o.storage (u.starts j o at);
    file = u.file;
    named = (
      u.named.0,
      λ j x there. set_named j x (set_split env.tables.functions k f j x there),
    );
    bodied = λ j x there. set_bodied j x (set_split env.tables.functions k f j x there);
    distinct = distinct_pushed ns k u.distinct apart;
    owners = owners_pushed env.tables.functions ns k from was f at apart
        (there_of ts ns env u) old new u.owners;
    defined = each_pushed
        (λ n. (g : Function) × (slice_get later.tables.functions n ≡ Some g) × IsDefined later g) ns
        k
        (λ i n there.
        let x = u.defined i n there in (
          x.0,
          set_other env.tables.functions k f n x.0 (apart i n there) x.1,
          set_defined x.0 x.2,
        )) (
          f,
          set_there env.tables.functions k f (get_below env.tables.functions k was at),
          set_defined f d,
        );
  }

-- ---- definitions

gives_all : {A X : Type 0} {P : X → A → Type 0} {c : Checked A} → ((x : X) → Gives (P x) c)
    → Gives (λ a. (x : X) → P x a) c
gives_all h = record { at = λ a e x. (h x).at a e }

module _ (names : List (List ℕ)) (bytes : AreByteNames names) where
  -- what is known of a body in an environment, whatever the function's own objects are
  abbrev IsBodyBy : Env → CType → (ℕ → Bool) → TypedStatement × Env → Type 0
  IsBodyBy env t own b = IsHeld own env → (SeesAll own → ⊥) → IsType t env
      → is_file_scope env.scopes ≡ false → AreOwn own (locals_in b.0) → IsBody own env t b.0 b.1

  abbrev IsNumbered : ℕ → Env → TypedStatement × Env → Type 0
  IsNumbered from env b = IsFormedEnv env → Has from env → AreNumbers from (locals_in b.0) b.1

  body_known : (from : ℕ) (env : Env) (t : CType) (s : Statement) → IsWrittenStatement s
      → Gives (λ b. ((own : ℕ → Bool) → IsBodyBy env t own b) × IsNumbered from env b)
      (body_checked names env t s)
  body_known from env t s w =
      gives_both (gives_all (λ own. record {
        at = λ b e held partly type inner l.
            (body_typed names bytes own partly env t s held w type inner).at b e l;
      }))
      (record { at = λ b e formed has. ((body_formed names from env t s formed has).at b e).1 })

  defined_unit : (ts ns : List ℕ) (env : Env) (h : Head) (first : Env) (s : TypedStatement)
      (later : Env) → IsUnitEnv ts ns env
      → ((own : ℕ → Bool) → AreOwn own h.own.formals → IsHead own env h first)
      → ((own : ℕ → Bool) → IsBodyBy first (result_of h.own.of) own (s, later))
      → Has (length env.tables.objects) first
      → AreNumbers (length env.tables.objects) h.own.formals first
      → IsNumbered (length env.tables.objects) first (s, later)
      → IsUnitEnv ts (ns ++ h.number ∷ []) (with_body (left later) h s)
  defined_unit ts ns env h first s later u heads bodies has listed numbered =
      let own : ℕ → Bool = among (h.own.formals ++ locals_in s) in
      let hd : IsHead own env h first = heads own (among_left h.own.formals (locals_in s)) in
      let held : IsHeld own first = record {
        fit = hd.to_later.fit;
        homes = hd.to_later.moves.homes (hd.to_file.moves.homes u.held.homes);
      } in
      let bd : IsBody own first (result_of h.own.of) s later =
      bodies own held (among_partly (h.own.formals ++ locals_in s)) hd.type
      (around_alike hd.to_later.moves)
      (among_right h.own.formals (locals_in s)) in
      let out : Reaches lasting_alone hd.file (left later) =
      reaches_left lasting_alone own hd.file later hd.to_file.fit
      (λ all. absurd (true≢false (sym (all 0))))
      (reaches_on own (list_entered hd.file) first later hd.to_later bd.0) in
      let to-out : Reaches lasting_alone env (left later) =
      reaches_on lasting_alone env hd.file (left later) hd.to_file out in
      let before : IsUnitEnv ts ns (left later) = unit_on ts ns env (left later) u to-out in
      let locals : AreNumbers (length env.tables.objects) (locals_in s) later =
      numbered held.fit.formed has in
      let x : IsKeptFunction later.tables.functions h.number hd.function =
      bd.0.moves.kept h.number hd.function hd.there in
      let follows : Follows h.own.of x.function.of =
      λ t e. x.follows t (hd.follows t e) in
      let formals : AreFormals h.own.formals later = formals_on held.fit.formed bd.0 h.own.formals hd.formals in
      let d : IsDefined (left later) (defined x.function h s) = record {
        called = called_follows later.tables.structs (result_of h.own.of)
            (result_of x.function.of) follows
            (called_stays first.tables.structs later.tables.structs
            (scene_grows own first later bd.0.moves held.fit.formed).stays (result_of h.own.of)
            hd.called);
        formals = record { formals = formals.formals; distinct = formals.distinct };
        locals = bd.2;
        body = s;
        is = refl;
        typed = statement_stays (scene_of own later) (scene_of own (left later))
            bd.0.fit.formed.table
            (still own later) (kept_there later.tables.objects)
            (labels_in s) (result_of h.own.of) (result_of x.function.of)
            (goes_follows later.tables.structs (result_of h.own.of) (result_of x.function.of)
            follows) None s bd.1;
      } in
      subst (λ o. IsUnitEnv ts (ns ++ h.number ∷ []) (body_set (left later) h s o)) (sym x.there)
      (set_unit ts ns (left later) before h.number x.function (defined x.function h s) x.there
      (ap is_some x.body ∙ hd.bodiless) (
        λ i n at. let y = formals.formals i n at in get_below later.tables.objects n y.0 y.1,
        numbers_below (length env.tables.objects) later (locals_in s) locals,
      ) refl refl d (length env.tables.objects)
      (λ i n y. listed_below (length env.tables.objects) env.tables.functions ns
      (λ k f at. let w = u.held.fit.formed.functions k f at in (w.1, w.2)) i n
      (listed_before env.tables.functions later.tables.functions ns (there_of ts ns env u)
      to-out.moves.kept i n y))
      (each_appended (λ k. length env.tables.objects ≤ k) h.own.formals (locals_in s)
      (λ i n at. (listed i n at).0) (λ i n at. (locals i n at).0)))
    where
      still : (own : ℕ → Bool) (e : Env) → Grows (scene_of own e) (scene_of own (left e))
      still own e = record {
        stays = record { longer = omega arith; complete = λ j s e at h. at };
        functions = omega arith;
        names = λ n o at seen. record { object = o; there = at; visible = seen; same = λ t h. h };
      }

  abbrev IsUnitSoFar : List ℕ → List ℕ × Env → Type 0
  IsUnitSoFar ts y = IsUnitEnv ts y.0 y.1

  definition_typed : (ts : List ℕ) (env : Env) (ns : List ℕ) (ss : Specifiers) (d : Declarator)
      (s : Statement)
      → IsUnitEnv ts ns env → AreWrittenSpecifiers ss → IsWrittenDeclarator d → IsWrittenStatement s
      → Gives (IsUnitSoFar ts) (definition_checked names env ns ss d s)
  definition_typed ts env ns ss d s u w v z =
      let from : ℕ = length env.tables.objects in
      gives_then (gives_both (gives_all (λ own. head_good names bytes own env ss d u.held.fit w v))
      (record
      { at = (head_formed names from env ss d u.held.fit.formed (omega arith)).at })) (λ h heads.
      gives_then (body_known from h.1 (result_of h.0.own.of) s z) (λ b bodies.
      gives {x = (ns ++ h.0.number ∷ [], with_body (left b.1) h.0 b.0)}
      (defined_unit ts ns env h.0 h.1 b.0 b.1 u heads.0 bodies.0
      (has_later from env h.1 heads.1.0 (omega arith)) heads.1.1 bodies.1)))

  external_typed : (ts : List ℕ) (env : Env) (ns : List ℕ) (e : External) → IsUnitEnv ts ns env
      → IsWrittenExternal e
      → Gives (IsUnitSoFar (external_after ts e)) (external_checked names env ns e)
  external_typed ts env ns (definition ss d s) u w =
      definition_typed ts env ns ss d s u w.0 w.1 w.2
  external_typed ts env ns (external_declaration d) u w =
      let us : List ℕ = external_after ts (external_declaration d) in
      gives_then {Q = λ x. IsFiled env us x.1}
      (gives_more (λ y a. a.1) (file_typed names bytes env d ts u.held u.file w u.starts))
      (λ x q. gives {x = (ns, x.1)} (unit_moved ts us ns env x.1 u q.fit q.moves q.starts))
  external_typed ts env ns semicolon u w = gives {x = (ns, env)} u

  externals_typed : (ts : List ℕ) (env : Env) (ns : List ℕ) (es : List External)
      → IsUnitEnv ts ns env → AreWrittenExternals es
      → Gives (IsUnitSoFar (names_after ts es)) (externals_checked names env ns es)
  externals_typed ts env ns [] u w = gives {x = (ns, env)} u
  externals_typed ts env ns (e ∷ es) u w =
      gives_then (external_typed ts env ns e u w.0)
      (λ x v. externals_typed (external_after ts e) x.1 x.0 es v w.1)

-- ---- the unit

-- what a function sees
or_other : (a b : Bool) → (a || b) ≡ true → (b || a) ≡ true
or_other true true h = refl
or_other true false h = refl
or_other false true h = refl
or_other false false h = h

module _ (env : Env) (ts ns : List ℕ) (u : IsUnitEnv ts ns env)
    (closed : Each (IsClosedName env) ts) where
  sees_grows : (own : List ℕ) → Grows (scene_of (among own) env)
      (scene_in (checked_unit env.tables ns) own)
  sees_grows own = record {
    stays = record { longer = omega arith; complete = λ j s e at h. at };
    functions = omega arith;
    names = λ n o at seen. record {
      object = o;
      there = at;
      visible = or_other (among own n) (lasts (slice_get env.tables.objects n)) seen;
      same = λ t h. h;
    };
  }

  function_typed : (g : Function) → IsDefined env g → IsTypedFunction (checked_unit env.tables ns) g
  function_typed g d = record {
    result = d.called;
    formals = λ i n at. let y = d.formals.formals i n at in
        record {
          object = y.0;
          there = y.1;
          storage = y.2;
          private = formal_private y.0 (u.held.homes n y.0 y.1) y.2;
          sized = y.3;
        };
    distinct = d.formals.distinct;
    locals = λ i n at. let y = d.locals i n at in
        record {
          object = y.object;
          there = y.there;
          private = y.private;
          sized = y.sized;
        };
    bodied = ap is_some d.is;
    body = subst (λ o. IsTypedBody
        (scene_in (checked_unit env.tables ns) (g.formals ++ g.locals)) (result_of g.of) o)
        (sym d.is)
        (statement_stays (scene_of (among (g.formals ++ g.locals)) env)
        (scene_in (checked_unit env.tables ns) (g.formals ++ g.locals)) u.held.fit.formed.table
        (sees_grows (g.formals ++ g.locals)) (kept_there env.tables.objects) (labels_in d.body)
        (result_of g.of) (result_of g.of) (λ e h. h) None d.body d.typed);
  }

  -- start values in the scene of what lasts
  alone_grows : Grows (scene_of lasting_alone env) (scene_in (checked_unit env.tables ns) [])
  alone_grows = record {
    stays = record { longer = omega arith; complete = λ j s e at h. at };
    functions = omega arith;
    names = λ n o at seen. record {
      object = o;
      there = at;
      visible = or_left (lasts (slice_get env.tables.objects n)) false seen;
      same = λ t h. h;
    };
  }

  abbrev alone : Scene
  alone = scene_in (checked_unit env.tables ns) []

  -- what waits until the end is an array whose length isn't told, or its struct is complete by now
  closed_start : (k : ℕ) (o : Object) → slice_get env.tables.objects k ≡ Some o → o.start ≡ []
      → IsFormed env.tables.structs o.of → (t : CType) → o.of ≡ t
      → IsWaiting (waits_in ts env) env.tables.structs k t
      → HasUnitStart (checked_unit env.tables ns) o Static
  closed_start k o at none f (array t None) is h =
      inr (
        none,
        subst (λ z. IsUnmeasured env.tables.structs z) (sym is)
            (complete_sized env.tables.structs (fit_table lasting_alone env u.held.fit) t
            (subst (λ z. IsFormed env.tables.structs z) is f) h).0,
      )
  closed_start k o at none f (structure j) is h =
      let whole : is_complete env.tables.structs (structure j) ≡ true =
      not-false (is_complete env.tables.structs (structure j))
      (subst (λ z. is_open_struct env.tables.structs z ≡ false) is
      (waiting_closed env ts k o closed h at)) in
      inl (complete_start alone (fit_table lasting_alone env u.held.fit) o none f
      (u.held.fit.objects k o at)
      (subst (λ z. is_complete env.tables.structs z ≡ true) (sym is) whole))
  closed_start k o at none f (array t (Some n)) is h = absurd h
  closed_start k o at none f void is h = absurd h
  closed_start k o at none f (integer j) is h = absurd h
  closed_start k o at none f (floating j) is h = absurd h
  closed_start k o at none f (pointer t) is h = absurd h
  closed_start k o at none f (function s) is h = absurd h

  unit_start_of : (k : ℕ) (o : Object) (s : Storage) → slice_get env.tables.objects k ≡ Some o
      → IsFormed env.tables.structs o.of → HasStart (waits_in ts env) env k o s
      → HasUnitStart (checked_unit env.tables ns) o s
  unit_start_of k o Static at f (inl h) =
      inl (static_stays (scene_of lasting_alone env) alone u.held.fit.formed.table alone_grows o h)
  unit_start_of k o Static at f (inr h) = closed_start k o at h.0 f o.of refl h.1
  unit_start_of k o Text at f h =
      static_stays (scene_of lasting_alone env) alone u.held.fit.formed.table alone_grows o h
  unit_start_of k o Outside at f h = h
  unit_start_of k o Auto at f h = tt
  unit_start_of k o Formal at f h = tt

  typed_unit : IsTypedUnit (checked_unit env.tables ns)
  typed_unit = record {
    structs = u.held.fit.formed.table;
    members = λ k s at.
        member_less env.tables.structs s s.members (u.held.fit.formed.table k s at)
        (u.held.fit.structs k s at).0;
    objects = λ n o at. record {
      formed = (u.held.fit.formed.objects n o at).0;
      plain = (u.held.fit.formed.objects n o at).1;
      sound = u.held.fit.objects n o at;
      home = u.held.homes n o at;
      start = unit_start_of n o o.storage at (u.held.fit.formed.objects n o at).0 (u.starts n o at);
    };
    functions = λ n g at.
        ((u.held.fit.formed.functions n g at).0, u.held.fit.functions n g at);
    definitions = λ k n at. let x = u.defined k n at in (x.0, x.1, function_typed x.0 x.2);
    distinct = u.distinct;
    defined = u.bodied;
    apart = objects_apart env u.named;
    named = functions_apart env u.named;
    owners = u.owners;
  }

told_typed : (env : Env) (ns : List ℕ) (us : List External)
    → IsUnitEnv (names_after [] us) ns env → Gives IsTypedUnit (unit_told env ns us)
told_typed env ns us u =
    where_none_met IsTypedUnit (open_tentative env us) _ _ (λ whole.
    where_none_met IsTypedUnit (undefined_function env.tables.objects env.tables.functions) _ _
    (λ e. gives {x = checked_unit env.tables ns} (typed_unit env (names_after [] us) ns u
    (names_closed env [] us (each_none (IsClosedName env)) whole))))

start_unit : IsUnitEnv [] [] unit_start
start_unit = record {
  held = record {
    fit = fit_of lasting_alone unit_start (start_sound lasting_alone);
    homes = λ k o at. absurd (none_some o at);
  };
  starts = λ k o at. absurd (none_some o at);
  file = refl;
  named = (λ k o at. absurd (none_some o at), λ k f at. absurd (none_some f at));
  bodied = λ k f at. absurd (none_some f at);
  distinct = distinct_none;
  owners = owners_none [];
  defined = λ i n at. absurd (none_some n at);
}

pub units_typed : UnitsAreTyped
units_typed names us x bytes w e =
    (gives_then (externals_typed names bytes [] unit_start [] us start_unit
    w)
    (λ y u. told_typed y.1 y.0 us u)).at x e
