-- The declarator of a definition leaves the environment sound, in which its formals are seen
-- (C90 6.7.1).
use Rattle.sp_check_formed_laws.proofs.Envs.{AreMeant, meant_longer, IsFormedEnv}
use Rattle.sp_ir.specs.Terrain.{size_of}
use Rattle.sp_check_typing.specs.Statements.{is_lasting}
use Rattle.sp_check_typing.specs.Programs.{lasts}
use Rattle.sp_check_written_laws.specs.Laws.{AreByteNames}
use Rattle.sp_check_expr_laws.proofs.Grows.{has_size}
use Rattle.std.proofs.Common.{◌≡◌, ℕ, ◌<◌, Bool, true, false, not, ◌&&◌, ◌||◌, if◌then◌else◌, length, List, [], ◌∷◌, ◌++◌, Option, Some, None, refl, ap, sym, ◌∙◌, true≢false, arith, ◌≤◌, subst}
use Rattle.std.specs.Prelude.{slice_get, ⊤}
use Rattle.sp_tree.specs.declared.fault.Place.{Place}
use Rattle.sp_parse_trees.specs.Syntax.{Declarator, declarator, DeclaratorForm, absent, declared, group, pointer, array, function, Param, param, Params, no_params, next_param, MaybeExpression, no_expression, some_expression}
use Rattle.sp_parse_trees.specs.Syntax as syntax
use Rattle.sp_parse_trees.specs.Places.{declarator_place}
use Rattle.sp_types.specs.Types.{CType, void, Signature, signature, Struct, result_of}
use Rattle.sp_types.specs.Types as types
use Rattle.sp_types.specs.Programs.{Object}
use Rattle.sp_types.specs.declared.program.Storage.TheVariants.{Formal}
use Rattle.sp_base_checked.specs.Answers.{Checked, accepted, refused, and_then}
use Rattle.sp_check_operands.specs.Conversions.{is_void, is_floating, is_complete, is_function}
use Rattle.sp_check_binary_rules.specs.Rules.{function_type}
use Rattle.sp_check_scopes.specs.Meanings as means
use Rattle.sp_check_scopes.specs.Scopes.{Scope}
use Rattle.sp_check_env.specs.Env.{Env, list_entered, set_aside, set_object}
use Rattle.sp_check_type_names.specs.Derivations.{Derivation, to_pointer, to_array, to_function, made}
use Rattle.sp_check_members.specs.Parameters.{declared_name, has_parameter_storage, is_lone_void, adjusted, formal, reserved, reserved_number, named_parameter}
use Rattle.sp_expr_check.specs.Expressions.{specifiers_checked, declared_type, length_checked, list_checked}
use Rattle.sp_expr_check.specs.Parameters.{is_alone, told_types}
use Rattle.sp_check_heads.specs.Formals.{Read, formal_told, formal_checked, formals_checked, Steps, no_parameters, own_list, outwards, outer_list, outer_length, is_name, own_steps, form_steps, is_floating_array, Own, own_told, own_declared}
use Rattle.sp_check_typing.specs.Trees.{IsCalled}
use Rattle.sp_check_formed_laws.proofs.Lists.{Each, each_none, each_first, each_pushed, none_some, get_below, set_there, pushed_length, pushed_last, pushed_before}
use Rattle.sp_check_formed_laws.proofs.After.{Gives, gives, gives_then, gives_met, gives_given, gives_either, gives_more, anything}
use Rattle.sp_check_formed_laws.proofs.Leaves.{parameters_told}
use Rattle.sp_check_written_laws.specs.Written.{IsWrittenMaybe, IsWrittenDeclarator, IsWrittenDeclaratorForm, IsWrittenParam, AreWrittenParams}
use Rattle.sp_check_expr_laws.specs.Sound.{lasting_alone}
use Rattle.sp_check_expr_laws.proofs.Types.{or_left, complete_sized}
use Rattle.sp_check_expr_laws.proofs.Envs.{AreFitting, IsFit, fit_table, IsKeptObject, Moves, Reaches, reaches_nowhere, reaches_on, table_stays, all_fitting_on}
use Rattle.sp_check_expr_laws.proofs.After.{Leads}
use Rattle.sp_check_expr_laws.proofs.Updates.{fit_wider, fit_entered, reaches_set_aside, leads_declared}
use Rattle.sp_check_expr_laws.proofs.Objects.{formal_calm, formal_starts, reaches_set}
use Rattle.sp_check_expr_laws.proofs.Derived.{IsGoodStep, adjusted_good, told_sound, made_good}
use Rattle.sp_check_expr_laws.proofs.Functions.{IsGoodSignature}
use Rattle.sp_check_expr_laws.proofs.Leaves.{IsType, AreTypes, AreSteps, type_kept, types_kept, steps_kept, reaches_reserved}
use Rattle.sp_check_expr_laws.proofs.Expressions.{specifiers_good, declared_good, length_good, list_good}
use Rattle.sp_check_unit_laws.proofs.Fits.{AreOwn}
use Rattle.sp_check_unit_laws.proofs.Shows.{Shows, shown, shows_none, parted, hence, behind, shows_taken, shows_met, shows_given, shows_either, ahead, asked}
use Rattle.sp_check_unit_laws.proofs.Distinct.{AreDistinct, distinct_none, distinct_pushed}
use Rattle.sp_check_unit_laws.proofs.Declarations.{signature_in}

-- ---- formals

-- of complete type (6.7.1)
abbrev pub IsFormalIn : Env → ℕ → Type 0
IsFormalIn env n = (o : Object) × (slice_get env.tables.objects n ≡ Some o) × (o.storage ≡ Formal)
    × (1 ≤ size_of env.tables.structs o.of)

formal_moved : (env later : Env) → IsFormedEnv env → Moves env later → (n : ℕ)
    → IsFormalIn env n → IsFormalIn later n
formal_moved env later f g n h =
    let x : IsKeptObject later.tables.objects n h.0 = g.objects n h.0 h.1 in
    let same : x.object ≡ h.0 = x.whole (ap is_lasting h.2) in (
      x.object,
      x.there,
      ap (λ o. o.storage) same ∙ h.2,
      subst (λ o. 1 ≤ size_of later.tables.structs o.of) (sym same)
          (has_size env.tables.structs later.tables.structs
          (table_stays lasting_alone env later g f)
          h.0.of h.3),
    )

pub formal_on : {own : ℕ → Bool} {env later : Env} → IsFormedEnv env → Reaches own env later
    → (n : ℕ) → IsFormalIn env n → IsFormalIn later n
formal_on {env = env} {later = later} f g n h = formal_moved env later f g.moves n h

pub record AreFormals (ns : List ℕ) (env : Env) : Type 0 where
  pub formals : Each (IsFormalIn env) ns
  pub distinct : AreDistinct ns

pub formals_moved : (env later : Env) → IsFormedEnv env → Moves env later → (ns : List ℕ)
    → AreFormals ns env → AreFormals ns later
formals_moved env later f g ns h = record {
  formals = λ i n at. formal_moved env later f g n (h.formals i n at);
  distinct = h.distinct;
}

pub formals_on : {own : ℕ → Bool} {env later : Env} → IsFormedEnv env → Reaches own env later
    → (ns : List ℕ) → AreFormals ns env → AreFormals ns later
formals_on f g ns h = record {
  formals = λ i n at. formal_on f g n (h.formals i n at);
  distinct = h.distinct;
}

pub no_formals : (env : Env) → AreFormals [] env
no_formals env = record { formals = each_none (IsFormalIn env); distinct = distinct_none }

-- the names of a scope, where these objects and those that last are seen
abbrev pub IsSeenScope : (ℕ → Bool) → Scope → Env → Type 0
IsSeenScope own s env = AreMeant env.tables.structs s.names
    × AreFitting own env.tables.structs env.tables.objects s.names

pub scope_on : (own : ℕ → Bool) (env later : Env) → IsFormedEnv env → Moves env later → (s : Scope)
    → IsSeenScope own s env → IsSeenScope own s later
scope_on own env later f g s h = (
  λ k n at. meant_longer env.tables.structs later.tables.structs g.keeps.longer n.1 (h.0 k n at),
  all_fitting_on own env later g f s.names h.1,
)

abbrev IsRead : Read → Env → Type 0
IsRead x env = AreTypes x.types env × AreFormals x.formals env

read_on : {own : ℕ → Bool} {env later : Env} → IsFormedEnv env → Reaches own env later
    → (x : Read) → IsRead x env → IsRead x later
read_on f g x h = (types_kept g x.types h.0, formals_on f g x.formals h.1)

module _ (own : ℕ → Bool) where
  abbrev ReadFits : Read → Type 0
  ReadFits x = AreOwn own x.formals

  -- ---- one parameter: its entry k is new

  module _ (env later : Env) (h : IsFit own env) (g : Reaches own env later) (k : ℕ) (x : Read)
      (new : length env.tables.objects ≡ k) (low : k < length later.tables.objects)
      (passes : lasts (slice_get later.tables.objects k) ≡ false) (r : IsRead x env) where
    formal_apart : (i n : ℕ) → slice_get x.formals i ≡ Some n → k ≡ n → ⊥
    formal_apart i n at same =
        let f : IsFormalIn env n = r.1.formals i n at in
        let below : n < length env.tables.objects = get_below env.tables.objects n f.0 f.1 in
        omega (arith, below, new, same)

    named_shows : (n : ℕ × Place) (t : CType) → IsType t later → is_function t ≡ false
        → 1 ≤ size_of later.tables.structs t → own k ≡ true
        → Shows own env ReadFits IsRead
        (and_then (named_parameter later k (Some n) t) (λ e.
        accepted (record { types = x.types ++ t ∷ []; formals = x.formals ++ k ∷ [] }, e)))
    named_shows n t f plain sized mine =
        let o : Object = formal n.0 t n.1 in
        let a : Env = set_object later k o in
        let to-a : Reaches own env a =
        reaches_set own env later k o g (λ e. absurd (true≢false (sym e)))
        (λ h e. absurd (true≢false (sym e))) (omega (arith, new)) (or_left (own k) false mine)
        f.0 plain f.1
        (λ all. formal_calm later k o passes refl env (omega (arith, new)) (g.calm all))
        (λ m. formal_starts later k o passes refl own env g) in
        let there : slice_get a.tables.objects k ≡ Some o =
        set_there later.tables.objects k o low in
        lead_on a to-a (leads_declared own a to-a.fit n.0 (means.object k) n.1 tt
        (or_left (own k) (lasts (slice_get a.tables.objects k)) mine)) (λ e j.
        let to-e : Reaches own env e = reaches_on own env a e to-a j in
        shown (λ l. (
          to-e,
          (
            each_pushed (λ t. IsType t e) x.types t (types_kept to-e x.types r.0)
                (type_kept j t (type_kept_set a t f)),
            record {
              formals = each_pushed (IsFormalIn e) x.formals k
                  (λ i n at. formal_on h.formed to-e n (r.1.formals i n at))
                  (formal_on to-a.fit.formed j k (o, there, refl, sized));
              distinct = distinct_pushed x.formals k r.1.distinct formal_apart;
            },
          ),
        )))
      where
        type_kept_set : (a : Env) (t : CType) → IsType t later
            → IsType t (set_object later k (formal n.0 t n.1))
        type_kept_set a t h = h

        lead_on : {A : Type 0} {L : A → Type 0} {P : A → Env → Type 0} (a : Env) → Reaches own env a
            → {c : Checked Env}
            {f : Env → Checked (A × Env)} → Leads own a c
            → ((e : Env) → Reaches own a e → Shows own env L P (f e))
            → Shows own env L P (and_then c f)
        lead_on a to-a {c = accepted e} h g = g e (h.at e refl)
        lead_on a to-a {c = refused y p} h g = shows_none

    told_shows : (t : CType) (d : Declarator) → IsType t later
        → Shows own env ReadFits IsRead (formal_told later k x t d)
    told_shows t d f =
        let a : IsType (adjusted t) later × (is_function (adjusted t) ≡ false) =
        adjusted_good later.tables.structs t f in
        shows_met {b = not (is_void (adjusted t))} _ _ (λ some.
        shows_given {o = declared_name d} _ _ (λ n e.
        shows_met {b = not (is_floating (adjusted t))} _ _ (λ kind.
        shows_met {b = is_complete later.tables.structs (adjusted t)} _ _ (λ whole.
        asked (named_shows n (adjusted t) a.0 a.1
        (complete_sized later.tables.structs (fit_table own later g.fit) (adjusted t) a.0.0 whole).0)
        (gives_then {Q = λ e. ⊤} {c = named_parameter later k (Some n) (adjusted t)} anything
        (λ e u. gives {x = (
          record {
            types = x.types ++ adjusted t ∷ [];
            formals =
                x.formals ++ k ∷ [];
          },
          e,
        )}
        (λ l. l (length x.formals) k (pushed_last x.formals k))))))))

module _ (names : List (List ℕ)) (bytes : AreByteNames names) (own : ℕ → Bool) where
  formal_shows : (env : Env) (alone : Bool) (x : Read) (q : Param) → IsFit own env
      → IsWrittenParam q → IsRead x env
      → Shows own env (ReadFits own) IsRead (formal_checked names env alone x q)
  formal_shows env alone x (param ss d) h w f =
      let r : Env = reserved env (declared_name d) in
      let to-r : Reaches own env r = reaches_reserved own env h (declared_name d) in
      shows_met _ _ (λ class. ahead
      (specifiers_good names bytes own r false (declarator_place d) ss to-r.fit w.0) (λ b g t.
      let to-b : Reaches own env b.1 = reaches_on own env r b.1 to-r g in
      shows_either {b = alone && is_lone_void b.0 d}
      (λ lone. shown (λ l. (to-b, read_on h.formed to-b x f)))
      (λ more. ahead (declared_good names bytes own b.1 b.0 d g.fit w.1 t) (λ u k v.
      let to-u : Reaches own env u.1 = reaches_on own env b.1 u.1 to-b k in
      named_only env (declared_name d) u.1 x u.0 d refl
      (λ n e. told_shows own env u.1 h to-u (reserved_number env (declared_name d)) x
      (number_is env (declared_name d) n e)
      (let low : reserved_number env (declared_name d) < length r.tables.objects =
      reserved_there env (declared_name d) n e in
      omega (arith, low, g.moves.keeps.objects, k.moves.keeps.objects))
      (still_passing env (declared_name d) n e u.1 (reaches_on own r b.1 u.1 g k)) f u.0 d v)))))
    where
      -- the entry passes until the type is read
      still_passing : (env : Env) (o : Option (ℕ × Place)) (n : ℕ × Place) → o ≡ Some n
          → (later : Env) → Reaches own (reserved env o) later
          → lasts (slice_get later.tables.objects (reserved_number env o)) ≡ false
      still_passing env None n e later g = absurd (none_some n e)
      still_passing env (Some x) n e later g =
          let o : Object = formal x.0 void x.1 in
          let y : IsKeptObject later.tables.objects (length env.tables.objects) o =
          g.moves.objects (length env.tables.objects) o (pushed_last env.tables.objects o) in
          ap lasts y.there ∙ ap (λ z. is_lasting z.storage) (y.whole refl)

      number_is : (env : Env) (o : Option (ℕ × Place)) (n : ℕ × Place) → o ≡ Some n
          → length env.tables.objects ≡ reserved_number env o
      number_is env None n e = absurd (none_some n e)
      number_is env (Some x) n e = refl

      reserved_there : (env : Env) (o : Option (ℕ × Place)) (n : ℕ × Place) → o ≡ Some n
          → reserved_number env o < length (reserved env o).tables.objects
      reserved_there env None n e = absurd (none_some n e)
      reserved_there env (Some x) n e =
          omega (arith, pushed_length env.tables.objects (formal x.0 void x.1))

      -- a parameter without a name is refused
      named_only : (env : Env) (o : Option (ℕ × Place)) (later : Env) (x : Read) (t : CType)
          (d : Declarator) → declared_name d ≡ o
          → ((n : ℕ × Place) → o ≡ Some n
          → Shows own env (ReadFits own) IsRead (formal_told later (reserved_number env o) x t d))
          → Shows own env (ReadFits own) IsRead (formal_told later (reserved_number env o) x t d)
      named_only env (Some n) later x t d e h = h n refl
      named_only env None later x t d e h =
          shows_met {b = not (is_void (adjusted t))} _ _ (λ some.
          shows_given {o = declared_name d} _ _ (λ n g.
          absurd (none_some n (sym e ∙ g))))

  formal_before : (env : Env) (alone : Bool) (x : Read) (q : Param)
      → Gives (λ y. ReadFits own y.0 → ReadFits own x) (formal_checked names env alone x q)
  formal_before env alone x (param ss d) =
      gives_met {b = has_parameter_storage ss} _ _ (λ class.
      gives_then {Q = λ b. ⊤}
      {c = specifiers_checked names (reserved env (declared_name d)) false (declarator_place d) ss}
      anything (λ b t. rest_before b))
    where
      told_before : (later : Env) (k : ℕ) (t : CType)
          → Gives (λ y. ReadFits own y.0 → ReadFits own x) (formal_told later k x t d)
      told_before later k t =
          gives_met {b = not (is_void (adjusted t))} _ _ (λ some.
          gives_given {o = declared_name d} _ _ (λ n e.
          gives_met {b = not (is_floating (adjusted t))} _ _ (λ kind.
          gives_met {b = is_complete later.tables.structs (adjusted t)} _ _ (λ whole.
          gives_then {Q = λ e. ⊤} {c = named_parameter later k (Some n) (adjusted t)} anything
          (λ e u. gives {x = (
            record {
              types = x.types ++ adjusted t ∷ [];
              formals =
                  x.formals ++ k ∷ [];
            },
            e,
          )}
          (λ l i m at. l i m (pushed_before x.formals k m i at)))))))

      rest_before : (b : CType × Env) → Gives (λ y. ReadFits own y.0 → ReadFits own x)
          (if alone && is_lone_void b.0 d then accepted (x, b.1)
          else and_then (declared_type names b.1 b.0 d)
          (λ t. formal_told t.1 (reserved_number env (declared_name d)) x t.0 d))
      rest_before b =
          gives_either {b = alone && is_lone_void b.0 d} (λ lone. gives {x = (x, b.1)} (λ l. l))
          (λ more. gives_then {Q = λ b. ⊤} {c = declared_type names b.1 b.0 d} anything (λ u v.
          told_before u.1 (reserved_number env (declared_name d)) u.0))

  formals_before : (env : Env) (alone : Bool) (x : Read) (ps : Params)
      → Gives (λ y. ReadFits own y.0 → ReadFits own x) (formals_checked names env alone x ps)
  formals_before env alone x no_params = gives {x = (x, env)} (λ l. l)
  formals_before env alone x (next_param q qs) =
      gives_then (formal_before env alone x q) (λ y b.
      gives_more (λ z c l. b (c l)) (formals_before y.1 alone y.0 qs))

  formals_shows : (env : Env) (alone : Bool) (x : Read) (ps : Params) → IsFit own env
      → AreWrittenParams ps → IsRead x env
      → Shows own env (ReadFits own) IsRead (formals_checked names env alone x ps)
  formals_shows env alone x no_params h w f = shown (λ l. (reaches_nowhere own env h, f))
  formals_shows env alone x (next_param q qs) h w f =
      hence (formal_shows env alone x q h w.0 f) (λ y. formals_before y.1 alone y.0 qs)
      (λ y g r. formals_shows y.1 alone y.0 qs g.fit w.1 r)

  -- ---- the parts of the declarator

  abbrev StepsFit : Steps → Type 0
  StepsFit x = AreOwn own x.formals

  abbrev AreOwnSteps : Steps → Env → Type 0
  AreOwnSteps x env = AreSteps x.steps env × AreFormals x.formals env × IsSeenScope own x.scope env

  -- behind the list its scope is set aside, and of the file's what lasts is seen
  list_shows : (env : Env) (p : Place) (ps : Params) (dots : Bool) → IsFit lasting_alone env
      → AreWrittenParams ps
      → Shows lasting_alone env StepsFit AreOwnSteps (own_list names env p ps dots)
  list_shows env p ps dots h w =
      let wide : IsFit own env =
      fit_wider lasting_alone own env (λ i e. absurd (true≢false (sym e))) h in
      parted (formals_shows (list_entered env) (is_alone ps dots) no_parameters ps
      (fit_entered own env wide) w (each_none (λ t. IsType t env), no_formals (list_entered env)))
      (λ y. gives {x = (
        record {
          steps = to_function (told_types ps y.0.types) dots p ∷ [];
          formals = y.0.formals;
          scope = y.1.scopes.inner;
        },
        set_aside y.1,
      )} (λ l. l))
      (λ y k r. shown (λ l. (
        reaches_set_aside lasting_alone own env y.1 h
            (λ all. absurd (true≢false (sym (all 0)))) k,
        (
          each_first (IsGoodStep y.1.tables.structs) (to_function (told_types ps y.0.types) dots p)
              [] (
                parameters_told y.1.tables.structs ps y.0.types (λ i t at. (r.0 i t at).0),
                told_sound ps y.0.types (λ i t at. (r.0 i t at).1),
              ) (each_none (IsGoodStep y.1.tables.structs)),
          record { formals = r.1.formals; distinct = r.1.distinct },
          (k.fit.formed.inner, k.fit.inner),
        ),
      )))

  -- a further derivation
  one_more : (x : Steps × Env) (later : Env) (d : Derivation) → IsFormedEnv x.1
      → Reaches lasting_alone x.1 later → AreOwnSteps x.0 x.1 → IsGoodStep later.tables.structs d
      → AreOwnSteps (outwards x.0 d) later
  one_more x later d f g q s = (
    each_pushed (IsGoodStep later.tables.structs) x.0.steps d (steps_kept g x.0.steps q.0) s,
    formals_on f g x.0.formals q.1,
    scope_on own x.1 later f g.moves x.0.scope q.2,
  )

  outer_list_shows : (p : Place) (f : DeclaratorForm) (dots : Bool) (x : Steps × Env)
      → IsFit lasting_alone x.1 → IsWrittenDeclaratorForm f → AreOwnSteps x.0 x.1
      → Shows lasting_alone x.1 StepsFit AreOwnSteps (outer_list names p f dots x)
  outer_list_shows p f dots x h w q =
      behind (list_good names bytes lasting_alone x.1 f h w) (λ l k r.
      shown (λ fits. (
        reaches_nowhere lasting_alone l.1 k.fit,
        one_more x l.1 (to_function l.0 dots p) h.formed k q r,
      )))

  outer_length_shows : (p : Place) (e : MaybeExpression) (x : Steps × Env)
      → IsFit lasting_alone x.1 → IsWrittenMaybe e → AreOwnSteps x.0 x.1
      → Shows lasting_alone x.1 StepsFit AreOwnSteps (outer_length names p e x)
  outer_length_shows p no_expression x h w q =
      let r : Reaches lasting_alone x.1 x.1 = reaches_nowhere lasting_alone x.1 h in
      shown (λ fits. (r, one_more x x.1 (to_array None p) h.formed r q (tt, tt)))
  outer_length_shows p (some_expression e) x h w q =
      behind (length_good names bytes lasting_alone x.1 e h w) (λ n k l.
      shown (λ fits. (
        reaches_nowhere lasting_alone n.1 k.fit,
        one_more x n.1 (to_array (Some n.0) p) h.formed k q (l, tt),
      )))

  -- the formals stay
  list_before : (p : Place) (f : DeclaratorForm) (dots : Bool) (x : Steps × Env)
      → Gives (λ y. StepsFit y.0 → StepsFit x.0) (outer_list names p f dots x)
  list_before p f dots x =
      gives_then {Q = λ l. ⊤} {c = list_checked names x.1 f} anything (λ l t.
      gives {x = (outwards x.0 (to_function l.0 dots p), l.1)} (λ q. q))

  length_before : (p : Place) (e : MaybeExpression) (x : Steps × Env)
      → Gives (λ y. StepsFit y.0 → StepsFit x.0) (outer_length names p e x)
  length_before p no_expression x = gives {x = (outwards x.0 (to_array None p), x.1)} (λ q. q)
  length_before p (some_expression e) x =
      gives_then {Q = λ n. ⊤} {c = length_checked names x.1 e} anything (λ n t.
      gives {x = (outwards x.0 (to_array (Some n.0) p), n.1)} (λ q. q))

  mutual
    own_steps_show : (env : Env) (at : Place) (d : Declarator) → IsFit lasting_alone env
        → IsWrittenDeclarator d
        → Shows lasting_alone env StepsFit AreOwnSteps (own_steps names env at d)
    own_steps_show env at (declarator f p) h w = form_steps_show env at p f h w

    form_steps_show : (env : Env) (at p : Place) (f : DeclaratorForm) → IsFit lasting_alone env
        → IsWrittenDeclaratorForm f
        → Shows lasting_alone env StepsFit AreOwnSteps (form_steps names env at p f)
    form_steps_show env at p (group d) h w = own_steps_show env at d h w
    form_steps_show env at p (syntax.pointer qs d) h w =
        hence (own_steps_show env at d h w)
        (λ x. gives {x = (outwards x.0 to_pointer, x.1)} (λ l. l))
        (λ x g q.
        let r : Reaches lasting_alone x.1 x.1 = reaches_nowhere lasting_alone x.1 g.fit in
        shown (λ l. (r, one_more x x.1 to_pointer g.fit.formed r q (tt, tt))))
    form_steps_show env at p (syntax.function d ps dots) h w =
        shows_either {b = is_name d} (λ e. list_shows env p ps dots h w.1)
        (λ e. hence (own_steps_show env at d h w.0) (list_before p (syntax.function d ps dots) dots)
        (λ x g q. outer_list_shows p (syntax.function d ps dots) dots x g.fit w q))
    form_steps_show env at p (syntax.array d e) h w =
        hence (own_steps_show env at d h w.0) (length_before p e)
        (λ x g q. outer_length_shows p e x g.fit w.1 q)
    form_steps_show env at p absent h w = shows_none
    form_steps_show env at p (declared n) h w = shows_none

  -- ---- the whole declarator

  abbrev pub OwnFits : Own × Scope → Type 0
  OwnFits o = AreOwn own o.0.formals

  pub record IsOwn (o : Own × Scope) (env : Env) : Type 0 where
    pub good : IsGoodSignature env.tables.structs o.0.of
    pub called : IsCalled env.tables.structs (result_of o.0.of)
    pub formals : AreFormals o.0.formals env
    pub scope : IsSeenScope own o.1 env

  result_called : (env : Env) (s : Signature) → IsFit lasting_alone env
      → IsGoodSignature env.tables.structs s
      → not (is_floating_array (result_of s)) ≡ true
      → (is_void (result_of s) || is_complete env.tables.structs (result_of s)) ≡ true
      → IsCalled env.tables.structs (result_of s)
  result_called env (signature types.void ps v) h f kind whole = tt
  result_called env (signature (types.integer k) ps v) h f kind whole = tt
  result_called env (signature (types.pointer t) ps v) h f kind whole = tt
  result_called env (signature (types.structure k) ps v) h f kind whole =
      (complete_sized env.tables.structs (fit_table lasting_alone env h) (types.structure k) f.0.0 whole).0
  result_called env (signature (types.floating k) ps v) h f kind whole =
      absurd (true≢false (sym kind))
  result_called env (signature (types.array t n) ps v) h f kind whole =
      absurd (true≢false f.1.0)
  result_called env (signature (types.function s) ps v) h f kind whole =
      absurd (true≢false (sym whole))

  told_own : (env : Env) (at : Place) (n : ℕ × Place) (ks : List ℕ) (scope : Scope) (t : CType)
      → IsFit lasting_alone env → AreFormals ks env → IsSeenScope own scope env → IsType t env
      → Gives (λ o. (AreOwn own o.formals → AreOwn own ks) × IsOwn (o, scope) env)
      (own_told env.tables.structs at n ks t)
  told_own env at n ks scope t h g seen f =
      gives_given {o = function_type t} _ _ (λ s e.
      let good : IsGoodSignature env.tables.structs s = signature_in env t s f e in
      gives_met {b = not (is_floating_array (result_of s))} _ _ (λ kind.
      gives_met {b = is_void (result_of s) || is_complete env.tables.structs (result_of s)} _ _
      (λ whole. gives {x = record { name = n.0; place = n.1; of = s; formals = ks }} (
        λ l. l,
        record {
          good = good;
          called = result_called env s h good kind whole;
          formals = g;
          scope = seen;
        },
      ))))

  pub own_shows : (env : Env) (base : CType) (d : Declarator) → IsFit lasting_alone env
      → IsWrittenDeclarator d → IsType base env
      → Shows lasting_alone env OwnFits IsOwn (own_declared names env base d)
  own_shows env base d h w t =
      shows_given {o = declared_name d} _ _ (λ n e.
      hence (own_steps_show env (declarator_place d) d h w)
      (λ x. gives_then {Q = λ u. ⊤}
      {c = made x.1.tables.structs (declarator_place d) x.0.steps base} anything (λ u v.
      gives_then (own_kept x.1.tables.structs n x.0.formals u) (λ o b. gives {x = ((o, x.0.scope), x.1)} b)))
      (λ x g q.
      shows_taken (made_good x.1.tables.structs (declarator_place d) x.0.steps base q.0
      (type_kept g base t)) (λ u m.
      shows_taken (told_own x.1 (declarator_place d) n x.0.formals x.0.scope u g.fit q.1 q.2 m)
      (λ o f. shown (λ l. (reaches_nowhere lasting_alone x.1 g.fit, f.1))))))
    where
      own_kept : (ss : List Struct) (n : ℕ × Place) (ks : List ℕ) (t : CType)
          → Gives (λ o. AreOwn own o.formals → AreOwn own ks)
          (own_told ss (declarator_place d) n ks t)
      own_kept ss n ks t =
          gives_given {o = function_type t} _ _ (λ s e.
          gives_met {b = not (is_floating_array (result_of s))} _ _ (λ kind.
          gives_met {b = is_void (result_of s) || is_complete ss (result_of s)} _ _ (λ whole.
          gives {x = record { name = n.0; place = n.1; of = s; formals = ks }} (λ l. l))))
