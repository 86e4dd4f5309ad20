-- The rules that end specifiers and declarators leave the environment sound (C90 6.5).
use Rattle.std.proofs.Common.{◌≡◌, inr, ℕ, ◌≤◌, ℤ, pos, ◌&&◌, not, Bool, true, false, if◌then◌else◌, length, List, [], ◌∷◌, ◌++◌, Option, Some, None, refl, subst, sym, true≢false, arith}
use Rattle.std.specs.Prelude.{slice_get, slice_set, int_le, ⊤}
use Rattle.sp_tree.specs.declared.fault.Place.{Place}
use Rattle.sp_tree.specs.declared.token.Keyword.TheVariants as words
use Rattle.sp_parse_trees.specs.Syntax.{Specifiers, Declarator, Params}
use Rattle.sp_types.specs.declared.ctype.IntKind.TheVariants.{Int}
use Rattle.sp_types.specs.Types.{CType, void, Parameters, Struct}
use Rattle.sp_types.specs.Typed.{Typed}
use Rattle.sp_types.specs.Structs.{AreFormedParameters}
use Rattle.sp_base_checked.specs.Answers.{Checked, accepted, refused, and_then}
use Rattle.sp_check_operands.specs.Conversions.{is_function, is_complete, is_void}
use Rattle.sp_check_constants.specs.Constants.{constant_of, least, greatest}
use Rattle.sp_check_scopes.specs.declared.meaning.Tag.TheVariants as tags
use Rattle.sp_check_scopes.specs.Meanings.{Meaning, named}
use Rattle.sp_check_scopes.specs.Meanings as means
use Rattle.sp_check_scopes.specs.Scopes.{visible_meaning}
use Rattle.sp_check_env.specs.Env.{Env, with_constant, set_object, list_entered}
use Rattle.sp_check_type_names.specs.Derivations.{Derivation}
use Rattle.sp_check_type_names.specs.Tags.{type_named, named_checked}
use Rattle.sp_check_type_names.specs.Words.{has_word, words_type}
use Rattle.sp_check_members.specs.Enumerators.{with_enum_tag, enumerator}
use Rattle.sp_check_members.specs.Members.{has_member}
use Rattle.sp_check_members.specs.Parameters.{declared_name, adjusted, formal, reserved, named_parameter}
use Rattle.sp_expr_check.specs.Expressions.{length_told}
use Rattle.sp_expr_check.specs.Parameters.{list_told, param_told}
use Rattle.sp_expr_check.specs.Specifiers.{member_added, enumerator_told}
use Rattle.sp_check_formed_laws.proofs.Lists.{none_some, some_is, Each, each_pushed}
use Rattle.sp_check_formed_laws.proofs.Longer.{type_longer}
use Rattle.sp_check_formed_laws.proofs.Derived.{length_positive, step_longer}
use Rattle.sp_check_formed_laws.proofs.Envs.{visible_meant}
use Rattle.sp_check_formed_laws.proofs.Leaves.{words_formed, parameters_told}
use Rattle.sp_check_formed_laws.proofs.After.{accepted_is, Gives, gives, gives_met, gives_given}
use Rattle.sp_check_typing.specs.Programs.{lasts}
use Rattle.sp_check_expr_laws.specs.Sound.{IsSound, AreSoundParameters}
use Rattle.sp_check_expr_laws.proofs.Types.{or_left}
use Rattle.sp_check_expr_laws.proofs.Operators.{IsGood}
use Rattle.sp_check_expr_laws.proofs.Envs.{IsFit, Reaches, reaches_nowhere, reaches_on, visible_fitting}
use Rattle.sp_check_expr_laws.proofs.After.{Any, After, done, after_none, carried, lead, taken, met, given, Leads, leads, leads_met}
use Rattle.sp_check_expr_laws.proofs.Updates.{reaches_constant, reaches_aside, reaches_tagged, IsWider, reaches_left, leads_declared}
use Rattle.sp_check_expr_laws.proofs.Literals.{enumerator_held}
use Rattle.sp_check_expr_laws.proofs.Members.{is_filled, filled_pushed}
use Rattle.sp_check_expr_laws.proofs.Objects.{formal_calm, formal_starts, reaches_set}
use Rattle.sp_check_expr_laws.proofs.Derived.{IsGoodStep, adjusted_good, told_sound}

-- ---- what is formed and sound stays so behind a rule

abbrev pub IsType : CType → Env → Type 0
IsType t env = IsGood env.tables.structs t

abbrev pub AreMembers : List (ℕ × CType) → Env → Type 0
AreMembers ms env = Each (λ m. IsType m.1 env) ms

abbrev pub AreTypes : List CType → Env → Type 0
AreTypes ts env = Each (λ t. IsType t env) ts

abbrev pub AreSteps : List Derivation → Env → Type 0
AreSteps ds env = Each (IsGoodStep env.tables.structs) ds

module _ {own : ℕ → Bool} {env later : Env} (g : Reaches own env later) where
  pub type_kept : (t : CType) → IsType t env → IsType t later
  type_kept t h = (
    type_longer env.tables.structs later.tables.structs g.moves.keeps.longer t h.0,
    h.1,
  )

  pub members_kept : (ms : List (ℕ × CType)) → AreMembers ms env → AreMembers ms later
  members_kept ms h = λ k m at. type_kept m.1 (h k m at)

  pub types_kept : (ts : List CType) → AreTypes ts env → AreTypes ts later
  types_kept ts h = λ k t at. type_kept t (h k t at)

  pub steps_kept : (ds : List Derivation) → AreSteps ds env → AreSteps ds later
  steps_kept ds h = λ k d at. (
    step_longer env.tables.structs later.tables.structs g.moves.keeps.longer d (h k d at).0,
    (h k d at).1,
  )

-- ---- specifiers

either_sound : (b : Bool) (t u : CType) → IsSound t → IsSound u → IsSound (if b then t else u)
either_sound true t u h g = h
either_sound false t u h g = g

pub words_good : (ss : List Struct) (ws : Specifiers) → IsGood ss (words_type ws)
words_good ss ws = (
  words_formed ss ws,
  either_sound (has_word words.Void ws) _ _ tt
      (either_sound (has_word words.Float ws) _ _ tt
      (either_sound (has_word words.Double ws) _ _ tt
      (either_sound (has_word words.Char ws) _ _ tt tt))),
)

pub named_good : (own : ℕ → Bool) (env : Env) (n : ℕ) (at : Place) → IsFit own env
    → Gives (λ t. IsType t env) (named_checked env n at)
named_good own env n at h =
    gives_given {o = type_named (visible_meaning env.scopes n)} _ _
    (λ t e. gives (by t (visible_meaning env.scopes n) refl e))
  where
    by : (t : CType) (o : Option Meaning) → visible_meaning env.scopes n ≡ o → type_named o ≡ Some t
        → IsType t env
    by t None e g = absurd (none_some t g)
    by t (Some (means.object k)) e g = absurd (none_some t g)
    by t (Some (means.function k)) e g = absurd (none_some t g)
    by t (Some (means.constant z)) e g = absurd (none_some t g)
    by t (Some (named u)) e g =
        subst (λ t. IsType t env) (some_is u t g)
        (visible_meant env n (named u) h.formed e, (visible_fitting own env n (named u) h e).0)

-- the members are filled with one more
abbrev pub AreMore : List (ℕ × CType) → Env → Type 0
AreMore ms env = AreMembers ms env × (is_filled ms ≡ true)

pub member_good : (env : Env) (ms : List (ℕ × CType)) (t : CType) (d : Declarator)
    → AreMembers ms env → IsType t env
    → Gives (λ ms. AreMore ms env) (member_added env.tables.structs ms t d)
member_good env ms t d h f =
    gives_met {b = is_complete env.tables.structs t} _ _
    (λ whole. gives_given {o = declared_name d} _ _
    (λ n e. gives_met {b = not (has_member ms n.0)} _ _ (λ new.
    gives (each_pushed (λ m. IsType m.1 env) ms (n.0, t) h f, filled_pushed ms (n.0, t)))))

module _ (own : ℕ → Bool) (env : Env) (h : IsFit own env) where
  pub tag_leads : (tag : Option ℕ) (p : Place) → Leads own env (with_enum_tag env tag p)
  tag_leads None p = leads (reaches_nowhere own env h)
  tag_leads (Some n) p = leads_met _ _ (λ free. leads (reaches_tagged own env h n tags.Enum))

  pub enumerator_sound : (n : ℕ) (p : Place) (z : ℤ) → After own env Any (enumerator env n p z)
  enumerator_sound n p z =
      let g : Reaches own env (with_constant env z) = reaches_constant own env h z in
      met {b = int_le (least Int) z && int_le z (greatest Int)} _ _ (λ fits.
      carried g (lead (leads_declared own (with_constant env z) g.fit n (means.constant z) p tt
      (enumerator_held z fits)) (λ e k. done (reaches_nowhere own e k.fit) tt)))

  pub told_sound_enumerator : (e : Typed) (at : Place) (n : ℕ) (p : Place)
      → After own env Any (enumerator_told env e at n p)
  told_sound_enumerator e at n p = given {o = constant_of e} _ _ (λ z f. enumerator_sound n p z)

  -- ---- declarators

  pub length_sound : (at : Place) (e : Typed)
      → After own env (λ n later. 1 ≤ n) (length_told at e env)
  length_sound at e = taken (length_positive (constant_of e) at)
      (λ n l. done (reaches_constant own env h (pos n)) l)

  pub reaches_reserved : (o : Option (ℕ × Place)) → Reaches own env (reserved env o)
  reaches_reserved None = reaches_nowhere own env h
  reaches_reserved (Some x) =
      reaches_aside own env h (formal x.0 void x.1) refl (tt, refl) tt (inr refl)

abbrev pub AreParameters : Parameters → Env → Type 0
AreParameters ps env = AreFormedParameters env.tables.structs ps × AreSoundParameters ps

-- behind the list of parameters its scope is left
pub list_sound : (own wide : ℕ → Bool) (env later : Env) (ps : Params) (ts : List CType)
    → IsFit own env → IsWider own wide → Reaches wide (list_entered env) later → AreTypes ts later
    → After own env AreParameters (list_told ps ts later)
list_sound own wide env later ps ts h wider g f =
    done (reaches_left own wide env later h (λ all k. wider k (all k)) g) (
      parameters_told later.tables.structs ps ts (λ k t at. (f k t at).0),
      told_sound ps ts
          (λ k t at. (f k t at).1),
    )

-- ---- the entry of a parameter takes its type

-- where there is a name, the entry of this number is a new one, and passes by now
abbrev pub IsNew : (ℕ → Bool) → Env → Env → ℕ → Option (ℕ × Place) → Type 0
IsNew own env later k None = ⊤
IsNew own env later k (Some x) = (length env.tables.objects ≤ k) × (own k ≡ true)
    × (lasts (slice_get later.tables.objects k) ≡ false)

-- the environment behind is reached from the first, and has the structs of the second
record Ends (own : ℕ → Bool) (env later : Env) (c : Checked Env) : Type 0 where
  at : (e : Env) → c ≡ accepted e
      → Reaches own env e × (length later.tables.structs ≤ length e.tables.structs)

longer_good : (ss rs : List Struct) → length ss ≤ length rs → (t : CType) → IsGood ss t
    → IsGood rs t
longer_good ss rs l t h = (type_longer ss rs l t h.0, h.1)

module _ (own : ℕ → Bool) (env later : Env) (k : ℕ) (g : Reaches own env later) where
  parameter_ends : (o : Option (ℕ × Place)) (t : CType) → IsNew own env later k o → IsType t later
      → is_function t ≡ false → Ends own env later (named_parameter later k o t)
  parameter_ends None t new f plain =
      record {
        at = λ e p. subst
            (λ e. Reaches own env e × (length later.tables.structs ≤ length e.tables.structs))
            (accepted_is later e p) (g, omega arith);
      }
  parameter_ends (Some x) t new f plain =
      let s : Reaches own env (set_object later k (formal x.0 t x.1)) =
      reaches_set own env later k (formal x.0 t x.1) g (λ e. absurd (true≢false (sym e)))
      (λ h e. absurd (true≢false (sym e))) new.0
      (or_left (own k) false new.1) f.0 plain f.1
      (λ all. formal_calm later k (formal x.0 t x.1) new.2 refl env new.0 (g.calm all))
      (λ m. formal_starts later k (formal x.0 t x.1) new.2 refl own env g) in
      let l : Leads own (set_object later k (formal x.0 t x.1))
      (named_parameter later k (Some x) t) =
      leads_declared own (set_object later k (formal x.0 t x.1)) s.fit x.0 (means.object k) x.1 tt
      (or_left (own k) (lasts
      (slice_get (slice_set later.tables.objects k (formal x.0 t x.1)) k)) new.1) in
      record {
        at = λ e p. (
          reaches_on own env (set_object later k (formal x.0 t x.1)) e s (l.at e p),
          (l.at e p).moves.keeps.longer,
        );
      }

  ended : (c : Checked Env) (ts : List CType) (t : CType) → AreTypes ts later → IsType t later
      → Ends own env later c → After own env AreTypes (and_then c (λ e. accepted (ts ++ t ∷ [], e)))
  ended (accepted e) ts t f h l =
      let more : length later.tables.structs ≤ length e.tables.structs = (l.at e refl).1 in
      done (l.at e refl).0
      (each_pushed (λ t. IsType t e) ts t
      (λ j u at. longer_good later.tables.structs e.tables.structs more u (f j u at))
      (longer_good later.tables.structs e.tables.structs more t h))
  ended (refused x p) ts t f h l = after_none

  pub parameter_sound : (ts : List CType) (t : CType) (d : Declarator)
      → IsNew own env later k (declared_name d) → AreTypes ts later → IsType t later
      → After own env AreTypes (param_told later k ts t d)
  parameter_sound ts t d new f h =
      let a : IsType (adjusted t) later × (is_function (adjusted t) ≡ false) =
      adjusted_good later.tables.structs t h in
      met {b = not (is_void (adjusted t))} _ _ (λ some.
      ended (named_parameter later k (declared_name d) (adjusted t)) ts (adjusted t) f a.0
      (parameter_ends (declared_name d) (adjusted t) new a.0 a.1))
