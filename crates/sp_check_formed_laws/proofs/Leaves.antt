-- The rules that end expressions, specifiers and declarators leave the environment formed
-- (C90 6.1, 6.3, 6.5).
use Rattle.std.proofs.Common.{◌≡◌, ℕ, ◌+◌, ◌≤◌, ◌^◌, nat_le, ℤ, pos, Bool, true, false, if◌then◌else◌, length, List, Option, Some, None, refl, subst, arith}
use Rattle.std.specs.Prelude.{not, ◌&&◌, int_le}
use Rattle.sp_check_members.specs.Members.{has_member}
use Rattle.sp_tree.specs.declared.fault.Place.{Place}
use Rattle.sp_tree.specs.declared.token.Keyword.TheVariants as words
use Rattle.sp_parse_trees.specs.Syntax.{Expression, expression, Specifiers, Declarator, Params, no_params, next_param}
use Rattle.sp_parse_trees.specs.Syntax as syntax
use Rattle.sp_types.specs.declared.ctype.IntKind.TheVariants.{Char, Int}
use Rattle.sp_types.specs.Types.{CType, void, integer, Parameters, Struct}
use Rattle.sp_types.specs.Typed.{Typed}
use Rattle.sp_types.specs.Layout.{layout}
use Rattle.sp_types.specs.Structs.{IsFormed, AreFormedParameters}
use Rattle.sp_check_operands.specs.Conversions.{is_function, is_complete}
use Rattle.sp_check_constants.specs.Constants.{constant_of, least, greatest}
use Rattle.sp_check_scopes.specs.declared.meaning.Tag.TheVariants as tags
use Rattle.sp_check_scopes.specs.Meanings.{Meaning, named}
use Rattle.sp_check_scopes.specs.Meanings as means
use Rattle.sp_check_scopes.specs.Scopes.{visible_meaning}
use Rattle.sp_check_env.specs.Env.{Env, with_constant, with_object, set_object}
use Rattle.sp_check_type_names.specs.Tags.{type_named, named_checked}
use Rattle.sp_check_type_names.specs.Words.{has_word, words_type}
use Rattle.sp_check_members.specs.Enumerators.{with_enum_tag, enumerator}
use Rattle.sp_check_members.specs.Parameters.{declared_name, adjusted, formal, reserved, named_parameter}
use Rattle.sp_check_primaries.specs.Literals.{size_checked, text_bytes, text_object, with_text, text_checked}
use Rattle.sp_expr_check.specs.Expressions.{with_implicit, length_told}
use Rattle.sp_expr_check.specs.Parameters.{told_types, list_told, param_told}
use Rattle.sp_expr_check.specs.Specifiers.{member_added, enumerator_told}
use Rattle.sp_check_formed_laws.proofs.Lists.{none_some, some_is, Each, each_pushed}
use Rattle.sp_check_formed_laws.proofs.Longer.{type_longer}
use Rattle.sp_check_formed_laws.proofs.Composites.{array_formed}
use Rattle.sp_check_formed_laws.proofs.Derived.{length_positive, types_formed, adjusted_formed}
use Rattle.sp_check_formed_laws.proofs.Envs.{IsFormedEnv, Goes, goes_nowhere, goes_on, visible_meant}
use Rattle.sp_check_formed_laws.proofs.After.{Any, Gives, gives, gives_met, gives_given, After, done, carried, lead, taken, met, given, Leads, leads, leads_carried, leads_met}
use Rattle.sp_check_formed_laws.proofs.Updates.{goes_constant, goes_object, goes_object_set, goes_tagged, goes_left, leads_declared}
use Rattle.sp_check_formed_laws.proofs.Functions.{implicit_formed}
use Rattle.sp_check_formed_laws.proofs.Braces.{IsType}

-- ---- what is formed stays so behind a rule

abbrev pub AreMembers : List (ℕ × CType) → Env → Type 0
AreMembers ms env = Each (λ m. IsFormed env.tables.structs m.1) ms

abbrev pub AreTypes : List CType → Env → Type 0
AreTypes ts env = Each (λ t. IsFormed env.tables.structs t) ts

module _ (env later : Env) (g : Goes env later) where
  pub type_kept : (t : CType) → IsType t env → IsType t later
  type_kept t h = type_longer env.tables.structs later.tables.structs g.keeps.longer t h

  pub members_kept : (ms : List (ℕ × CType)) → AreMembers ms env → AreMembers ms later
  members_kept ms h = λ k m at. type_kept m.1 (h k m at)

  pub types_kept : (ts : List CType) → AreTypes ts env → AreTypes ts later
  types_kept ts h = λ k t at. type_kept t (h k t at)

-- ---- literals and names

pub size_formed : (env : Env) (p m : Place) (t : CType) → IsFormedEnv env → After env Any (size_checked env p m t)
size_formed env p m t h = given {o = layout env.tables.structs t} _ _ (λ e g. done (goes_constant env h (pos e.size)) tt)

pub text_formed : (names : List (List ℕ)) (env : Env) (ns : List ℕ) (p m : Place) → IsFormedEnv env → After env Any (text_checked names env ns p m)
text_formed names env ns p m h =
    let o = text_object (text_bytes names ns) p in
    let g : Goes env (with_object env o) = goes_object env h o (array_formed env.tables.structs (integer Char) (length (text_bytes names ns) + 1) tt (omega arith), refl) in
    met {b = nat_le (length (text_bytes names ns) + 1) (2 ^ 40)} _ _ (λ small.
    done (goes_on env (with_object env o) (with_text env (text_bytes names ns) p) g (goes_constant (with_object env o) g.formed (pos (length (text_bytes names ns) + 1)))) tt)

pub call_formed : (names : List (List ℕ)) (env : Env) (e : Expression) → IsFormedEnv env → Leads env (with_implicit names env e)
call_formed names env (expression (syntax.name n) p m) h = implicit_formed names env n p h
call_formed names env e h = leads (goes_nowhere env h)

-- ---- specifiers

either_formed : (ss : List Struct) (b : Bool) (t u : CType) → IsFormed ss t → IsFormed ss u → IsFormed ss (if b then t else u)
either_formed ss true t u h g = h
either_formed ss false t u h g = g

pub words_formed : (ss : List Struct) (ws : Specifiers) → IsFormed ss (words_type ws)
words_formed ss ws =
    either_formed ss (has_word words.Void ws) _ _ tt
    (either_formed ss (has_word words.Float ws) _ _ tt
    (either_formed ss (has_word words.Double ws) _ _ tt
    (either_formed ss (has_word words.Char ws) _ _ tt tt)))

pub named_formed : (env : Env) (n : ℕ) (at : Place) → IsFormedEnv env → Gives (λ t. IsType t env) (named_checked env n at)
named_formed env n at h = gives_given {o = type_named (visible_meaning env.scopes n)} _ _ (λ t e. gives (by t (visible_meaning env.scopes n) refl e))
  where
    by : (t : CType) (o : Option Meaning) → visible_meaning env.scopes n ≡ o → type_named o ≡ Some t → IsType t env
    by t None e g = absurd (none_some t g)
    by t (Some (means.object k)) e g = absurd (none_some t g)
    by t (Some (means.function k)) e g = absurd (none_some t g)
    by t (Some (means.constant z)) e g = absurd (none_some t g)
    by t (Some (named u)) e g = subst (λ t. IsType t env) (some_is u t g) (visible_meant env n (named u) h e)

pub member_formed : (env : Env) (ms : List (ℕ × CType)) (t : CType) (d : Declarator) → AreMembers ms env → IsType t env
    → Gives (λ ms. AreMembers ms env) (member_added env.tables.structs ms t d)
member_formed env ms t d h f =
    gives_met {b = is_complete env.tables.structs t} _ _ (λ whole. gives_given {o = declared_name d} _ _ (λ n e. gives_met {b = not (has_member ms n.0)} _ _ (λ new.
    gives (each_pushed (λ m. IsFormed env.tables.structs m.1) ms (n.0, t) h f))))

pub tag_formed : (env : Env) (tag : Option ℕ) (p : Place) → IsFormedEnv env → Leads env (with_enum_tag env tag p)
tag_formed env None p h = leads (goes_nowhere env h)
tag_formed env (Some n) p h = leads_met _ _ (λ free. leads (goes_tagged env h n tags.Enum))

pub enumerator_formed : (env : Env) (n : ℕ) (p : Place) (z : ℤ) → IsFormedEnv env → After env Any (enumerator env n p z)
enumerator_formed env n p z h =
    let g : Goes env (with_constant env z) = goes_constant env h z in
    met {b = int_le (least Int) z && int_le z (greatest Int)} _ _ (λ fits. carried g (lead (leads_declared (with_constant env z) g.formed n (means.constant z) p tt) (λ e k. done (goes_nowhere e k.formed) tt)))

pub told_formed : (env : Env) (e : Typed) (at : Place) (n : ℕ) (p : Place) → IsFormedEnv env → After env Any (enumerator_told env e at n p)
told_formed env e at n p h = given {o = constant_of e} _ _ (λ z f. enumerator_formed env n p z h)

-- ---- declarators

pub length_formed : (at : Place) (e : Typed) (env : Env) → IsFormedEnv env → After env (λ n later. 1 ≤ n) (length_told at e env)
length_formed at e env h = taken (length_positive (constant_of e) at) (λ n l. done (goes_constant env h (pos n)) l)

pub parameters_told : (ss : List Struct) (ps : Params) (ts : List CType) → Each (IsFormed ss) ts → AreFormedParameters ss (told_types ps ts)
parameters_told ss no_params ts h = tt
parameters_told ss (next_param q qs) ts h = types_formed ss ts h

abbrev pub AreParameters : Parameters → Env → Type 0
AreParameters ps env = AreFormedParameters env.tables.structs ps

pub list_formed : (ps : Params) (ts : List CType) (env : Env) → IsFormedEnv env → AreTypes ts env → After env AreParameters (list_told ps ts env)
list_formed ps ts env h f = done (goes_left env h) (parameters_told env.tables.structs ps ts f)

pub reserved_formed : (env : Env) (o : Option (ℕ × Place)) → IsFormedEnv env → Goes env (reserved env o)
reserved_formed env None h = goes_nowhere env h
reserved_formed env (Some x) h = goes_object env h (formal x.0 void x.1) (tt, refl)

pub parameter_leads : (env : Env) (k : ℕ) (o : Option (ℕ × Place)) (t : CType) → IsFormedEnv env → IsType t env → is_function t ≡ false → Leads env (named_parameter env k o t)
parameter_leads env k None t h f e = leads (goes_nowhere env h)
parameter_leads env k (Some x) t h f e =
    let g : Goes env (set_object env k (formal x.0 t x.1)) = goes_object_set env h k (formal x.0 t x.1) (f, e) in
    leads_carried g (leads_declared (set_object env k (formal x.0 t x.1)) g.formed x.0 (means.object k) x.1 tt)

pub parameter_formed : (env : Env) (k : ℕ) (ts : List CType) (t : CType) (d : Declarator) → IsFormedEnv env → AreTypes ts env → IsType t env → After env AreTypes (param_told env k ts t d)
parameter_formed env k ts t d h f g =
    let a : IsType (adjusted t) env × (is_function (adjusted t) ≡ false) = adjusted_formed env.tables.structs t g in
    met _ _ (λ some. lead (parameter_leads env k (declared_name d) (adjusted t) h a.0 a.1) (λ e l.
    done (goes_nowhere e l.formed) (each_pushed (λ t. IsFormed e.tables.structs t) ts (adjusted t) (types_kept env e l ts f) (type_kept env e l (adjusted t) a.0))))
