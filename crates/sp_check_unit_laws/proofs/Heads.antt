-- The head of a definition leaves the environment sound, in which the formals are seen (C90 6.7.1).
use Rattle.std.proofs.Common.{◌≡◌, ℕ, zero, suc, Bool, true, false, not, ◌&&◌, length, List, [], ◌∷◌, Option, Some, None, is_some, refl, ap, sym, subst, ◌∙◌, true≢false, eqb-true}
use Rattle.std.proofs.lemmas.Bool.{not-true}
use Rattle.std.specs.Prelude.{slice_get}
use Rattle.sp_tree.specs.declared.fault.Place.{Place}
use Rattle.sp_tree.specs.declared.token.Keyword.{Keyword}
use Rattle.sp_parse_trees.specs.Syntax.{Specifiers, Declarator}
use Rattle.sp_parse_trees.specs.Places.{declarator_place}
use Rattle.sp_types.specs.Types.{CType, void, integer, floating, pointer, array, structure, function, Signature, signature, result_of}
use Rattle.sp_types.specs.Compatible.{compatible, parameters_compatible}
use Rattle.sp_types.specs.Programs.{Function}
use Rattle.sp_types.specs.declared.program.Linkage.{Linkage}
use Rattle.sp_check_scopes.specs.Meanings.{Meaning}
use Rattle.sp_check_scopes.specs.Meanings as means
use Rattle.sp_check_scopes.specs.Scopes.{Scope, meaning_in_block, with_block_name}
use Rattle.sp_check_env.specs.declared.env.Entity.{Entity}
use Rattle.sp_check_env.specs.declared.env.Entity.TheVariants as entities
use Rattle.sp_check_env.specs.Env.{Env, list_entered, resumed, declared_in_block, linked, with_link, with_typing, with_function, changed, typed_by, with_function_type, function_type, function_linkage}
use Rattle.sp_check_primaries.specs.Composite.{composite_signature}
use Rattle.sp_check_primaries.specs.Functions.{is_same_linkage, is_retyped, retyped, as_function, undefined_function, joined_type, function_at, function_declared}
use Rattle.sp_check_declarations.specs.Words.{storage_class}
use Rattle.sp_check_declarations.specs.Declarations as declarations
use Rattle.sp_check_heads.specs.Formals.{Own}
use Rattle.sp_check_heads.specs.Heads.{may_define, has_body, Head, own_defined, head_checked}
use Rattle.sp_check_typing.specs.Sorts.{agrees}
use Rattle.sp_check_typing.specs.Trees.{IsCalled}
use Rattle.sp_check_formed_laws.proofs.Lists.{none_some, some_is, pushed_last}
use Rattle.sp_check_formed_laws.proofs.After.{Gives, gives, gives_none, gives_then, gives_met, gives_given, gives_more}
use Rattle.sp_check_written_laws.specs.Written.{AreWrittenSpecifiers, IsWrittenDeclarator}
use Rattle.sp_check_written_laws.specs.Laws.{AreByteNames}
use Rattle.sp_check_expr_laws.specs.Sound.{lasting_alone}
use Rattle.sp_check_expr_laws.proofs.Types.{and_true}
use Rattle.sp_check_expr_laws.proofs.Grows.{called_stays}
use Rattle.sp_check_expr_laws.proofs.Envs.{Follows, IsFit, Reaches, reaches_on, scene_grows}
use Rattle.sp_check_expr_laws.proofs.Updates.{fit_wider, reaches_resumed}
use Rattle.sp_check_expr_laws.proofs.Objects.{composite_agrees}
use Rattle.sp_check_expr_laws.proofs.Functions.{IsGoodSignature, IsFound, function_sound}
use Rattle.sp_check_expr_laws.proofs.Leaves.{IsType, type_kept}
use Rattle.sp_check_expr_laws.proofs.Expressions.{specifiers_good}
use Rattle.sp_check_initialiser_laws.proofs.Values.{gives_after, gives_both}
use Rattle.sp_check_unit_laws.proofs.Fits.{AreOwn}
use Rattle.sp_check_unit_laws.proofs.Shows.{gives_shown}
use Rattle.sp_check_unit_laws.proofs.Objects.{beside_tables}
use Rattle.sp_check_unit_laws.proofs.Formals.{AreFormals, IsSeenScope, scope_on, IsOwn, own_shows, formals_on}

-- ---- the type that the definition gives the function

-- what the result of one agrees with, that of the other agrees with
compatible_agrees : (a b v : CType) → compatible a b ≡ true → agrees b v ≡ true → agrees a v ≡ true
compatible_agrees void void v h g = g
compatible_agrees (integer j) (integer k) (integer l) h g = refl
compatible_agrees (integer j) (integer k) v h g = g
compatible_agrees (floating j) (floating k) v h g = g
compatible_agrees (pointer a) (pointer b) (pointer v) h g = refl
compatible_agrees (pointer a) (pointer b) v h g = g
compatible_agrees (array a n) (array b m) (array v k) h g = refl
compatible_agrees (array a n) (array b m) v h g = g
compatible_agrees (structure j) (structure k) v h g =
    subst (λ i. agrees (structure i) v ≡ true) (sym (eqb-true j k h)) g
compatible_agrees (function s) (function r) (function v) h g = refl
compatible_agrees (function s) (function r) v h g = g
compatible_agrees a b v h g = absurd (true≢false (sym h))

result_follows : (t s : Signature) → compatible (function t) (function s) ≡ true
    → Follows s (composite_signature t s)
result_follows (signature r ps v) (signature q qs w) h x g =
    composite_agrees r q x (compatible_agrees r q x
    (and_true (compatible r q) (parameters_compatible v w ps qs) h).0 g)

-- ---- the name

-- a name more in a block leaves the tables as they are
declared_tables : (env : Env) (n : ℕ) (m : Meaning) (p : Place)
    → Gives (λ e. e.tables ≡ env.tables) (declared_in_block env n m p)
declared_tables env n m p =
    gives_more (λ e same. same.0)
    (beside_tables env (with_block_name env.scopes n m) m p (meaning_in_block env.scopes n))

-- the function of this number has a type that follows
abbrev FollowsAt : Signature → ℕ → Env → Type 0
FollowsAt s k env = (f : Function) → slice_get env.tables.functions k ≡ Some f → Follows s f.of

changed_type : (s : Signature) (fs : List Function) (k : ℕ) (f : Function)
    → slice_get (changed (typed_by s) fs k) k ≡ Some f → s ≡ f.of
changed_type s [] k f at = absurd (none_some f at)
changed_type s (g ∷ fs) zero f at = ap (λ x. x.of) (some_is (typed_by s g) f at)
changed_type s (g ∷ fs) (suc k) f at = changed_type s fs k f at

-- an added function has the type itself, a joined one the composite of compatible types
name_follows : (env : Env) (n : ℕ) (l : Linkage) (s : Signature) (p : Place)
    → Gives (λ x. FollowsAt s x.0 x.1) (function_declared env n l s p)
name_follows env n l s p = by (linked env n)
  where
    joined_follows : (k : ℕ) → Gives (Follows s) (joined_type env l s p k)
    joined_follows k =
        gives_given {o = function_linkage (slice_get env.tables.functions k)} _ _ (λ old e.
        gives_given {o = function_type (slice_get env.tables.functions k)} _ _ (λ t g.
        gives_met {b = is_same_linkage old l && compatible (function t) (function s)} _ _ (λ fits.
        gives {x = composite_signature t s} (result_follows t s
        (and_true (is_same_linkage old l) (compatible (function t) (function s)) fits).1))))

    by : (o : Option Entity) → Gives (λ x. FollowsAt s x.0 x.1) (function_at env n l s p o)
    by None =
        let k : ℕ = length env.tables.functions in
        let f : Function = undefined_function n l s p in
        let a : Env =
        with_typing (with_link (with_function env f) n (entities.Function k)) l n (function s) p in
        gives_then (declared_tables a n (means.function k) p) (λ e same.
        gives {x = (k, e)} (λ g at. subst (λ x. Follows s x.of)
        (some_is f g (sym (pushed_last env.tables.functions f)
        ∙ ap (λ t. slice_get t.functions k) (sym same) ∙ at)) (λ t h. h)))
    by (Some (entities.Function k)) =
        gives_then (joined_follows k) (λ t j.
        let c : Bool = is_retyped (as_function (function_type (slice_get env.tables.functions k)))
        (function t) in
        let a : Env = with_function_type (retyped env c l n (function t) p) k t in
        gives_then (declared_tables a n (means.function k) p) (λ e same.
        gives {x = (k, e)} (λ g at. subst (Follows s)
        (changed_type t env.tables.functions k g
        (ap (λ t. slice_get t.functions k) (sym same) ∙ at)) j)))
    by (Some (entities.Object k)) = gives_none

-- ---- heads

-- `file` is the environment before the scope of the formals is resumed
pub record IsHead (own : ℕ → Bool) (env : Env) (h : Head) (later : Env) : Type 0 where
  pub file : Env
  pub to_file : Reaches lasting_alone env file
  pub to_later : Reaches own (list_entered file) later
  pub type : IsType (result_of h.own.of) later
  pub called : IsCalled later.tables.structs (result_of h.own.of)
  pub formals : AreFormals h.own.formals later
  pub function : Function
  pub there : slice_get later.tables.functions h.number ≡ Some function
  pub bodiless : is_some function.body ≡ false
  pub follows : Follows h.own.of function.of

result_type : (env : Env) (s : Signature) → IsGoodSignature env.tables.structs s
    → IsType (result_of s) env
result_type env (signature r ps v) h = (h.0.0, h.1.1)

-- the name is declared in the file's scope, behind the declarator
module _ (names : List (List ℕ)) (bytes : AreByteNames names) (own : ℕ → Bool) (env : Env)
    (list : Env) (o : Own × Scope) where
  abbrev IsListed : Type 0
  IsListed = Reaches lasting_alone env list × IsOwn names bytes own o list

  head_of : (k : ℕ) (file : Env) → IsListed → Reaches lasting_alone list file → IsFound k file
      → FollowsAt o.0.of k file → has_body (slice_get file.tables.functions k) ≡ false
      → IsHead own env (record { number = k; own = o.0 }) (resumed o.1 file)
  head_of k file x g found follows less =
      let seen : IsSeenScope own o.1 file =
      scope_on own list file x.0.fit.formed g.moves o.1 x.1.scope in
      let formals : AreFormals o.0.formals file =
      formals_on x.0.fit.formed g o.0.formals x.1.formals in
      record {
        file = file;
        to_file = reaches_on lasting_alone env list file x.0 g;
        to_later = reaches_resumed own file o.1
            (fit_wider lasting_alone own file (λ i e. absurd (true≢false (sym e))) g.fit)
            seen.0 seen.1;
        type = type_kept g (result_of o.0.of) (result_type list o.0.of x.1.good);
        called = called_stays list.tables.structs file.tables.structs
            (scene_grows lasting_alone list file g.moves x.0.fit.formed).stays
            (result_of o.0.of) x.1.called;
        formals = record { formals = formals.formals; distinct = formals.distinct };
        function = found.0;
        there = found.1;
        bodiless = ap has_body (sym found.1) ∙ less;
        follows = follows found.0 found.1;
      }

  own_good : (class : Option Keyword) → (AreOwn own o.0.formals → IsListed)
      → Gives (λ x. AreOwn own x.0.own.formals → IsHead own env x.0 x.1) (own_defined list class o)
  own_good class listed =
      let l : Linkage = declarations.function_linkage list o.0.name class in
      gives_then (gives_both (declared l) (name_follows list o.0.name l o.0.of o.0.place)) (λ y h.
      gives_met {b = not (has_body (slice_get y.1.tables.functions y.0))} _ _ (λ new.
      gives {x = (record { number = y.0; own = o.0 }, resumed o.1 y.1)} (λ fits.
      let x : IsListed = listed fits in
      let d : Reaches lasting_alone list y.1 × IsFound y.0 y.1 = h.0 x in
      head_of y.0 y.1 x d.0 d.1 h.1
      (not-true (has_body (slice_get y.1.tables.functions y.0)) new))))
    where
      declared : (l : Linkage)
          → Gives (λ y. IsListed → Reaches lasting_alone list y.1 × IsFound y.0 y.1)
          (function_declared list o.0.name l o.0.of o.0.place)
      declared l = record {
        at = λ y e x.
            (function_sound lasting_alone list x.0.fit o.0.name l o.0.of o.0.place x.1.good).at y e;
      }

pub head_good : (names : List (List ℕ)) → AreByteNames names → (own : ℕ → Bool) (env : Env)
    (ss : Specifiers)
    (d : Declarator) → IsFit lasting_alone env → AreWrittenSpecifiers ss → IsWrittenDeclarator d
    → Gives (λ x. AreOwn own x.0.own.formals → IsHead own env x.0 x.1)
    (head_checked names env ss d)
head_good names bytes own env ss d h w v =
    gives_met {b = may_define (storage_class ss)} _ _ (λ class.
    gives_after (specifiers_good names bytes lasting_alone env false (declarator_place d) ss h w)
    (λ x g t.
    gives_shown (own_shows names bytes own x.1 x.0 d g.fit v t) (λ o q.
    own_good names bytes own env o.1 o.0 (storage_class ss) (λ fits.
    let r = q fits in
    (reaches_on lasting_alone env x.1 o.1 g r.0, r.1)))))
