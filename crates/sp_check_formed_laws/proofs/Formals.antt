-- The environment behind the declarator of a definition is formed, and so are its type and its
-- formals (C90 6.7.1).
use Rattle.std.proofs.Common.{◌≡◌, ℕ, Bool, false, not, ◌&&◌, ◌||◌, List, [], Option, Some, None, arith}
use Rattle.sp_tree.specs.declared.fault.Place.{Place}
use Rattle.sp_parse_trees.specs.Syntax.{Declarator, declarator, DeclaratorForm, absent, declared, group, pointer, array, function, Param, param, Params, no_params, next_param, MaybeExpression, no_expression, some_expression}
use Rattle.sp_parse_trees.specs.Places.{declarator_place}
use Rattle.sp_types.specs.Types.{CType, void, result_of}
use Rattle.sp_types.specs.Structs.{IsFormed, IsFormedSignature}
use Rattle.sp_check_operands.specs.Conversions.{is_void, is_floating, is_complete, is_function}
use Rattle.sp_check_binary_rules.specs.Rules.{function_type}
use Rattle.sp_check_scopes.specs.Scopes.{Scope}
use Rattle.sp_check_env.specs.Env.{Env, list_entered}
use Rattle.sp_check_type_names.specs.Derivations.{Derivation, to_pointer, to_array, to_function}
use Rattle.sp_check_members.specs.Parameters.{declared_name, is_lone_void, adjusted, formal, reserved, reserved_number}
use Rattle.sp_expr_check.specs.Parameters.{is_alone, told_types}
use Rattle.sp_check_heads.specs.Formals.{Read, formal_told, formal_checked, formals_checked, Steps, no_parameters, outwards, own_list, outer_list, outer_length, is_name, own_steps, form_steps, is_floating_array, Own, own_told, own_declared}
use Rattle.sp_check_formed_laws.proofs.Lists.{none_some, Each, each_none, each_pushed, each_first, pushed_length}
use Rattle.sp_check_formed_laws.proofs.Derived.{IsFormedStep, adjusted_formed, type_made}
use Rattle.sp_check_formed_laws.proofs.Envs.{AreMeant, meant_longer, IsFormedEnv, Goes, goes_nowhere, goes_on}
use Rattle.sp_check_formed_laws.proofs.After.{Gives, gives, gives_met, gives_given, After, done, after_none, carried, next, lead, taken, met, given, either}
use Rattle.sp_check_formed_laws.proofs.Updates.{goes_list_entered, goes_set_aside}
use Rattle.sp_check_formed_laws.proofs.Braces.{IsType}
use Rattle.sp_check_formed_laws.proofs.Leaves.{AreTypes, type_kept, types_kept, parameters_told, reserved_formed, parameter_leads}
use Rattle.sp_check_formed_laws.proofs.Expressions.{specifiers_formed, declared_formed, list_checked_formed, length_checked_formed, steps_kept}
use Rattle.sp_check_formed_laws.proofs.Objects.{IsNumber, AreNumbers, Has, has_later, numbers_kept}
use Rattle.sp_check_formed_laws.proofs.Declarations.{signature_in}

-- what names stand for is formed in a larger table
pub names_meant : (env later : Env) → Goes env later → (s : Scope) → AreMeant env.tables.structs s.names → AreMeant later.tables.structs s.names
names_meant env later g s h = λ k n at. meant_longer env.tables.structs later.tables.structs g.keeps.longer n.1 (h k n at)

-- ---- the list of the formals

abbrev pub IsRead : ℕ → Read → Env → Type 0
IsRead from x env = AreTypes x.types env × AreNumbers from x.formals env

read_kept : (from : ℕ) (env later : Env) → Goes env later → (x : Read) → IsRead from x env → IsRead from x later
read_kept from env later g x h = (types_kept env later g x.types h.0, numbers_kept from env later g x.formals h.1)

told_formed : (from : ℕ) (env : Env) (k : ℕ) (x : Read) (t : CType) (d : Declarator) → IsFormedEnv env → IsRead from x env → IsType t env
    → ((n : ℕ × Place) → declared_name d ≡ Some n → IsNumber from env k) → After env (IsRead from) (formal_told env k x t d)
told_formed from env k x t d h f g low =
    let a : IsType (adjusted t) env × (is_function (adjusted t) ≡ false) = adjusted_formed env.tables.structs t g in
    met {b = not (is_void (adjusted t))} _ _ (λ some.
    given {o = declared_name d} _ _ (λ n e.
    met {b = not (is_floating (adjusted t))} _ _ (λ kind.
    met {b = is_complete env.tables.structs (adjusted t)} _ _ (λ whole.
    lead (parameter_leads env k (Some n) (adjusted t) h a.0 a.1) (λ later l.
    let there : IsNumber from env k = low n e in
    let r : IsRead from x later = read_kept from env later l x f in
    done (goes_nowhere later l.formed) (
      each_pushed (λ t. IsFormed later.tables.structs t) x.types (adjusted t) r.0 (type_kept env later l (adjusted t) a.0),
      each_pushed (IsNumber from later) x.formals k r.1 (there.0, omega (arith, there.1, l.keeps.objects)),
    ))))))

reserved_there : (from : ℕ) (env : Env) (o : Option (ℕ × Place)) (n : ℕ × Place) → Has from env → o ≡ Some n → IsNumber from (reserved env o) (reserved_number env o)
reserved_there from env None n l e = absurd (none_some n e)
reserved_there from env (Some x) n l e = (l, omega (arith, pushed_length env.tables.objects (formal x.0 void x.1)))

module _ (names : List (List ℕ)) (from : ℕ) where
  formal_formed : (env : Env) (alone : Bool) (x : Read) (q : Param) → IsFormedEnv env → Has from env → IsRead from x env → After env (IsRead from) (formal_checked names env alone x q)
  formal_formed env alone x (param ss d) h has f =
      let r : Env = reserved env (declared_name d) in
      let to-r : Goes env r = reserved_formed env (declared_name d) h in
      met _ _ (λ class. carried to-r
      (next (specifiers_formed names r false (declarator_place d) ss to-r.formed) (λ b g t.
      either {b = alone && is_lone_void b.0 d}
      (λ lone. done (goes_nowhere b.1 g.formed) (read_kept from env b.1 (goes_on env r b.1 to-r g) x f))
      (λ more. next (declared_formed names b.1 b.0 d g.formed t) (λ u k v.
      told_formed from u.1 (reserved_number env (declared_name d)) x u.0 d k.formed
      (read_kept from env u.1 (goes_on env r u.1 to-r (goes_on r b.1 u.1 g k)) x f) v.0
      (λ n e.
      let low : IsNumber from r (reserved_number env (declared_name d)) = reserved_there from env (declared_name d) n has e in
      (low.0, omega (arith, low.1, g.keeps.objects, k.keeps.objects))))))))

  formals_formed : (env : Env) (alone : Bool) (x : Read) (ps : Params) → IsFormedEnv env → Has from env → IsRead from x env → After env (IsRead from) (formals_checked names env alone x ps)
  formals_formed env alone x no_params h has f = done (goes_nowhere env h) f
  formals_formed env alone x (next_param q qs) h has f =
      next (formal_formed env alone x q h has f) (λ y g r. formals_formed y.1 alone y.0 qs g.formed (has_later from env y.1 g has) r)

  -- ---- the parts of the declarator

  abbrev pub AreOwnSteps : Steps → Env → Type 0
  AreOwnSteps x env = Each (IsFormedStep env.tables.structs) x.steps × AreNumbers from x.formals env × AreMeant env.tables.structs x.scope.names

  own_list_formed : (env : Env) (p : Place) (ps : Params) (dots : Bool) → IsFormedEnv env → Has from env → After env AreOwnSteps (own_list names env p ps dots)
  own_list_formed env p ps dots h has =
      let g : Goes env (list_entered env) = goes_list_entered env h in
      carried g (next (formals_formed (list_entered env) (is_alone ps dots) no_parameters ps g.formed has (each_none (λ t. IsFormed env.tables.structs t), each_none (IsNumber from env))) (λ y k r.
      done (goes_set_aside y.1 k.formed) (
        each_first (IsFormedStep y.1.tables.structs) (to_function (told_types ps y.0.types) dots p) [] (parameters_told y.1.tables.structs ps y.0.types r.0) (each_none (IsFormedStep y.1.tables.structs)),
        r.1,
        k.formed.inner,
      )))

  -- a further derivation
  one_more : (x : Steps × Env) (later : Env) (d : Derivation) → Goes x.1 later → AreOwnSteps x.0 x.1 → IsFormedStep later.tables.structs d → AreOwnSteps (outwards x.0 d) later
  one_more x later d g f s = (
    each_pushed (IsFormedStep later.tables.structs) x.0.steps d (steps_kept x.1 later g x.0.steps f.0) s,
    numbers_kept from x.1 later g x.0.formals f.1,
    names_meant x.1 later g x.0.scope f.2,
  )

  outer_list_formed : (p : Place) (f : DeclaratorForm) (dots : Bool) (x : Steps × Env) → IsFormedEnv x.1 → AreOwnSteps x.0 x.1 → After x.1 AreOwnSteps (outer_list names p f dots x)
  outer_list_formed p f dots x h q =
      next (list_checked_formed names x.1 f h) (λ l k r. done (goes_nowhere l.1 k.formed) (one_more x l.1 (to_function l.0 dots p) k q r))

  outer_length_formed : (p : Place) (e : MaybeExpression) (x : Steps × Env) → IsFormedEnv x.1 → AreOwnSteps x.0 x.1 → After x.1 AreOwnSteps (outer_length names p e x)
  outer_length_formed p no_expression x h q = done (goes_nowhere x.1 h) (one_more x x.1 (to_array None p) (goes_nowhere x.1 h) q tt)
  outer_length_formed p (some_expression e) x h q =
      next (length_checked_formed names x.1 e h) (λ n k l. done (goes_nowhere n.1 k.formed) (one_more x n.1 (to_array (Some n.0) p) k q l))

  mutual
    own_steps_formed : (env : Env) (at : Place) (d : Declarator) → IsFormedEnv env → Has from env → After env AreOwnSteps (own_steps names env at d)
    own_steps_formed env at (declarator f p) h has = form_steps_formed env at p f h has

    form_steps_formed : (env : Env) (at p : Place) (f : DeclaratorForm) → IsFormedEnv env → Has from env → After env AreOwnSteps (form_steps names env at p f)
    form_steps_formed env at p (group d) h has = own_steps_formed env at d h has
    form_steps_formed env at p (pointer qs d) h has =
        next (own_steps_formed env at d h has) (λ x g q. done (goes_nowhere x.1 g.formed) (one_more x x.1 to_pointer (goes_nowhere x.1 g.formed) q tt))
    form_steps_formed env at p (function d ps dots) h has =
        either {b = is_name d} (λ e. own_list_formed env p ps dots h has)
        (λ e. next (own_steps_formed env at d h has) (λ x g q. outer_list_formed p (function d ps dots) dots x g.formed q))
    form_steps_formed env at p (array d e) h has = next (own_steps_formed env at d h has) (λ x g q. outer_length_formed p e x g.formed q)
    form_steps_formed env at p absent h has = after_none
    form_steps_formed env at p (declared n) h has = after_none

  -- ---- the whole declarator

  abbrev IsToldOwn : Own → Env → Type 0
  IsToldOwn o env = IsFormedSignature env.tables.structs o.of × AreNumbers from o.formals env

  -- with the scope of its formals
  abbrev pub IsOwn : Own × Scope → Env → Type 0
  IsOwn o env = IsToldOwn o.0 env × AreMeant env.tables.structs o.1.names

  own_told_formed : (env : Env) (at : Place) (n : ℕ × Place) (ks : List ℕ) (t : CType) → AreNumbers from ks env → IsType t env → Gives (λ o. IsToldOwn o env) (own_told env.tables.structs at n ks t)
  own_told_formed env at n ks t h f =
      gives_given {o = function_type t} _ _ (λ s e.
      gives_met {b = not (is_floating_array (result_of s))} _ _ (λ kind.
      gives_met {b = is_void (result_of s) || is_complete env.tables.structs (result_of s)} _ _ (λ whole.
      gives {x = record { name = n.0; place = n.1; of = s; formals = ks }} (signature_in names env t s f e, h))))

  pub own_formed : (env : Env) (base : CType) (d : Declarator) → IsFormedEnv env → Has from env → IsType base env → After env IsOwn (own_declared names env base d)
  own_formed env base d h has t =
      given {o = declared_name d} _ _ (λ n e.
      next (own_steps_formed env (declarator_place d) d h has) (λ x g q.
      taken (type_made x.1.tables.structs (declarator_place d) x.0.steps base q.0 (type_kept env x.1 g base t)) (λ u m.
      taken (own_told_formed x.1 (declarator_place d) n x.0.formals u q.1 m.0) (λ o f.
      done (goes_nowhere x.1 g.formed) (f, q.2)))))
