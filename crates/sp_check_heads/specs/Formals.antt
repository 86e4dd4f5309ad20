-- The declarator of a definition of a function (C90 6.7.1): the list of parameters next to its name
-- declares the formals.
use Rattle.std.specs.Prelude.{ℕ, Bool, true, false, not, ◌&&◌, ◌||◌, List, [], ◌∷◌, ◌++◌, Some, None, if◌then◌else◌}
use Rattle.sp_tree.specs.declared.fault.FaultKind.TheVariants.{IncompleteType, BadOperand, FloatingType}
use Rattle.sp_tree.specs.declared.fault.Place.{Place}
use Rattle.sp_parse_trees.specs.Syntax.{Declarator, declarator, DeclaratorForm, declared, group, pointer, array, function, Param, param, Params, no_params, next_param, MaybeExpression, no_expression, some_expression}
use Rattle.sp_parse_trees.specs.Places.{declarator_place}
use Rattle.sp_types.specs.Types.{CType, floating, Signature, Struct, result_of}
use Rattle.sp_types.specs.Types as types
use Rattle.sp_base_checked.specs.Answers.{Checked, accepted, refused, and_then, where_met, where_given}
use Rattle.sp_check_operands.specs.Conversions.{is_void, is_floating, is_complete}
use Rattle.sp_check_binary_rules.specs.Rules.{function_type}
use Rattle.sp_check_scopes.specs.Scopes.{Scope}
use Rattle.sp_check_env.specs.Env.{Env, list_entered, set_aside}
use Rattle.sp_check_type_names.specs.Derivations.{Derivation, to_pointer, to_array, to_function, made}
use Rattle.sp_check_members.specs.Parameters.{declared_name, has_parameter_storage, is_lone_void, adjusted, reserved, reserved_number, named_parameter}
use Rattle.sp_expr_check.specs.Expressions.{specifiers_checked, declared_type, length_checked, list_checked}
use Rattle.sp_expr_check.specs.Parameters.{is_alone, told_types}

-- the types of parameters, and the numbers of the formals
pub record Read : Type 0 where
  pub types : List CType
  pub formals : List ℕ

-- 6.7.1: a parameter of a definition has a name and a complete type; its scope has the name once. k
-- is the number of its entry
abbrev pub formal_told : Env → ℕ → Read → CType → Declarator → Checked (Read × Env)
formal_told env k x t d =
    where_met (not (is_void (adjusted t))) IncompleteType (declarator_place d)
    (where_given (declared_name d) BadOperand (declarator_place d) (λ n.
    where_met (not (is_floating (adjusted t))) FloatingType n.1
    (where_met (is_complete env.tables.structs (adjusted t)) IncompleteType (declarator_place d)
    (and_then (named_parameter env k (Some n) (adjusted t)) (λ env'.
    accepted (record { types = x.types ++ adjusted t ∷ []; formals = x.formals ++ k ∷ [] }, env'))))))

abbrev pub formal_checked : List (List ℕ) → Env → Bool → Read → Param → Checked (Read × Env)
formal_checked names env alone x (param ss d) =
    where_met (has_parameter_storage ss) BadOperand (declarator_place d)
    (and_then (specifiers_checked names (reserved env (declared_name d)) false (declarator_place d) ss) (λ b.
    if alone && is_lone_void b.0 d then accepted (x, b.1)
    else and_then (declared_type names b.1 b.0 d) (λ t. formal_told t.1 (reserved_number env (declared_name d)) x t.0 d)))

abbrev pub formals_checked : List (List ℕ) → Env → Bool → Read → Params → Checked (Read × Env)
formals_checked names env alone x no_params = accepted (x, env)
formals_checked names env alone x (next_param q qs) = and_then (formal_checked names env alone x q) (λ y. formals_checked names y.1 alone y.0 qs)

-- what the parts of the declarator derive, from the name outwards, the numbers of the formals, and
-- their scope
pub record Steps : Type 0 where
  pub steps : List Derivation
  pub formals : List ℕ
  pub scope : Scope

abbrev pub no_parameters : Read
no_parameters = record { types = []; formals = [] }

-- the list next to the name; the scope of the formals is set aside behind it, until the body comes
-- (6.1.2.1: it ends with the body), so that the rest of the declarator stands in the file's scope
abbrev pub own_list : List (List ℕ) → Env → Place → Params → Bool → Checked (Steps × Env)
own_list names env p ps dots =
    and_then (formals_checked names (list_entered env) (is_alone ps dots) no_parameters ps) (λ y.
    accepted (record { steps = to_function (told_types ps y.0.types) dots p ∷ []; formals = y.0.formals; scope = y.1.scopes.inner }, set_aside y.1))

abbrev pub outwards : Steps → Derivation → Steps
outwards x d = record x { steps = x.steps ++ d ∷ [] }

-- a list further out is that of a function which the function's result leads to; `f` is the form that has it
abbrev pub outer_list : List (List ℕ) → Place → DeclaratorForm → Bool → Steps × Env → Checked (Steps × Env)
outer_list names p f dots x = and_then (list_checked names x.1 f) (λ l. accepted (outwards x.0 (to_function l.0 dots p), l.1))

-- and a length is that of an array to which it leads
abbrev pub outer_length : List (List ℕ) → Place → MaybeExpression → Steps × Env → Checked (Steps × Env)
outer_length names p no_expression x = accepted (outwards x.0 (to_array None p), x.1)
outer_length names p (some_expression e) x = and_then (length_checked names x.1 e) (λ n. accepted (outwards x.0 (to_array (Some n.0) p), n.1))

abbrev mutual
  pub is_name : Declarator → Bool
  is_name (declarator f p) = is_name_form f

  pub is_name_form : DeclaratorForm → Bool
  is_name_form (declared n) = true
  is_name_form (group d) = is_name d
  is_name_form f = false

-- `at` is the place of the whole declarator
abbrev mutual
  pub own_steps : List (List ℕ) → Env → Place → Declarator → Checked (Steps × Env)
  own_steps names env at (declarator f p) = form_steps names env at p f

  pub form_steps : List (List ℕ) → Env → Place → Place → DeclaratorForm → Checked (Steps × Env)
  form_steps names env at p (group d) = own_steps names env at d
  form_steps names env at p (pointer qs d) = and_then (own_steps names env at d) (λ x. accepted (outwards x.0 to_pointer, x.1))
  form_steps names env at p (function d ps dots) =
      if is_name d then own_list names env p ps dots
      else and_then (own_steps names env at d) (λ x. outer_list names p (function d ps dots) dots x)
  form_steps names env at p (array d n) = and_then (own_steps names env at d) (λ x. outer_length names p n x)
  form_steps names env at p f = refused BadOperand at

-- ---- the whole declarator

abbrev pub is_floating_array : CType → Bool
is_floating_array (types.array t n) = is_floating_array t
is_floating_array (floating k) = true
is_floating_array _ = false

-- its name, with its place, the type of the function and the numbers of its formals
pub record Own : Type 0 where
  pub name : ℕ
  pub place : Place
  pub of : Signature
  pub formals : List ℕ

-- 6.7.1: it returns void or an object of complete type; a floating result is not analysed
abbrev pub own_told : List Struct → Place → ℕ × Place → List ℕ → CType → Checked Own
own_told ss at n ks t =
    where_given (function_type t) BadOperand at (λ s.
    where_met (not (is_floating_array (result_of s))) FloatingType n.1
    (where_met (is_void (result_of s) || is_complete ss (result_of s)) IncompleteType at
    (accepted (record { name = n.0; place = n.1; of = s; formals = ks }))))

-- the declarator of a definition, whose specifiers name the base, with the scope of the formals
abbrev pub own_declared : List (List ℕ) → Env → CType → Declarator → Checked ((Own × Scope) × Env)
own_declared names env base d =
    where_given (declared_name d) BadOperand (declarator_place d) (λ n.
    and_then (own_steps names env (declarator_place d) d) (λ x.
    and_then (made x.1.tables.structs (declarator_place d) x.0.steps base) (λ t.
    and_then (own_told x.1.tables.structs (declarator_place d) n x.0.formals t) (λ o.
    accepted ((o, x.0.scope), x.1)))))
