-- What a parameter does once its parts are read (C90 6.5.4.3).
use Rattle.std.specs.Prelude.{ℕ, Bool, false, not, List, [], ◌∷◌, ◌++◌}
use Rattle.sp_tree.specs.declared.fault.FaultKind.TheVariants.{IncompleteType}
use Rattle.sp_parse_trees.specs.Places.{declarator_place}
use Rattle.sp_parse_trees.specs.Syntax.{Declarator, DeclaratorForm, function, Params, no_params, next_param}
use Rattle.sp_types.specs.Types.{CType, Parameters, untold, listed}
use Rattle.sp_types.specs.View.{types}
use Rattle.sp_base_checked.specs.Answers.{Checked, accepted, and_then, where_met}
use Rattle.sp_check_operands.specs.Conversions.{is_void}
use Rattle.sp_check_env.specs.Env.{Env, left}
use Rattle.sp_check_members.specs.Parameters.{adjusted, declared_name, named_parameter}

-- the list of a declarator of a function
abbrev pub params_of : DeclaratorForm → Params
params_of (function d ps dots) = ps
params_of f = no_params

-- a list of one parameter, without `...`
abbrev pub is_alone : Params → Bool → Bool
is_alone (next_param q no_params) dots = not dots
is_alone ps dots = false

abbrev pub is_alone_in : DeclaratorForm → Bool
is_alone_in (function d ps dots) = is_alone ps dots
is_alone_in f = false

-- 6.5.4.3: a list without parameters tells nothing of them; its scope is left behind it
abbrev pub told_types : Params → List CType → Parameters
told_types no_params ts = untold
told_types (next_param q qs) ts = listed (types ts)

abbrev pub list_told : Params → List CType → Env → Checked (Parameters × Env)
list_told ps ts env = accepted (told_types ps ts, left env)

-- a parameter of this type: none is void, and a named one is declared in the scope of its list
abbrev pub param_told : Env → ℕ → List CType → CType → Declarator → Checked (List CType × Env)
param_told env k ts t d =
    where_met (not (is_void (adjusted t))) IncompleteType (declarator_place d)
    (and_then (named_parameter env k (declared_name d) (adjusted t)) (λ env'.
    accepted (ts ++ adjusted t ∷ [], env')))
