-- The parts of statements that are no statements: conditions, values and the declarations of a block (C90 6.6.2 to 6.6.5).
use Rattle.std.specs.Prelude.{ℕ, List, ◌++◌, Option, Some, None}
use Rattle.sp_parse_trees.specs.Syntax.{Expression, MaybeExpression, no_expression, some_expression, Declaration, Declarations, no_declarations, next_declaration}
use Rattle.sp_parse_trees.specs.Places.{place_of}
use Rattle.sp_types.specs.Typed.{Typed}
use Rattle.sp_base_checked.specs.Answers.{Checked, accepted, and_then}
use Rattle.sp_check_env.specs.Env.{Env}
use Rattle.sp_expr_check.specs.Expressions.{value_checked}
use Rattle.sp_expr_check.specs.Specifiers.{stays}
use Rattle.sp_check_declarations.specs.Declarations.{declaration_checked}
use Rattle.sp_check_statement_rules.specs.Rules.{Around, condition, switch_value, returned}

abbrev pub condition_checked : List (List ℕ) → Env → Expression → Checked (Typed × Env)
condition_checked names env e = and_then (value_checked names env e) (λ x. stays x.1 (condition (place_of e) x.0))

abbrev pub switch_checked : List (List ℕ) → Env → Expression → Checked (Typed × Env)
switch_checked names env e = and_then (value_checked names env e) (λ x. stays x.1 (switch_value (place_of e) x.0))

-- 6.6.5.3: each expression of a `for` may be missing
abbrev pub maybe_checked : List (List ℕ) → Env → MaybeExpression → Checked (Option Typed × Env)
maybe_checked names env no_expression = accepted (None, env)
maybe_checked names env (some_expression e) = and_then (value_checked names env e) (λ x. accepted (Some x.0, x.1))

abbrev pub maybe_condition : List (List ℕ) → Env → MaybeExpression → Checked (Option Typed × Env)
maybe_condition names env no_expression = accepted (None, env)
maybe_condition names env (some_expression e) = and_then (condition_checked names env e) (λ x. accepted (Some x.0, x.1))

-- 6.6.6.4: what is returned, where a value is given
abbrev pub maybe_returned : List (List ℕ) → Env → Around → MaybeExpression → Checked (Option Typed × Env)
maybe_returned names env a no_expression = accepted (None, env)
maybe_returned names env a (some_expression e) =
    and_then (and_then (value_checked names env e) (λ x. stays x.1 (returned a (place_of e) x.0))) (λ x.
    accepted (Some x.0, x.1))

-- 6.6.2: the objects of a declaration behind those that are read, and of all declarations of a block
abbrev pub one_declaration : List (List ℕ) → Env → List ℕ → Declaration → Checked (List ℕ × Env)
one_declaration names env ns d = and_then (declaration_checked names env d) (λ x. accepted (ns ++ x.0, x.1))

abbrev pub declarations_checked : List (List ℕ) → Env → List ℕ → Declarations → Checked (List ℕ × Env)
declarations_checked names env ns no_declarations = accepted (ns, env)
declarations_checked names env ns (next_declaration d ds) =
    and_then (one_declaration names env ns d) (λ x. declarations_checked names x.1 x.0 ds)
