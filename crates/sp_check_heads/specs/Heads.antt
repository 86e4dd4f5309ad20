-- The head of a function that is defined: its specifiers and its declarator (C90 6.7.1).
use Rattle.std.specs.Prelude.{ℕ, List, Bool, true, false, not, Option, Some, None, is_some, slice_get}
use Rattle.sp_tree.specs.declared.fault.FaultKind.TheVariants.{RedeclaredName, BadOperand}
use Rattle.sp_tree.specs.declared.fault.Place.{Place}
use Rattle.sp_tree.specs.declared.token.Keyword.{Keyword}
use Rattle.sp_tree.specs.declared.token.Keyword.TheVariants as words
use Rattle.sp_parse_trees.specs.Places.{declarator_place}
use Rattle.sp_parse_trees.specs.Syntax.{Specifiers, Declarator}
use Rattle.sp_types.specs.Programs.{Function}
use Rattle.sp_base_checked.specs.Answers.{Checked, accepted, and_then, where_met}
use Rattle.sp_check_scopes.specs.Scopes.{Scope}
use Rattle.sp_check_env.specs.Env.{Env, resumed}
use Rattle.sp_check_primaries.specs.Functions.{function_declared}
use Rattle.sp_expr_check.specs.Expressions.{specifiers_checked}
use Rattle.sp_check_declarations.specs.Words.{storage_class}
use Rattle.sp_check_declarations.specs.Declarations.{function_linkage}
use Rattle.sp_check_heads.specs.Formals.{Own, own_declared}

-- no storage class but `extern` and `static`
abbrev pub may_define : Option Keyword → Bool
may_define None = true
may_define (Some words.Extern) = true
may_define (Some words.Static) = true
may_define (Some k) = false

abbrev pub has_body : Option Function → Bool
has_body None = false
has_body (Some f) = is_some f.body

-- the number of the function, and what its declarator declares
pub record Head : Type 0 where
  pub number : ℕ
  pub own : Own

-- 6.1.2.1, 6.7.1: the name of the function is declared in the file's scope behind its declarator. It
-- has the type of its declarator, and isn't defined yet. Its formals are in the block that is its body
abbrev pub own_defined : Env → Option Keyword → Own × Scope → Checked (Head × Env)
own_defined env class o =
    and_then (function_declared env o.0.name (function_linkage env o.0.name class) o.0.of o.0.place) (λ x.
    where_met (not (has_body (slice_get x.1.tables.functions x.0))) RedeclaredName o.0.place
    (accepted (record { number = x.0; own = o.0 }, resumed o.1 x.1)))

abbrev pub head_checked : List (List ℕ) → Env → Specifiers → Declarator → Checked (Head × Env)
head_checked names env ss d =
    where_met (may_define (storage_class ss)) BadOperand (declarator_place d)
    (and_then (specifiers_checked names env false (declarator_place d) ss) (λ x.
    and_then (own_declared names x.1 x.0 d) (λ o.
    own_defined o.1 (storage_class ss) o.0)))
