-- Definitions of functions, and the external declarations of a unit in order (C90 6.7).
use Rattle.std.specs.Prelude.{◌≡◌, ℕ, List, [], ◌∷◌, ◌++◌, Option, Some, None, slice_get}
use Rattle.sp_parse_trees.specs.Syntax.{Specifiers, Declarator, Statement, External, definition, external_declaration, semicolon}
use Rattle.sp_types.specs.Types.{result_of}
use Rattle.sp_types.specs.Programs.{Function}
use Rattle.sp_types.specs.Statements.{TypedStatement, end_of}
use Rattle.sp_base_checked.specs.Answers.{Checked, accepted, and_then}
use Rattle.sp_check_env.specs.Env.{Env, left, set_function}
use Rattle.sp_check_declarations.specs.Declarations.{declaration_checked}
use Rattle.sp_check_statement_rules.specs.Blocks.{locals_in}
use Rattle.sp_check_statements.specs.Statements.{body_checked}
use Rattle.sp_check_heads.specs.Heads.{Head, head_checked}
use Rattle.sp_decl_check.specs.Tentative.{open_tentative}

-- 6.7.1: the function with its body, at the place of its name in the definition
abbrev pub defined : Function → Head → TypedStatement → Function
defined f h s = record f { formals = h.own.formals; locals = locals_in s; body = Some s; place = h.own.place; end = end_of s }

abbrev pub body_set : Env → Head → TypedStatement → Option Function → Env
body_set env h s None = env
body_set env h s (Some f) = set_function env h.number (defined f h s)

abbrev pub with_body : Env → Head → TypedStatement → Env
with_body env h s = body_set env h s (slice_get env.tables.functions h.number)

-- a definition, behind the numbers of the functions that are defined; the scope of its parameters
-- is left
abbrev pub definition_checked : List (List ℕ) → Env → List ℕ → Specifiers → Declarator → Statement → Checked (List ℕ × Env)
definition_checked names env ns ss d s =
    and_then (head_checked names env ss d) (λ h.
    and_then (body_checked names h.1 (result_of h.0.own.of) s) (λ b.
    accepted (ns ++ h.0.number ∷ [], with_body (left b.1) h.0 b.0)))

abbrev pub external_checked : List (List ℕ) → Env → List ℕ → External → Checked (List ℕ × Env)
external_checked names env ns (definition ss d s) = definition_checked names env ns ss d s
external_checked names env ns (external_declaration d) = and_then (declaration_checked names env d) (λ x. accepted (ns, x.1))
external_checked names env ns semicolon = accepted (ns, env)

abbrev pub externals_checked : List (List ℕ) → Env → List ℕ → List External → Checked (List ℕ × Env)
externals_checked names env ns [] = accepted (ns, env)
externals_checked names env ns (e ∷ es) = and_then (external_checked names env ns e) (λ x. externals_checked names x.1 x.0 es)

-- ---- what a unit keeps of them

-- `;` in place of a definition, which is not read again
abbrev pub kept_of : External → External
kept_of (definition ss d s) = semicolon
kept_of (external_declaration d) = external_declaration d
kept_of semicolon = semicolon

-- the same tentative definitions stay open, whatever the environment at the end
abbrev pub SameOpen : List External → List External → Type 0
SameOpen us vs = (env : Env) → open_tentative env us ≡ open_tentative env vs
