-- External declarations one after another.
use Rattle.std.proofs.Common.{◌≡◌, ℕ, zero, suc, ◌<◌, List, [], ◌∷◌, length, drop, set, get_or, refl, ap, sym, ◌∙◌, arith}
use Rattle.sp_tree.specs.declared.fault.FaultKind.TheVariants.{IncompleteType, BadOperand}
use Rattle.sp_parse_trees.specs.Syntax.{External, definition, external_declaration, semicolon}
use Rattle.sp_parse_trees.specs.View.{external_of, externals_of}
use Rattle.sp_parse_trees.specs.declared.statement.External.{External as CodeExternal}
use Rattle.sp_base_checked.specs.Answers.{accepted}
use Rattle.sp_check_scopes.specs.Scopes.{or_else}
use Rattle.sp_check_env.specs.Env.{Env}
use Rattle.sp_check_statement_rules.specs.Repeats.{where_none}
use Rattle.sp_check_mentions.specs.Undefined.{undefined_function}
use Rattle.sp_decl_check.specs.Tentative.{open_external, open_tentative}
use Rattle.sp_decl_check.specs.Definitions.{kept_of, SameOpen}
use Rattle.sp_decl_check.specs.Units.{checked_unit, unit_told}

pub first_external : (xs : List CodeExternal) (i : ℕ) (x : CodeExternal) → i < length xs → x ≡ get_or xs i x → externals_of (drop i xs) ≡ external_of x ∷ externals_of (drop (suc i) xs)
first_external [] i x h e = absurd (omega arith)
first_external (y ∷ ys) zero x h e = ap (λ z. external_of z ∷ externals_of ys) (sym e)
first_external (y ∷ ys) (suc i) x h e = first_external ys i x (omega arith) e

kept_open : (env : Env) (u : External) → open_external env (kept_of u) ≡ open_external env u
kept_open env (definition ss d s) = refl
kept_open env (external_declaration d) = refl
kept_open env semicolon = refl

-- where one of them is dropped if it is a definition, the open ones stay
pub same_open : (xs : List CodeExternal) (i : ℕ) (x y : CodeExternal) → i < length xs → x ≡ get_or xs i x → external_of y ≡ kept_of (external_of x) → SameOpen (externals_of (set xs i y)) (externals_of xs)
same_open [] i x y h is kept env = absurd (omega arith)
same_open (z ∷ zs) zero x y h is kept env =
    ap (λ o. or_else o (open_tentative env (externals_of zs)))
    (ap (open_external env) kept ∙ kept_open env (external_of x) ∙ ap (λ u. open_external env (external_of u)) is)
same_open (z ∷ zs) (suc i) x y h is kept env = ap (or_else (open_external env (external_of z))) (same_open zs i x y (omega arith) is kept env)

-- and the same is told at the end of the unit
pub same_told : (env : Env) (ns : List ℕ) (us vs : List External) → SameOpen us vs → unit_told env ns us ≡ unit_told env ns vs
same_told env ns us vs same = ap (λ o. where_none o IncompleteType (where_none (undefined_function env.tables.objects env.tables.functions) BadOperand (accepted (checked_unit env.tables ns)))) (same env)
