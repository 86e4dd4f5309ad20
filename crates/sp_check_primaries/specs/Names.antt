-- Names in expressions (C90 6.3.1), and names that are called (6.3.2.2).
use Rattle.std.specs.Prelude.{ℕ, false, not, ◌||◌, List, [], Option, Some, if◌then◌else◌, slice_get, is_some, unwrap_or}
use Rattle.sp_tree.specs.declared.fault.FaultKind.TheVariants.{UndeclaredName, Setjmp}
use Rattle.sp_tree.specs.declared.fault.Place.{Place}
use Rattle.sp_types.specs.Types.{function, Signature, signature, untold}
use Rattle.sp_types.specs.Typed.{Typed, typed}
use Rattle.sp_types.specs.Typed as tree
use Rattle.sp_base_checked.specs.Answers.{Checked, accepted, refused, and_then, where_met, where_given}
use Rattle.sp_check_operands.specs.Operands.{int}
use Rattle.sp_check_binary_rules.specs.Rules.{is_jump}
use Rattle.sp_check_scopes.specs.Meanings.{Meaning}
use Rattle.sp_check_scopes.specs.Meanings as means
use Rattle.sp_check_scopes.specs.Scopes.{visible_meaning}
use Rattle.sp_check_env.specs.Env.{Env, object_type, function_type}
use Rattle.sp_check_primaries.specs.Functions.{function_declared, extern_linkage}

-- the bytes of a name
abbrev pub bytes_of : List (List ℕ) → ℕ → List ℕ
bytes_of names n = unwrap_or (slice_get names n) []

-- what a name stands for, as an expression; the name of a type stands for none
abbrev pub designated : Env → Place → Option Meaning → Checked Typed
designated env p (Some (means.object k)) = where_given (object_type (slice_get env.tables.objects k)) UndeclaredName p (λ t. accepted (typed (tree.object k) t p p))
designated env p (Some (means.function k)) = where_given (function_type (slice_get env.tables.functions k)) UndeclaredName p (λ s. accepted (typed (tree.function k) (function s) p p))
designated env p (Some (means.constant z)) = accepted (typed (tree.constant z) int p p)
designated env p _ = refused UndeclaredName p

-- the names that jump between functions are refused as such
abbrev pub name_checked : List (List ℕ) → Env → ℕ → Place → Checked Typed
name_checked names env n p = where_met (not (is_jump (bytes_of names n))) Setjmp p (designated env p (visible_meaning env.scopes n))

-- `int f()`
abbrev pub implicit_type : Signature
implicit_type = signature int untold false

-- 6.3.2.2: a name that is called and not declared is declared `extern int f()` in the innermost block, or in
-- the file where the call is in no block
abbrev pub implicit_name : List (List ℕ) → Env → ℕ → Place → Checked Env
implicit_name names env n p =
    if is_jump (bytes_of names n) || is_some (visible_meaning env.scopes n) then accepted env
    else and_then (function_declared env n (extern_linkage env n) implicit_type p) (λ x. accepted x.1)
