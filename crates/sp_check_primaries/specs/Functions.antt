-- Declarations of functions (C90 6.1.2.2, 6.3.2.2, 6.5.4.3): a name with linkage has one entry, and its declarations are compatible.
use Rattle.std.specs.Prelude.{ℕ, ◌&&◌, Bool, true, false, not, [], length, Option, Some, None, slice_get, if◌then◌else◌}
use Rattle.sp_tree.specs.declared.fault.FaultKind.TheVariants.{RedeclaredName}
use Rattle.sp_tree.specs.declared.fault.Place.{Place}
use Rattle.sp_types.specs.Types.{CType, function, Signature}
use Rattle.sp_types.specs.Compatible.{compatible, same_type}
use Rattle.sp_types.specs.Programs.{Function}
use Rattle.sp_types.specs.declared.program.Linkage.{Linkage}
use Rattle.sp_types.specs.declared.program.Linkage.TheVariants.{External, Internal, Inner}
use Rattle.sp_base_checked.specs.Answers.{Checked, accepted, refused, and_then, where_met, where_given}
use Rattle.sp_check_scopes.specs.Meanings.{Meaning}
use Rattle.sp_check_scopes.specs.Meanings as means
use Rattle.sp_check_scopes.specs.Scopes.{visible_meaning}
use Rattle.sp_check_env.specs.declared.env.Entity.{Entity}
use Rattle.sp_check_env.specs.declared.env.Entity.TheVariants as entities
use Rattle.sp_check_env.specs.Env.{Env, linked, with_link, with_typing, with_typings, typings_with, declared_in_block, with_function, with_function_type, object_linkage, function_linkage, function_type}
use Rattle.sp_check_primaries.specs.Composite.{composite_signature}

-- ---- linkage

-- 6.1.2.2: `extern` takes the linkage of the visible declaration where that has one, else it is external
abbrev pub extern_of : Option Linkage → Linkage
extern_of (Some Internal) = Internal
extern_of _ = External

abbrev pub linkage_of : Env → Option Meaning → Option Linkage
linkage_of env (Some (means.object k)) = object_linkage (slice_get env.tables.objects k)
linkage_of env (Some (means.function k)) = function_linkage (slice_get env.tables.functions k)
linkage_of env _ = None

abbrev pub extern_linkage : Env → ℕ → Linkage
extern_linkage env n = extern_of (linkage_of env (visible_meaning env.scopes n))

abbrev pub is_same_linkage : Linkage → Linkage → Bool
is_same_linkage External External = true
is_same_linkage Internal Internal = true
is_same_linkage Inner Inner = true
is_same_linkage _ _ = false

-- ---- the types of external names

-- a further declarator gives the name another type than it had
abbrev pub is_retyped : Option CType → CType → Bool
is_retyped None t = true
is_retyped (Some old) t = not (same_type old t)

-- which is kept, with the place of the name
abbrev pub retyped : Env → Bool → Linkage → ℕ → CType → Place → Env
retyped env changed l n t p =
    with_typings env (if changed then typings_with env.tables.typings l (record { name = n; of = t; place = p }) else env.tables.typings)

-- ---- functions

abbrev pub as_function : Option Signature → Option CType
as_function None = None
as_function (Some s) = Some (function s)

-- a function that is declared and not defined; `p` is the place of its name
abbrev pub undefined_function : ℕ → Linkage → Signature → Place → Function
undefined_function n l s p = record { name = n; of = s; linkage = l; formals = []; locals = []; body = None; place = p; end = p }

-- with a new entry, to which the name is linked
abbrev pub function_added : Env → ℕ → Linkage → Signature → Place → Checked (ℕ × Env)
function_added env n l s p =
    and_then (declared_in_block (with_typing (with_link (with_function env (undefined_function n l s p)) n (entities.Function (length env.tables.functions))) l n (function s) p) n (means.function (length env.tables.functions)) p) (λ env'.
    accepted (length env.tables.functions, env'))

-- 6.1.2.6: a further declaration has the same linkage and a compatible type; the function then has the composite type
abbrev pub joined_type : Env → Linkage → Signature → Place → ℕ → Checked Signature
joined_type env l s p k =
    where_given (function_linkage (slice_get env.tables.functions k)) RedeclaredName p (λ old.
    where_given (function_type (slice_get env.tables.functions k)) RedeclaredName p (λ t.
    where_met (is_same_linkage old l && compatible (function t) (function s)) RedeclaredName p
    (accepted (composite_signature t s))))

abbrev pub function_joined : Env → ℕ → Linkage → Signature → Place → ℕ → Checked (ℕ × Env)
function_joined env n l s p k =
    and_then (joined_type env l s p k) (λ t.
    and_then (declared_in_block (with_function_type (retyped env (is_retyped (as_function (function_type (slice_get env.tables.functions k))) (function t)) l n (function t) p) k t) n (means.function k) p) (λ env'.
    accepted (k, env')))

abbrev pub function_at : Env → ℕ → Linkage → Signature → Place → Option Entity → Checked (ℕ × Env)
function_at env n l s p None = function_added env n l s p
function_at env n l s p (Some (entities.Function k)) = function_joined env n l s p k
function_at env n l s p (Some (entities.Object k)) = refused RedeclaredName p

-- a declaration of a function in the innermost block, or in the file, with the number of its entry
abbrev pub function_declared : Env → ℕ → Linkage → Signature → Place → Checked (ℕ × Env)
function_declared env n l s p = function_at env n l s p (linked env n)
