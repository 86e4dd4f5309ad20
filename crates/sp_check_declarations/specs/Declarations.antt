-- Declarations of objects, functions and types (C90 6.5, 6.7.2): what they do to the environment,
-- or the fault that stands.
--
-- `class` is the storage class, where there is one, `whole` the place of the declaration, `p` that
-- of the declared name.
use Rattle.std.specs.Prelude.{ℕ, Bool, true, false, not, ◌&&◌, ◌||◌, List, [], ◌∷◌, ◌++◌, Option, Some, None, if◌then◌else◌, slice_get}
use Rattle.sp_tree.specs.declared.fault.FaultKind.TheVariants.{RedeclaredName, BadOperand, FloatingType}
use Rattle.sp_tree.specs.declared.fault.Place.{Place}
use Rattle.sp_tree.specs.declared.token.Keyword.{Keyword}
use Rattle.sp_tree.specs.declared.token.Keyword.TheVariants as words
use Rattle.sp_parse_trees.specs.Syntax.{Declarator, Init, MaybeInit, no_init, some_init, InitDeclarator, init_declarator, InitDeclarators, no_items, next_item, Declaration, declaration}
use Rattle.sp_parse_trees.specs.Places.{declarator_place}
use Rattle.sp_types.specs.Types.{CType, array, floating}
use Rattle.sp_types.specs.Programs.{Object}
use Rattle.sp_types.specs.declared.program.Linkage.{Linkage}
use Rattle.sp_types.specs.declared.program.Linkage.TheVariants.{Internal}
use Rattle.sp_types.specs.declared.program.Storage.{Storage}
use Rattle.sp_base_checked.specs.Answers.{Checked, accepted, and_then, where_met, where_given}
use Rattle.sp_check_operands.specs.Conversions.{is_function}
use Rattle.sp_check_binary_rules.specs.Rules.{function_type}
use Rattle.sp_check_scopes.specs.Meanings as means
use Rattle.sp_check_scopes.specs.Scopes.{is_file_scope}
use Rattle.sp_check_env.specs.declared.env.Entity.{Entity}
use Rattle.sp_check_env.specs.Env.{Env, set_object}
use Rattle.sp_check_env.specs.Env as env_rules
use Rattle.sp_check_primaries.specs.Functions.{extern_linkage, function_declared}
use Rattle.sp_check_members.specs.Parameters.{declared_name}
use Rattle.sp_expr_check.specs.Expressions.{specifiers_checked, declared_type}
use Rattle.sp_check_initialisers.specs.declared.targets.Target.{Target}
use Rattle.sp_check_initialisers.specs.Initialisers.{started}
use Rattle.sp_check_initialisers.specs.StaticValues.{is_static_storage}
use Rattle.sp_check_objects.specs.Objects.{has_linkage, linkage_for, storage_for, is_outside, entry_for, object_reserved, reserved_number, object_declared, object_unvalued}
use Rattle.sp_check_declarations.specs.Words.{storage_class, is_typedef, is_automatic, declares_tag, has_none, is_given, names_function}

-- ---- objects

-- a floating type, or an array of one: no object of it is defined
abbrev pub is_floating_array : CType → Bool
is_floating_array (array t n) = is_floating_array t
is_floating_array (floating k) = true
is_floating_array _ = false

-- 6.5.7: no initialiser stands at a name with linkage in a block
abbrev pub may_define : Env → Linkage → Bool → Bool
may_define env l valued = is_file_scope env.scopes || not (has_linkage l) || not valued

abbrev pub target : Object → Place → Place → Target
target o p at = record { fixed = is_static_storage o.storage; name = p; declarator = at }

-- the object of a number with its initialiser; `at` is the place of its declarator
abbrev pub object_valued : List (List ℕ) → Env → ℕ → Place → Place → Init → Checked Env
object_valued names env k p at i =
    where_given (slice_get env.tables.objects k) RedeclaredName p (λ o.
    and_then (started names env (target o p at) o.of i) (λ x.
    accepted (set_object x.1 k (record o { of = x.0.of; start = x.0.values }))))

abbrev pub object_finished : List (List ℕ) → Env → ℕ → Place → Place → Linkage → Storage → MaybeInit → Checked Env
object_finished names env k p at l s no_init = object_unvalued env k l s at
object_finished names env k p at l s (some_init i) = object_valued names env k p at i

-- an object without linkage is one of its block
abbrev pub with_number : List ℕ → Linkage → ℕ → List ℕ
with_number ks l k = if has_linkage l then ks else ks ++ k ∷ []

-- an object with its type read, behind the numbers of those before it; k is the number of its entry
abbrev pub object_told : List (List ℕ) → Env → Option Keyword → CType → ℕ → ℕ → Place → Place → MaybeInit → Linkage → Option Entity → Checked Env
object_told names env class t k n p at start l e =
    where_met (may_define env l (is_given start)) BadOperand at
    (where_met (is_outside (storage_for l class (is_given start)) || not (is_floating_array t)) FloatingType p
    (and_then (object_declared env k n t (storage_for l class (is_given start)) l (is_given start) p e) (λ env'.
    object_finished names env' k p at l (storage_for l class (is_given start)) start)))

abbrev pub object_at : List (List ℕ) → Env → List ℕ → Option Keyword → CType → Declarator → MaybeInit → ℕ → Place → Linkage → Option Entity → Checked (List ℕ × Env)
object_at names env ks class base d start n p l e =
    and_then (declared_type names (object_reserved env n p e) base d) (λ x.
    and_then (object_told names x.1 class x.0 (reserved_number env e) n p (declarator_place d) start l e) (λ env'.
    accepted (with_number ks l (reserved_number env e), env')))

abbrev pub object_checked : List (List ℕ) → Env → List ℕ → Option Keyword → CType → Declarator → MaybeInit → ℕ → Place → Checked (List ℕ × Env)
object_checked names env ks class base d start n p =
    object_at names env ks class base d start n p (linkage_for env n class) (entry_for env n (linkage_for env n class))

-- ---- functions (6.1.2.2, 6.5.1)

abbrev pub function_linkage : Env → ℕ → Option Keyword → Linkage
function_linkage env n (Some words.Static) = Internal
function_linkage env n class = extern_linkage env n

-- in a block without a storage class, or as `extern`
abbrev pub may_declare : Env → Option Keyword → Bool
may_declare env None = true
may_declare env (Some words.Extern) = true
may_declare env (Some words.Static) = is_file_scope env.scopes
may_declare env (Some k) = false

abbrev pub function_told : Env → Option Keyword → Place → CType → ℕ → Place → Place → Bool → Checked Env
function_told env class whole t n p at valued =
    where_met (may_declare env class) BadOperand whole
    (where_met (not valued) BadOperand at
    (where_given (function_type t) BadOperand at (λ s.
    and_then (function_declared env n (function_linkage env n class) s p) (λ x. accepted x.1))))

-- ---- types (6.5.6)

abbrev pub type_told : Env → CType → ℕ → Place → Place → Bool → Checked Env
type_told env t n p at valued = where_met (not valued) BadOperand at (env_rules.declared env n (means.named t) p)

-- ---- declarations

-- a function or a type, with its type read
abbrev pub other_told : Env → Option Keyword → Place → CType → ℕ → Place → Place → Bool → Checked Env
other_told env class whole t n p at valued =
    if is_typedef class then type_told env t n p at valued
    else function_told env class whole t n p at valued

abbrev pub other_checked : List (List ℕ) → Env → List ℕ → Option Keyword → Place → CType → Declarator → MaybeInit → ℕ → Place → Checked (List ℕ × Env)
other_checked names env ks class whole base d start n p =
    and_then (declared_type names env base d) (λ x.
    and_then (other_told x.1 class whole x.0 n p (declarator_place d) (is_given start)) (λ env'.
    accepted (ks, env')))

-- whether the name is that of an object
abbrev pub names_object : Option Keyword → CType → Declarator → Bool
names_object class base d = not (is_typedef class) && not (names_function (is_function base) d)

-- the numbers of objects without linkage, behind those of the declarators before
abbrev pub item_declared : List (List ℕ) → Env → Option Keyword → Place → CType → List ℕ → InitDeclarator → Checked (List ℕ × Env)
item_declared names env class whole base ks (init_declarator d start) =
    where_given (declared_name d) BadOperand (declarator_place d) (λ n.
    if names_object class base d then object_checked names env ks class base d start n.0 n.1
    else other_checked names env ks class whole base d start n.0 n.1)

abbrev pub items_declared : List (List ℕ) → Env → Option Keyword → Place → CType → List ℕ → InitDeclarators → Checked (List ℕ × Env)
items_declared names env class whole base ks no_items = accepted (ks, env)
items_declared names env class whole base ks (next_item i is) =
    and_then (item_declared names env class whole base ks i) (λ x. items_declared names x.1 class whole base x.0 is)

-- 6.5: a declaration declares a declarator, a tag or enumeration constants; its specifiers are read
-- once. The list has the numbers of the objects without linkage that it declares, in order: what a
-- block lists
abbrev pub declaration_checked : List (List ℕ) → Env → Declaration → Checked (List ℕ × Env)
declaration_checked names env (declaration ss is p) =
    and_then (specifiers_checked names env (has_none is) p ss) (λ x.
    where_met (not (is_file_scope x.1.scopes && is_automatic (storage_class ss))) BadOperand p
    (where_met (not (has_none is) || declares_tag ss) BadOperand p
    (items_declared names x.1 (storage_class ss) p x.0 [] is)))
