-- Declarations of objects (C90 6.1.2.2, 6.1.2.4, 6.5, 6.7.2): a name with linkage has one entry in
-- the tables, and its declarations are compatible. `class` is the storage class of a declaration,
-- where it has one; `valued` says that an initialiser follows.
use Rattle.std.specs.Prelude.{ℕ, Bool, true, false, not, ◌&&◌, ◌||◌, List, [], ◌∷◌, length, Option, Some, None, is_some, if◌then◌else◌, slice_get}
use Rattle.sp_tree.specs.declared.fault.FaultKind.TheVariants.{RedeclaredName, IncompleteType}
use Rattle.sp_tree.specs.declared.fault.Place.{Place}
use Rattle.sp_tree.specs.declared.token.Keyword.{Keyword}
use Rattle.sp_tree.specs.declared.token.Keyword.TheVariants as words
use Rattle.sp_types.specs.Types.{CType, void}
use Rattle.sp_types.specs.Typed.{Typed}
use Rattle.sp_types.specs.Compatible.{compatible}
use Rattle.sp_types.specs.Programs.{Object}
use Rattle.sp_types.specs.declared.program.Linkage.{Linkage}
use Rattle.sp_types.specs.declared.program.Linkage.TheVariants.{External, Internal, Inner}
use Rattle.sp_types.specs.declared.program.Storage.{Storage}
use Rattle.sp_types.specs.declared.program.Storage.TheVariants.{Static, Outside, Auto}
use Rattle.sp_base_checked.specs.Answers.{Checked, accepted, refused, and_then, where_met, where_given}
use Rattle.sp_check_operands.specs.Conversions.{is_void, is_complete}
use Rattle.sp_check_scopes.specs.Meanings as means
use Rattle.sp_check_scopes.specs.Scopes.{is_file_scope}
use Rattle.sp_check_env.specs.declared.env.Entity.{Entity}
use Rattle.sp_check_env.specs.declared.env.Entity.TheVariants as entities
use Rattle.sp_check_env.specs.Env.{Env, declared, linked, with_link, with_typing, with_object, set_object, object_type}
use Rattle.sp_check_primaries.specs.Composite.{composite}
use Rattle.sp_check_primaries.specs.Functions.{extern_linkage, is_same_linkage, is_retyped, retyped}

-- ---- linkage and storage

abbrev pub has_linkage : Linkage → Bool
has_linkage Inner = false
has_linkage _ = true

abbrev pub static_linkage : Bool → Linkage
static_linkage is_file_scope = if is_file_scope then Internal else Inner

abbrev pub plain_linkage : Bool → Linkage
plain_linkage is_file_scope = if is_file_scope then External else Inner

-- 6.1.2.2: `static` at file scope makes a name internal, no class there external; `extern` takes
-- the linkage of the visible declaration where that has one; in a block every other name has none
abbrev pub linkage_for : Env → ℕ → Option Keyword → Linkage
linkage_for env n (Some words.Extern) = extern_linkage env n
linkage_for env n (Some words.Static) = static_linkage (is_file_scope env.scopes)
linkage_for env n class = plain_linkage (is_file_scope env.scopes)

-- 6.1.2.4, 6.7.2: `extern` without an initialiser defines nothing, so the object may be defined in
-- another place
abbrev pub storage_for : Linkage → Option Keyword → Bool → Storage
storage_for Inner (Some words.Static) valued = Static
storage_for Inner class valued = Auto
storage_for linkage (Some words.Extern) false = Outside
storage_for linkage class valued = Static

abbrev pub is_outside : Storage → Bool
is_outside Outside = true
is_outside _ = false

-- ---- the entry of a name

abbrev pub new_object : ℕ → CType → Storage → Linkage → Place → Object
new_object n t s l p = record { name = n; of = t; storage = s; linkage = l; start = []; place = p }

-- that which the name has by now
abbrev pub entry_for : Env → ℕ → Linkage → Option Entity
entry_for env n l = if has_linkage l then linked env n else None

-- a new one stands in the table before its type is read, so that entries come in the order of the
-- names; it has no linkage until then
abbrev pub object_reserved : Env → ℕ → Place → Option Entity → Env
object_reserved env n p (Some (entities.Object k)) = env
object_reserved env n p e = with_object env (new_object n void Outside Inner p)

abbrev pub reserved_number : Env → Option Entity → ℕ
reserved_number env (Some (entities.Object k)) = k
reserved_number env e = length env.tables.objects

-- ---- declarations

abbrev pub linked_to : Env → ℕ → Linkage → ℕ → Env
linked_to env n l k = if has_linkage l then with_link env n (entities.Object k) else env

-- the first declaration; its own type may have declared the name as a function, by a call of it
-- (6.3.2.2)
abbrev pub object_added : Env → ℕ → ℕ → CType → Storage → Linkage → Place → Checked Env
object_added env k n t s l p =
    where_met (not (is_some (entry_for env n l))) RedeclaredName p
    (declared (with_typing (linked_to (set_object env k (new_object n t s l p)) n l k) l n t p) n (means.object k) p)

-- an initialiser gives at least one value
abbrev pub is_valued : List (ℕ × Typed) → Bool
is_valued [] = false
is_valued (v ∷ vs) = true

-- 6.7.2: a declaration with an initialiser defines the object, and one that isn't `extern` does so
-- where no other defines it. The place of an object is that of the declaration that defines it
abbrev pub is_more_defined : Storage → Storage → Bool → Bool
is_more_defined old new valued = valued || is_outside old && not (is_outside new)

-- 6.1.2.6: the object then has the composite type
abbrev pub joined_object : Object → CType → Storage → Bool → Place → Object
joined_object o t s valued p =
    if is_more_defined o.storage s valued then record o { of = composite o.of t; storage = Static; place = p }
    else record o { of = composite o.of t }

-- a further declaration has the same linkage and a compatible type, and one of them at most has an
-- initialiser
abbrev pub may_join : Object → CType → Linkage → Bool → Bool
may_join o t l valued = is_same_linkage o.linkage l && compatible o.of t && not (valued && is_valued o.start)

abbrev pub joined_at : List Object → CType → Storage → Linkage → Bool → Place → ℕ → Checked Object
joined_at os t s l valued p k =
    where_given (slice_get os k) RedeclaredName p (λ o.
    where_met (may_join o t l valued) RedeclaredName p
    (accepted (joined_object o t s valued p)))

abbrev pub object_joined : Env → ℕ → CType → Storage → Linkage → Bool → Place → ℕ → Checked Env
object_joined env n t s l valued p k =
    and_then (joined_at env.tables.objects t s l valued p k) (λ o.
    declared (set_object (retyped env (is_retyped (object_type (slice_get env.tables.objects k)) o.of) l n o.of p) k o) n (means.object k) p)

-- a declaration of the name as an object of this type, whose entry is that of the name or the new
-- one, k
abbrev pub object_declared : Env → ℕ → ℕ → CType → Storage → Linkage → Bool → Place → Option Entity → Checked Env
object_declared env k n t s l valued p None = object_added env k n t s l p
object_declared env k n t s l valued p (Some (entities.Object j)) = object_joined env n t s l valued p j
object_declared env k n t s l valued p (Some (entities.Function j)) = refused RedeclaredName p

-- ---- what is defined is complete

-- 6.7.2: a tentative definition of external linkage may be completed later in the unit; `at` is the
-- place of the declarator
abbrev pub may_wait : Linkage → CType → Bool
may_wait External t = not (is_void t)
may_wait _ t = false

abbrev pub object_unvalued : Env → ℕ → Linkage → Storage → Place → Checked Env
object_unvalued env k l s at =
    where_given (object_type (slice_get env.tables.objects k)) IncompleteType at (λ t.
    where_met (is_outside s || may_wait l t || is_complete env.tables.structs t) IncompleteType at
    (accepted env))
