-- Structs, unions and enumerations that specifiers name (C90 6.5.2.1 to 6.5.2.3).
use Rattle.std.specs.Prelude.{ℕ, Bool, true, false, not, length, Option, Some, None, if◌then◌else◌, slice_get}
use Rattle.sp_tree.specs.declared.fault.FaultKind.TheVariants.{UndeclaredName, OtherTagKind, BadOperand}
use Rattle.sp_tree.specs.declared.fault.Place.{Place}
use Rattle.sp_types.specs.Types.{CType, structure, Struct}
use Rattle.sp_base_checked.specs.Answers.{Checked, accepted, refused, and_then, where_met, where_given}
use Rattle.sp_check_operands.specs.Operands.{int}
use Rattle.sp_check_scopes.specs.declared.meaning.Tag.{Tag}
use Rattle.sp_check_scopes.specs.declared.meaning.Tag.TheVariants as tags
use Rattle.sp_check_scopes.specs.Meanings.{Meaning, named}
use Rattle.sp_check_scopes.specs.Scopes.{entry, visible_meaning, visible_tag}
use Rattle.sp_check_env.specs.Env.{Env, with_tag, with_struct}

-- 6.5.6: the type that a name stands for; `at` is the place of what the name stands in
abbrev pub type_named : Option Meaning → Option CType
type_named (Some (named t)) = Some t
type_named _ = None

abbrev pub named_checked : Env → ℕ → Place → Checked CType
named_checked env n at = where_given (type_named (visible_meaning env.scopes n)) UndeclaredName at (λ t. accepted t)

-- 6.5.2.3: `struct s;` and `struct s { .. }` speak of the innermost scope, `struct s x;` of the visible tag
abbrev pub tag_found : Env → Bool → Option ℕ → Option Tag
tag_found env inner None = None
tag_found env inner (Some n) = if inner then entry env.scopes.inner.tags n else visible_tag env.scopes n

-- a struct or a union before its members are read
abbrev pub open_struct : Option ℕ → Bool → Struct
open_struct tag union = record { tag = tag; union = union; members = None; extent = None; level = 0; leaves = 0; cells = 0 }

abbrev pub tagged : Env → Option ℕ → ℕ → Env
tagged env None k = env
tagged env (Some n) k = with_tag env n (tags.Struct k)

abbrev pub is_union : Option Struct → Option Bool
is_union None = None
is_union (Some s) = Some s.union

abbrev pub same_flag : Bool → Bool → Bool
same_flag true b = b
same_flag false b = not b

-- the struct of a specifier: that of its tag, or a new one; a tag of another kind is refused
abbrev pub struct_at : Env → Bool → Option ℕ → Place → Option Tag → Checked (ℕ × Env)
struct_at env union tag p None = accepted (length env.tables.structs, tagged (with_struct env (open_struct tag union)) tag (length env.tables.structs))
struct_at env union tag p (Some (tags.Struct k)) =
    where_given (is_union (slice_get env.tables.structs k)) OtherTagKind p (λ was.
    where_met (same_flag was union) OtherTagKind p
    (accepted (k, env)))
struct_at env union tag p (Some tags.Enum) = refused OtherTagKind p

-- a specifier without braces
abbrev pub struct_referred : Env → Bool → Bool → Option ℕ → Place → Checked (CType × Env)
struct_referred env alone union tag p = and_then (struct_at env union tag p (tag_found env alone tag)) (λ x. accepted (structure x.0, x.1))

-- 6.5.2.2, 6.5.2.3: an enumeration is declared where its constants are; its type is int
abbrev pub enum_at : Place → Option Tag → Checked CType
enum_at p (Some tags.Enum) = accepted int
enum_at p (Some (tags.Struct k)) = refused OtherTagKind p
enum_at p None = refused BadOperand p

abbrev pub enum_referred : Env → Option ℕ → Place → Checked CType
enum_referred env tag p = enum_at p (tag_found env false tag)
