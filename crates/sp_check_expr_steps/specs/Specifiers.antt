-- The leaves of specifiers (C90 6.5.2): what a struct, a member or an enumeration constant does once its parts are read.
use Rattle.std.specs.Prelude.{ℕ, ℤ, Bool, true, false, not, List, [], ◌∷◌, ◌++◌, Option}
use Rattle.sp_tree.specs.declared.fault.FaultKind.TheVariants.{RedeclaredName, OtherTagKind, IncompleteType, BadOperand, NotAConstant}
use Rattle.sp_tree.specs.declared.fault.Place.{Place}
use Rattle.sp_parse_trees.specs.Places.{declarator_place}
use Rattle.sp_parse_trees.specs.Syntax.{Specifier, storage, qualifier, Declarator}
use Rattle.sp_types.specs.Types.{CType, Struct}
use Rattle.sp_types.specs.Typed.{Typed}
use Rattle.sp_base_checked.specs.Answers.{Checked, accepted, and_then, where_met, where_given}
use Rattle.sp_check_operands.specs.Conversions.{is_complete}
use Rattle.sp_check_constants.specs.Constants.{constant_of}
use Rattle.sp_check_env.specs.Env.{Env}
use Rattle.sp_check_type_names.specs.Tags.{tag_found, struct_at}
use Rattle.sp_check_members.specs.Enumerators.{enumerator}
use Rattle.sp_check_members.specs.Members.{is_open, begun, has_member}
use Rattle.sp_check_members.specs.Parameters.{declared_name}

-- what a rule gives, in an unchanged environment
abbrev pub stays : {A : Type 0} → Env → Checked A → Checked (A × Env)
stays env c = and_then c (λ x. accepted (x, env))

-- neither a storage class nor a qualifier
abbrev pub names_type : Specifier → Bool
names_type (storage k) = false
names_type (qualifier k) = false
names_type s = true

-- 6.5.2.3: braces complete the struct of their tag in the innermost scope, or a new one; its members are about to be read
abbrev pub struct_opened : Env → Bool → Option ℕ → Place → Checked (ℕ × Env)
struct_opened env union tag p =
    and_then (struct_at env union tag p (tag_found env true tag)) (λ x.
    where_met (is_open x.1 x.0) OtherTagKind p
    (accepted (x.0, begun x.1 x.0 tag union)))

-- 6.5.2.1: a member has a complete type and a name of its own
abbrev pub member_added : List Struct → List (ℕ × CType) → CType → Declarator → Checked (List (ℕ × CType))
member_added ss ms t d =
    where_met (is_complete ss t) IncompleteType (declarator_place d)
    (where_given (declared_name d) BadOperand (declarator_place d) (λ n.
    where_met (not (has_member ms n.0)) RedeclaredName n.1
    (accepted (ms ++ (n.0, t) ∷ []))))

-- 6.5.2.2: an enumeration constant whose value an expression gives; `at` is the place of the expression, `p` that of the name
abbrev pub enumerator_told : Env → Typed → Place → ℕ → Place → Checked (ℤ × Env)
enumerator_told env e at n p = where_given (constant_of e) NotAConstant at (λ z. enumerator env n p z)
