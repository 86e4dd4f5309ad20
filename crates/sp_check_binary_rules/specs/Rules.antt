-- One rule for each form of expression, over parts that have their types (C90 6.3): the typed tree, or the fault that stands.
--
-- `p` is the place of the whole, `m` its mark.
use Rattle.std.specs.Prelude.{ℕ, zero, suc, ℤ, ◌+◌, ◌==◌, pos, Bool, true, false, not, ◌&&◌, ◌||◌, List, [], ◌∷◌, Option, Some, None, if◌then◌else◌, nat_lt, slice_get, codes, bytes_eq}
use Rattle.sp_tree.specs.declared.fault.Place.{Place}
use Rattle.sp_tree.specs.declared.fault.FaultKind.TheVariants.{NoSuchMember, IncompleteType, BadOperand, NotAnLvalue, NotAFunction, ArgumentCount, NotConvertible, FloatingType}
use Rattle.sp_tree.specs.declared.token.Punct.{Punct}
use Rattle.sp_tree.specs.declared.token.Punct.TheVariants as marks
use Rattle.sp_types.specs.declared.extents.Extent.{Extent}
use Rattle.sp_types.specs.Types.{CType, integer, pointer, structure, function, Signature, Parameters, untold, listed, CTypes, no_types, next_type, Struct, result_of, parameters_of, is_variadic}
use Rattle.sp_types.specs.Typed.{Typed, typed, TypedList, no_typed, next_typed, of}
use Rattle.sp_types.specs.Typed as tree
use Rattle.sp_types.specs.Compatible.{convertible}
use Rattle.sp_base_checked.specs.Answers.{Checked, accepted, and_then, where_met, where_given}
use Rattle.sp_check_constants.specs.Constants.{is_null_constant}
use Rattle.sp_check_operands.specs.Conversions.{is_complete, is_scalar, is_floating, is_void, is_array, is_function, is_lvalue, converted, promoted, promoted_type}
use Rattle.sp_check_operands.specs.Operands.{int, binary_balance, are_moved_whole, choice_type, element_type, compound_type, can_move}

-- 6.3.2.1
abbrev pub indexed : List Struct → Place → Place → Typed → Typed → Checked Typed
indexed ss p m a b =
    where_given (element_type (of a) (of b)) BadOperand p (λ t.
    where_met (is_complete ss t) IncompleteType p
    (accepted (typed (tree.index a b) t p m)))

-- 6.3.2.3
abbrev pub member_type : List (ℕ × CType) → ℕ → Option CType
member_type [] n = None
member_type (x ∷ xs) n = if x.0 == n then Some x.1 else member_type xs n

abbrev pub struct_number : CType → Option ℕ
struct_number (structure k) = Some k
struct_number _ = None

abbrev pub pointed_struct : CType → Option ℕ
pointed_struct (pointer t) = struct_number t
pointed_struct _ = None

abbrev pub members_of : Option Struct → Option (List (ℕ × CType))
members_of (Some s) = s.members
members_of None = None

abbrev pub member_in : List Struct → Option ℕ → ℕ → Place → Checked CType
member_in ss k n p =
    where_given k BadOperand p (λ k.
    where_given (members_of (slice_get ss k)) IncompleteType p (λ ms.
    where_given (member_type ms n) NoSuchMember p (λ t.
    accepted t)))

abbrev pub member_taken : List Struct → ℕ → Place → Place → Typed → Checked Typed
member_taken ss n p m e = and_then (member_in ss (struct_number (of e)) n p) (λ t. accepted (typed (tree.member e n) t p m))

abbrev pub arrow_taken : List Struct → ℕ → Place → Place → Typed → Checked Typed
arrow_taken ss n p m e = and_then (member_in ss (pointed_struct (of e)) n p) (λ t. accepted (typed (tree.arrow e n) t p m))

-- 6.3.3.4: the value of sizeof
abbrev pub sized : Place → Option Extent → (ℤ → Checked Typed) → Checked Typed
sized p e f = where_given e IncompleteType p (λ x. f (pos x.size))

-- 6.3.4; anything converts to void
abbrev pub cast_to : CType → Place → Place → Place → Typed → Checked Typed
cast_to t p m at e =
    where_met (not (is_floating t)) FloatingType p
    (where_met (is_void t || convertible (of e) t) NotConvertible at
    (accepted (typed (tree.cast e) t p m)))

-- 6.3.5 to 6.3.14
abbrev pub binary : List Struct → Punct → Place → Place → Typed → Typed → Checked Typed
binary ss op p m a b =
    where_given (binary_balance op (of a) (of b)) BadOperand p (λ x.
    where_met (are_moved_whole ss op (of a) (of b)) IncompleteType p
    (accepted (typed (tree.binary op (converted x.left a) (converted x.right b)) x.result p m)))

-- 6.3.15
abbrev pub choice : Place → Place → Typed → Typed → Typed → Checked Typed
choice p m c a b =
    where_met (is_scalar (of c)) BadOperand p
    (where_given (choice_type (is_null_constant a) (is_null_constant b) (of a) (of b)) BadOperand p (λ t.
    accepted (typed (tree.choice c (converted t a) (converted t b)) t p m)))

-- 6.3.16; `at` is the place of the left side, `there` that of the right one
abbrev pub is_modifiable : Typed → Bool
is_modifiable e = is_lvalue e && not (is_array (of e))

-- 6.3.16.2
abbrev pub compound : List Struct → Punct → Place → CType → CType → Checked CType
compound ss op p a b =
    where_given (compound_type op a b) BadOperand p (λ t.
    where_met (are_moved_whole ss op a b) IncompleteType p
    (accepted t))

-- 6.3.16.1
abbrev pub stored : List Struct → Punct → Place → Place → Place → Typed → Typed → Checked Typed
stored ss marks.Assign p m there a b =
    where_met (convertible (of b) (of a)) NotConvertible there
    (accepted (typed (tree.assign marks.Assign a (converted (of a) b)) (of a) p m))
stored ss op p m there a b =
    and_then (compound ss op p (of a) (of b)) (λ t.
    accepted (typed (tree.assign op a (converted t b)) (of a) p m))

abbrev pub assign : List Struct → Punct → Place → Place → Place → Place → Typed → Typed → Checked Typed
assign ss op p m at there a b =
    where_met (is_modifiable a) NotAnLvalue at
    (where_met (is_complete ss (of a)) IncompleteType at
    (stored ss op p m there a b))

-- 6.3.2.2: what a pointer to a function says of it
abbrev pub function_type : CType → Option Signature
function_type (function s) = Some s
function_type _ = None

abbrev pub callee_type : CType → Option Signature
callee_type (pointer t) = function_type t
callee_type _ = None

abbrev pub called_signature : Place → CType → Checked Signature
called_signature at t = where_given (callee_type t) NotAFunction at (λ s. accepted s)

-- an argument that has a parameter converts to it, another is promoted; `at` is its place
abbrev pub told : Parameters → CTypes
told untold = no_types
told (listed ts) = ts

abbrev pub wanted : CTypes → CType → CType
wanted no_types t = promoted_type t
wanted (next_type u us) t = u

-- the type of a parameter, or the promoted one
abbrev pub either : Option CType → CType → CType
either (Some u) t = u
either None t = promoted_type t

abbrev pub behind : CTypes → CTypes
behind no_types = no_types
behind (next_type u us) = us

-- the types behind so many
abbrev pub behind_by : ℕ → CTypes → CTypes
behind_by zero us = us
behind_by (suc n) no_types = no_types
behind_by (suc n) (next_type u us) = behind_by n us

abbrev pub argument : CType → Place → Typed → Checked Typed
argument t at e =
    where_met (not (is_floating t)) FloatingType at
    (where_met (convertible (of e) t) NotConvertible at
    (accepted (converted t e)))

-- the argument of this number
abbrev pub argument_at : CTypes → ℕ → Place → Typed → Checked Typed
argument_at ts n at e = argument (wanted (behind_by n ts) (of e)) at e

abbrev pub types_count : CTypes → ℕ
types_count no_types = 0
types_count (next_type t ts) = 1 + types_count ts

abbrev pub typed_count : TypedList → ℕ
typed_count no_typed = 0
typed_count (next_typed e es) = 1 + typed_count es

-- as many arguments as parameters where these are told, or more where `...` ends them
abbrev pub fits_in : Parameters → Bool → ℕ → Bool
fits_in untold dots n = true
fits_in (listed ts) dots n = n == types_count ts || dots && nat_lt (types_count ts) n

abbrev pub count_fits : Signature → ℕ → Bool
count_fits s n = fits_in (parameters_of s) (is_variadic s) n

abbrev pub call_type : List Struct → Place → Signature → ℕ → Checked CType
call_type ss p s n =
    where_met (count_fits s n) ArgumentCount p
    (where_met (is_void (result_of s) || is_complete ss (result_of s)) IncompleteType p
    (accepted (result_of s)))

abbrev pub called : List Struct → Place → Place → Signature → Typed → TypedList → Checked Typed
called ss p m s callee es = and_then (call_type ss p s (typed_count es)) (λ t. accepted (typed (tree.call callee es) t p m))

-- no expression has a floating type
abbrev pub not_floating : Place → Typed → Checked Typed
not_floating p e = where_met (not (is_floating (of e))) FloatingType p (accepted e)

-- 6.3.1: a name
abbrev pub is_jump : List ℕ → Bool
is_jump name = bytes_eq name (codes "setjmp") || bytes_eq name (codes "_setjmp") || bytes_eq name (codes "longjmp")

-- 6.3.3.2, 6.3.3.3
abbrev pub addressed : Place → Place → Place → Typed → Checked Typed
addressed p m at e =
    where_met (is_lvalue e || is_function (of e)) NotAnLvalue at
    (accepted (typed (tree.unary marks.Ampersand e) (pointer (of e)) p m))

abbrev pub pointed_type : CType → Option CType
pointed_type (pointer t) = if is_void t then None else Some t
pointed_type _ = None

abbrev pub followed : Place → Place → Typed → Checked Typed
followed p m e = where_given (pointed_type (of e)) BadOperand p (λ t. accepted (typed (tree.unary marks.Star e) t p m))

abbrev pub is_integer : CType → Bool
is_integer (integer k) = true
is_integer _ = false

abbrev pub signed_or_inverted : Punct → Place → Place → Typed → Checked Typed
signed_or_inverted op p m e =
    where_met (is_integer (promoted_type (of e))) BadOperand p
    (accepted (typed (tree.unary op (promoted e)) (promoted_type (of e)) p m))

abbrev pub denied : Place → Place → Typed → Checked Typed
denied p m e = where_met (is_scalar (of e)) BadOperand p (accepted (typed (tree.unary marks.Exclamation e) int p m))

-- 6.3.2.4, 6.3.3.1: a step of a scalar; a pointer's target is complete
abbrev pub stepped_type : List Struct → Place → Place → Typed → Checked CType
stepped_type ss p at e =
    where_met (is_modifiable e) NotAnLvalue at
    (where_met (is_scalar (of e)) BadOperand p
    (where_met (can_move ss (of e)) IncompleteType p
    (accepted (of e))))

abbrev pub stepped_after : List Struct → Punct → Place → Place → Place → Typed → Checked Typed
stepped_after ss op p m at e = and_then (stepped_type ss p at e) (λ t. accepted (typed (tree.after op e) t p m))

-- 6.3.3: `&`, `++` and `--` take their operand as it stands, the others its value
abbrev pub takes_object : Punct → Bool
takes_object marks.Ampersand = true
takes_object marks.Increment = true
takes_object marks.Decrement = true
takes_object _ = false

abbrev pub unary_object : List Struct → Punct → Place → Place → Place → Typed → Checked Typed
unary_object ss marks.Ampersand p m at e = addressed p m at e
unary_object ss op p m at e = and_then (stepped_type ss p at e) (λ t. accepted (typed (tree.unary op e) t p m))

abbrev pub unary_value : Punct → Place → Place → Typed → Checked Typed
unary_value marks.Star p m e = followed p m e
unary_value marks.Exclamation p m e = denied p m e
unary_value op p m e = signed_or_inverted op p m e
