-- Integer constant expressions (C90 6.4).
use Rattle.std.specs.Prelude.{ℕ, ◌+◌, ◌-◌, ◌*◌, ◌^◌, ℤ, pos, neg_ℤ, ◌+ℤ◌, ◌-ℤ◌, ◌*ℤ◌, int_le, int_lt, int_div, int_rem, Bool, true, false, not, ◌&&◌, Option, Some, None, if◌then◌else◌, nat_abs}
use Rattle.std.specs.Int.{int_rem_euclid, int_shr, int_bit_and, int_bit_or, int_bit_xor, w128}
use Rattle.std.specs.Ordering.{int_eq}
use Rattle.sp_tree.specs.declared.token.Number.{Number}
use Rattle.sp_tree.specs.declared.token.Punct.{Punct}
use Rattle.sp_tree.specs.declared.token.Punct.TheVariants.{Star, Slash, Percent, Plus, Minus, Tilde, Exclamation, ShiftLeft, ShiftRight, Less, Greater, LessEqual, GreaterEqual, EqualEqual, NotEqual, Caret, Ampersand, Bar, AndAnd, OrOr}
use Rattle.sp_types.specs.declared.ctype.IntKind.{IntKind}
use Rattle.sp_types.specs.declared.ctype.IntKind.TheVariants.{UChar, UShort, Int, UInt, Long, ULong}
use Rattle.sp_types.specs.Types.{CType, integer, pointer}
use Rattle.sp_types.specs.Typed.{Typed, typed, TypedForm}
use Rattle.sp_types.specs.Typed as tree
use Rattle.sp_types.specs.Layout.{integer_size}
use Rattle.sp_check_operands.specs.Conversions.{is_void}

abbrev pub is_signed : IntKind → Bool
is_signed UChar = false
is_signed UShort = false
is_signed UInt = false
is_signed ULong = false
is_signed _ = true

abbrev pub width : IntKind → ℕ
width k = 8 * integer_size k

abbrev pub least : IntKind → ℤ
least k = if is_signed k then neg_ℤ (pos (2 ^ (width k - 1))) else pos 0

abbrev pub greatest : IntKind → ℤ
greatest k = if is_signed k then pos (2 ^ (width k - 1) - 1) else pos (2 ^ width k - 1)

-- 6.2.1.2 and 6.1.2.5: an unsigned type takes the value modulo 2 to its width; out of a signed type's range there is none
abbrev pub within : IntKind → ℤ → Option ℤ
within k z =
    if is_signed k then (if int_le (least k) z && int_le z (greatest k) then Some z else None)
    else Some (int_rem_euclid z (pos (2 ^ width k)))

abbrev pub then_int : Option ℤ → (ℤ → Option ℤ) → Option ℤ
then_int None f = None
then_int (Some z) f = f z

abbrev pub truth : Bool → Option ℤ
truth true = Some (pos 1)
truth false = Some (pos 0)

abbrev pub is_zero : ℤ → Bool
is_zero z = int_eq z (pos 0)

abbrev pub quotient : IntKind → ℤ → ℤ → Option ℤ
quotient k x y = if is_zero y then None else within k (int_div x y)

abbrev pub remainder : IntKind → ℤ → ℤ → Option ℤ
remainder k x y = if is_zero y then None else within k (int_rem x y)

-- an amount of a shift is below the width
abbrev pub amount : IntKind → ℤ → Option ℕ
amount k y = if int_le (pos 0) y && int_lt y (pos (width k)) then Some (nat_abs y) else None

abbrev pub moved : IntKind → Bool → ℤ → ℕ → Option ℤ
moved k true x n = within k (x *ℤ pos (2 ^ n))
moved k false x n = within k (int_shr x n)

abbrev pub shifted : IntKind → Bool → ℤ → ℤ → Option ℤ
shifted k left x y = elim (amount k y) [ None ↦ None | Some n ↦ moved k left x n ]

abbrev pub operated : IntKind → Punct → ℤ → ℤ → Option ℤ
operated k Star x y = within k (x *ℤ y)
operated k Slash x y = quotient k x y
operated k Percent x y = remainder k x y
operated k Plus x y = within k (x +ℤ y)
operated k Minus x y = within k (x -ℤ y)
operated k ShiftLeft x y = shifted k true x y
operated k ShiftRight x y = shifted k false x y
operated k Less x y = truth (int_lt x y)
operated k Greater x y = truth (int_lt y x)
operated k LessEqual x y = truth (int_le x y)
operated k GreaterEqual x y = truth (int_le y x)
operated k EqualEqual x y = truth (int_eq x y)
operated k NotEqual x y = truth (not (int_eq x y))
operated k Ampersand x y = within k (int_bit_and w128 x y)
operated k Bar x y = within k (int_bit_or w128 x y)
operated k Caret x y = within k (int_bit_xor w128 x y)
operated k _ x y = None

abbrev pub negated : IntKind → Punct → ℤ → Option ℤ
negated k Plus x = Some x
negated k Minus x = within k (neg_ℤ x)
negated k Tilde x = within k (pos 0 -ℤ pos 1 -ℤ x)
negated k Exclamation x = truth (is_zero x)
negated k _ x = None

-- operands that are evaluated have a value; those that aren't need only be of constant form
abbrev pub joined : IntKind → Punct → Option ℤ → Option ℤ → Option ℤ
joined k AndAnd x y = then_int x (λ x. if is_zero x then truth false else then_int y (λ y. truth (not (is_zero y))))
joined k OrOr x y = then_int x (λ x. if is_zero x then then_int y (λ y. truth (not (is_zero y))) else truth true)
joined k op x y = then_int x (λ x. then_int y (operated k op x))

abbrev pub chosen : Option ℤ → Option ℤ → Option ℤ → Option ℤ
chosen c x y = then_int c (λ c. if is_zero c then y else x)

abbrev mutual
  pub constant_value : Typed → Option ℤ
  constant_value (typed f (integer k) p m) = form_value k f
  constant_value (typed f t p m) = None

  pub form_value : IntKind → TypedForm → Option ℤ
  form_value k (tree.number n) = within k (pos n.value)
  form_value k (tree.character z) = within k z
  form_value k (tree.constant z) = within k z
  form_value k (tree.convert e) = then_int (constant_value e) (within k)
  form_value k (tree.cast e) = then_int (constant_value e) (within k)
  form_value k (tree.unary op e) = then_int (constant_value e) (negated k op)
  form_value k (tree.binary op a b) = joined k op (constant_value a) (constant_value b)
  form_value k (tree.choice c a b) = chosen (constant_value c) (constant_value a) (constant_value b)
  form_value k _ = None

abbrev pub is_constant_operator : Punct → Bool
is_constant_operator Plus = true
is_constant_operator Minus = true
is_constant_operator Tilde = true
is_constant_operator Exclamation = true
is_constant_operator _ = false

-- 6.4: literals, enumeration constants and sizeof under operators and casts to integer types
abbrev mutual
  pub is_constant_form : Typed → Bool
  is_constant_form (typed f (integer k) p m) = is_constant_operand f
  is_constant_form (typed f t p m) = false

  pub is_constant_operand : TypedForm → Bool
  is_constant_operand (tree.number n) = true
  is_constant_operand (tree.character z) = true
  is_constant_operand (tree.constant z) = true
  is_constant_operand (tree.convert e) = is_constant_form e
  is_constant_operand (tree.cast e) = is_constant_form e
  is_constant_operand (tree.unary op e) = is_constant_operator op && is_constant_form e
  is_constant_operand (tree.binary op a b) = is_constant_form a && is_constant_form b
  is_constant_operand (tree.choice c a b) = is_constant_form c && is_constant_form a && is_constant_form b
  is_constant_operand _ = false

abbrev pub constant_of : Typed → Option ℤ
constant_of e = if is_constant_form e then constant_value e else None

abbrev pub is_zero_constant : Option ℤ → Bool
is_zero_constant (Some z) = is_zero z
is_zero_constant None = false

-- an integer constant expression of value 0 cast to void*
abbrev pub is_void_pointer : CType → Bool
is_void_pointer (pointer t) = is_void t
is_void_pointer _ = false

abbrev pub is_cast_zero : TypedForm → Bool
is_cast_zero (tree.cast e) = is_zero_constant (constant_of e)
is_cast_zero _ = false

abbrev pub is_null_constant : Typed → Bool
is_null_constant (typed f t p m) = is_void_pointer t && is_cast_zero f

-- 6.1.3.2: the first type of the list that holds the value
abbrev pub first_that_holds : ℕ → IntKind → IntKind → IntKind
first_that_holds v k other = if int_le (pos v) (greatest k) then k else other

abbrev pub literal_kind : Number → IntKind
literal_kind n =
    if n.unsigned then (if n.long then ULong else first_that_holds n.value UInt ULong)
    else if n.long then first_that_holds n.value Long ULong
    else if n.decimal then first_that_holds n.value Int (first_that_holds n.value Long ULong)
    else first_that_holds n.value Int (first_that_holds n.value UInt (first_that_holds n.value Long ULong))
