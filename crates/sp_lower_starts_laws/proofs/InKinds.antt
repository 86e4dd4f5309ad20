-- The value of an integer constant expression is one of its type.
use Rattle.std.proofs.Common.{◌≡◌, List, ℕ, ◌-◌, ◌^◌, ◌≤◌, ℤ, negsuc, ◌+ℤ◌, ◌-ℤ◌, ◌*ℤ◌, int_div, int_rem, Bool, true, false, not, ◌&&◌, Option, Some, None, if◌then◌else◌, refl, subst, arith}
use Rattle.std.specs.Prelude.{pos, neg_ℤ, ◌≤ℤ◌, int_le, int_lt}
use Rattle.std.specs.Int.{int_rem_euclid, int_shr, int_bit_and, int_bit_or, int_bit_xor, w128}
use Rattle.std.specs.Ordering.{int_eq}
use Rattle.std.proofs.lemmas.Int.{ints}
use Rattle.std.proofs.lemmas.Option.{none-some}
use Rattle.sp_tree.specs.declared.token.Punct.{Punct}
use Rattle.sp_tree.specs.declared.token.Punct.TheVariants.{Star, Slash, Percent, Plus, Minus, Tilde, Exclamation, ShiftLeft, ShiftRight, Less, Greater, LessEqual, GreaterEqual, EqualEqual, NotEqual, Caret, Ampersand, Bar, AndAnd, OrOr}
use Rattle.sp_types.specs.declared.ctype.IntKind.{IntKind}
use Rattle.sp_types.specs.declared.ctype.IntKind.TheVariants.{Char, SChar, UChar, Short, UShort, Int, UInt, Long, ULong}
use Rattle.sp_types.specs.Types.{void, integer, floating, pointer, array, structure, function, Struct}
use Rattle.sp_types.specs.Typed.{Typed, typed, TypedForm, of}
use Rattle.sp_types.specs.Typed as tree
use Rattle.sp_ir.specs.Formed.{InKind}
use Rattle.sp_check_constants.specs.Constants.{least, greatest, within, then_int, truth, is_zero, amount, moved, shifted, operated, negated, joined, chosen, constant_value, form_value, is_constant_form, constant_of}
use Rattle.sp_check_typing.specs.Trees.{Scene, IsTyped, IsForm, IsUnary, IsNumber}
use Rattle.sp_lower_starts_laws.proofs.Lists.{some_is}

-- ---- numbers of a type

signed_in : (low high z : ℤ) → (int_le low z && int_le z high) ≡ true → (low ≤ℤ z) × (z ≤ℤ high)
signed_in low high z h = (grind (arith, ints), grind (arith, ints))

signed_within : (low high z y : ℤ) → (if int_le low z && int_le z high then Some z else None) ≡ Some y → (low ≤ℤ y) × (y ≤ℤ high)
signed_within low high z y e = by (int_le low z && int_le z high) refl e
  where
    by : (b : Bool) → (int_le low z && int_le z high) ≡ b → (if b then Some z else None) ≡ Some y → (low ≤ℤ y) × (y ≤ℤ high)
    by true h e = subst (λ x. (low ≤ℤ x) × (x ≤ℤ high)) (some_is z y e) (signed_in low high z h)
    by false h e = absurd (none-some y e)

abbrev InRest : ℕ → ℤ → Type 0
InRest m y = (pos 0 ≤ℤ y) × (y ≤ℤ pos (m - 1))

rest_in : (z : ℤ) (m : ℕ) → 1 ≤ m → InRest m (int_rem_euclid z (pos m))
rest_in (pos a) m h = (omega (arith, ints), omega (arith, ints))
rest_in (negsuc a) m h = (omega (arith, ints), omega (arith, ints))

rest_within : (z y : ℤ) (m : ℕ) → 1 ≤ m → Some (int_rem_euclid z (pos m)) ≡ Some y → InRest m y
rest_within z y m h e = subst (InRest m) (some_is (int_rem_euclid z (pos m)) y e) (rest_in z m h)

within_in : (k : IntKind) (z y : ℤ) → within k z ≡ Some y → InKind k y
within_in Char z y e = signed_within (least Char) (greatest Char) z y e
within_in SChar z y e = signed_within (least SChar) (greatest SChar) z y e
within_in Short z y e = signed_within (least Short) (greatest Short) z y e
within_in Int z y e = signed_within (least Int) (greatest Int) z y e
within_in Long z y e = signed_within (least Long) (greatest Long) z y e
within_in UChar z y e = rest_within z y (2 ^ 8) (omega arith) e
within_in UShort z y e = rest_within z y (2 ^ 16) (omega arith) e
within_in UInt z y e = rest_within z y (2 ^ 32) (omega arith) e
within_in ULong z y e = rest_within z y (2 ^ 64) (omega arith) e

zero_in : (k : IntKind) → InKind k (pos 0)
zero_in Char = (omega arith, omega arith)
zero_in SChar = (omega arith, omega arith)
zero_in Short = (omega arith, omega arith)
zero_in Int = (omega arith, omega arith)
zero_in Long = (omega arith, omega arith)
zero_in UChar = (omega arith, omega arith)
zero_in UShort = (omega arith, omega arith)
zero_in UInt = (omega arith, omega arith)
zero_in ULong = (omega arith, omega arith)

one_in : (k : IntKind) → InKind k (pos 1)
one_in Char = (omega arith, omega arith)
one_in SChar = (omega arith, omega arith)
one_in Short = (omega arith, omega arith)
one_in Int = (omega arith, omega arith)
one_in Long = (omega arith, omega arith)
one_in UChar = (omega arith, omega arith)
one_in UShort = (omega arith, omega arith)
one_in UInt = (omega arith, omega arith)
one_in ULong = (omega arith, omega arith)

truth_in : (k : IntKind) (b : Bool) (y : ℤ) → truth b ≡ Some y → InKind k y
truth_in k true y e = subst (InKind k) (some_is (pos 1) y e) (one_in k)
truth_in k false y e = subst (InKind k) (some_is (pos 0) y e) (zero_in k)

-- ---- operators

then_some : (o : Option ℤ) (f : ℤ → Option ℤ) (y : ℤ) → then_int o f ≡ Some y → (x : ℤ) × (o ≡ Some x) × (f x ≡ Some y)
then_some None f y e = absurd (none-some y e)
then_some (Some x) f y e = (x, refl, e)

-- the operator gives numbers of the kind alone
abbrev Keeps : IntKind → Option ℤ → Type 0
Keeps k o = (y : ℤ) → o ≡ Some y → InKind k y

if_keeps : (k : IntKind) (b : Bool) (o : Option ℤ) → Keeps k o → Keeps k (if b then None else o)
if_keeps k true o h y e = absurd (none-some y e)
if_keeps k false o h y e = h y e

moved_in : (k : IntKind) (left : Bool) (x : ℤ) (n : ℕ) → Keeps k (moved k left x n)
moved_in k true x n y e = within_in k (x *ℤ pos (2 ^ n)) y e
moved_in k false x n y e = within_in k (int_shr x n) y e

shifted_in : (k : IntKind) (left : Bool) (x z : ℤ) → Keeps k (shifted k left x z)
shifted_in k left x z = by (amount k z)
  where
    by : (o : Option ℕ) → Keeps k (elim o [ None ↦ None | Some n ↦ moved k left x n ])
    by None y e = absurd (none-some y e)
    by (Some n) y e = moved_in k left x n y e

operated_in : (k : IntKind) (op : Punct) (x z : ℤ) → Keeps k (operated k op x z)
operated_in k Star x z y e = within_in k (x *ℤ z) y e
operated_in k Slash x z y e = if_keeps k (is_zero z) (within k (int_div x z)) (within_in k (int_div x z)) y e
operated_in k Percent x z y e = if_keeps k (is_zero z) (within k (int_rem x z)) (within_in k (int_rem x z)) y e
operated_in k Plus x z y e = within_in k (x +ℤ z) y e
operated_in k Minus x z y e = within_in k (x -ℤ z) y e
operated_in k ShiftLeft x z y e = shifted_in k true x z y e
operated_in k ShiftRight x z y e = shifted_in k false x z y e
operated_in k Less x z y e = truth_in k (int_lt x z) y e
operated_in k Greater x z y e = truth_in k (int_lt z x) y e
operated_in k LessEqual x z y e = truth_in k (int_le x z) y e
operated_in k GreaterEqual x z y e = truth_in k (int_le z x) y e
operated_in k EqualEqual x z y e = truth_in k (int_eq x z) y e
operated_in k NotEqual x z y e = truth_in k (not (int_eq x z)) y e
operated_in k Ampersand x z y e = within_in k (int_bit_and w128 x z) y e
operated_in k Bar x z y e = within_in k (int_bit_or w128 x z) y e
operated_in k Caret x z y e = within_in k (int_bit_xor w128 x z) y e
operated_in k op x z y e = absurd (none-some y e)

all_in : (k : IntKind) (op : Punct) (o q : Option ℤ) → Keeps k (then_int o (λ x. then_int q (operated k op x)))
all_in k op o q y e =
    let first = then_some o (λ x. then_int q (operated k op x)) y e in
    let second = then_some q (operated k op first.0) y first.2 in
    operated_in k op first.0 second.0 y second.2

truly_in : (k : IntKind) (q : Option ℤ) → Keeps k (then_int q (λ z. truth (not (is_zero z))))
truly_in k q y e = let w = then_some q (λ z. truth (not (is_zero z))) y e in truth_in k (not (is_zero w.0)) y w.2

joined_in : (k : IntKind) (op : Punct) (o q : Option ℤ) → Keeps k (joined k op o q)
joined_in k AndAnd o q y e =
    let w = then_some o (λ x. if is_zero x then truth false else then_int q (λ z. truth (not (is_zero z)))) y e in
    by (is_zero w.0) w.2
  where
    by : (b : Bool) → (if b then truth false else then_int q (λ z. truth (not (is_zero z)))) ≡ Some y → InKind k y
    by true e = truth_in k false y e
    by false e = truly_in k q y e
joined_in k OrOr o q y e =
    let w = then_some o (λ x. if is_zero x then then_int q (λ z. truth (not (is_zero z))) else truth true) y e in
    by (is_zero w.0) w.2
  where
    by : (b : Bool) → (if b then then_int q (λ z. truth (not (is_zero z))) else truth true) ≡ Some y → InKind k y
    by true e = truly_in k q y e
    by false e = truth_in k true y e
joined_in k op o q y e = all_in k op o q y e

-- a sign before a number of this kind
negated_in : (ss : List Struct) (k : IntKind) (op : Punct) (a : Typed) (x y : ℤ) → IsUnary ss op a (integer k) → IsNumber (of a) x → negated k op x ≡ Some y → InKind k y
negated_in ss k Plus a x y t h e = subst (InKind k) (some_is x y e) (subst (λ v. IsNumber v x) t.2 h)
negated_in ss k Minus a x y t h e = within_in k (neg_ℤ x) y e
negated_in ss k Tilde a x y t h e = within_in k (pos 0 -ℤ pos 1 -ℤ x) y e
negated_in ss k Exclamation a x y t h e = truth_in k (is_zero x) y e
negated_in ss k op a x y t h e = absurd (none-some y e)

-- ---- trees

-- what the tree's value is, where it has one
abbrev Valued : Typed → Type 0
Valued e = (z : ℤ) → constant_value e ≡ Some z → IsNumber (of e) z

unary_in : (ss : List Struct) (k : IntKind) (op : Punct) (a : Typed) → IsUnary ss op a (integer k) → Valued a → Keeps k (then_int (constant_value a) (negated k op))
unary_in ss k op a t h y e = let w = then_some (constant_value a) (negated k op) y e in negated_in ss k op a w.0 y t (h w.0 w.1) w.2

convert_in : (k : IntKind) (a : Typed) → Keeps k (then_int (constant_value a) (within k))
convert_in k a y e = let w = then_some (constant_value a) (within k) y e in within_in k w.0 y w.2

same_kind_in : (k : IntKind) (a : Typed) → of a ≡ integer k → Valued a → Keeps k (constant_value a)
same_kind_in k a t h y e = subst (λ v. IsNumber v y) t (h y e)

choice_in : (k : IntKind) (o : Option ℤ) (b d : Typed) → of b ≡ integer k → of d ≡ integer k → Valued b → Valued d → Keeps k (chosen o (constant_value b) (constant_value d))
choice_in k o b d t u h g y e =
    let w = then_some o (λ x. if is_zero x then constant_value d else constant_value b) y e in
    by (is_zero w.0) w.2
  where
    by : (z : Bool) → (if z then constant_value d else constant_value b) ≡ Some y → InKind k y
    by true e = same_kind_in k d u g y e
    by false e = same_kind_in k b t h y e

module _ (s : Scene) where
  mutual
    value_in : (e : Typed) → IsTyped s e → Valued e
    value_in (typed f (integer k) p m) h z e = form_in f k h.2 z e
    value_in (typed f void p m) h z e = absurd (none-some z e)
    value_in (typed f (floating k) p m) h z e = absurd (none-some z e)
    value_in (typed f (pointer t) p m) h z e = absurd (none-some z e)
    value_in (typed f (array t n) p m) h z e = absurd (none-some z e)
    value_in (typed f (structure k) p m) h z e = absurd (none-some z e)
    value_in (typed f (function s) p m) h z e = absurd (none-some z e)

    form_in : (f : TypedForm) (k : IntKind) → IsForm s (integer k) f → Keeps k (form_value k f)
    form_in (tree.number n) k h y e = within_in k (pos n.value) y e
    form_in (tree.character z) k h y e = within_in k z y e
    form_in (tree.constant z) k h y e = within_in k z y e
    form_in (tree.convert a) k h y e = convert_in k a y e
    form_in (tree.cast a) k h y e = convert_in k a y e
    form_in (tree.unary op a) k h y e = unary_in s.structs k op a h.1 (value_in a h.0) y e
    form_in (tree.binary op a b) k h y e = joined_in k op (constant_value a) (constant_value b) y e
    form_in (tree.choice a b d) k h y e = choice_in k (constant_value a) b d h.4.3 h.4.4 (value_in b h.1) (value_in d h.2) y e
    form_in (tree.object n) k h y e = absurd (none-some y e)
    form_in (tree.function n) k h y e = absurd (none-some y e)
    form_in (tree.decay a) k h y e = absurd (none-some y e)
    form_in (tree.index a b) k h y e = absurd (none-some y e)
    form_in (tree.call f es) k h y e = absurd (none-some y e)
    form_in (tree.member a n) k h y e = absurd (none-some y e)
    form_in (tree.arrow a n) k h y e = absurd (none-some y e)
    form_in (tree.after op a) k h y e = absurd (none-some y e)
    form_in (tree.assign op a b) k h y e = absurd (none-some y e)
    form_in (tree.comma a b) k h y e = absurd (none-some y e)

  -- the value of an integer constant expression
  pub constant_in : (e : Typed) → IsTyped s e → (z : ℤ) → constant_of e ≡ Some z → IsNumber (of e) z
  constant_in e h z = by (is_constant_form e)
    where
      by : (b : Bool) → (if b then constant_value e else None) ≡ Some z → IsNumber (of e) z
      by true is = value_in e h z is
      by false is = absurd (none-some z is)
