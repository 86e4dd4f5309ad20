-- Types that are the same, sorts of types, and sizes.
use Rattle.std.proofs.Common.{◌≡◌, ℕ, ◌*◌, ◌^◌, ◌≤◌, nat_le, ◌<◌, ◌==◌, ◌&&◌, ◌||◌, not, if◌then◌else◌, Bool, true, false, List, Option, Some, None, is_some, refl, ap, sym, subst, ◌∙◌, true≢false, eqb-true, arith}
use Rattle.std.specs.Prelude.{slice_get}
use Rattle.std.proofs.lemmas.Bool.{leb-true}
use Rattle.std.proofs.lemmas.Bool.Decides.{nat_tests}
use Rattle.std.proofs.Math.Nat.{mul-pos}
use Rattle.sp_types.specs.declared.ctype.IntKind.{IntKind}
use Rattle.sp_types.specs.declared.ctype.IntKind.TheVariants.{Char, SChar, UChar, Short, UShort, Int, UInt, Long, ULong}
use Rattle.sp_types.specs.declared.ctype.FloatKind.{FloatKind}
use Rattle.sp_types.specs.declared.ctype.FloatKind.TheVariants.{Float, Double, LongDouble}
use Rattle.sp_types.specs.declared.extents.Extent.{Extent}
use Rattle.sp_types.specs.Types.{CType, void, integer, floating, pointer, array, structure, function, Signature, signature, Parameters, untold, listed, CTypes, no_types, next_type, Struct}
use Rattle.sp_types.specs.Compatible.{convertible, same_kind, same_float, same_flag, same_length, same_type, same_signature, same_parameters, same_types}
use Rattle.sp_types.specs.Layout.{extent, layout, repeated, integer_extent, floating_extent}
use Rattle.sp_types.specs.Structs.{IsTable, IsWhole, IsFormed}
use Rattle.sp_check_operands.specs.Conversions.{is_complete, is_function, is_void}
use Rattle.sp_check_operands.specs.Conversions.{is_floating as is_floating_type}
use Rattle.sp_ir.specs.Formed.{is_floating}
use Rattle.sp_ir.specs.Terrain.{size_in}
use Rattle.sp_check_typing.specs.Refines.{Tells, names_void, names_integer, names_floating, names_pointer, names_array, names_struct, names_function, KeepsLength}
use Rattle.sp_check_typing.specs.Sorts.{agrees, IsSized, IsKnown}
use Rattle.sp_check_typing.specs.Trees.{Converts}
use Rattle.sp_check_formed_laws.proofs.Lists.{some_is, none_some, Each}
use Rattle.sp_check_formed_laws.proofs.Stays.{struct_some}
use Rattle.sp_check_expr_laws.specs.Sound.{HasExtent, IsSoundStruct}

pub and_true : (a b : Bool) → (a && b) ≡ true → (a ≡ true) × (b ≡ true)
and_true true b h = (refl, h)
and_true false b h = absurd (true≢false (sym h))

pub or_left : (a b : Bool) → a ≡ true → (a || b) ≡ true
or_left true b h = refl
or_left false b h = absurd (true≢false (sym h))

pub or_right : (a b : Bool) → b ≡ true → (a || b) ≡ true
or_right true b h = refl
or_right false b h = h

pub or_wider : (a b c : Bool) → (a ≡ true → b ≡ true) → (a || c) ≡ true → (b || c) ≡ true
or_wider a true c m h = refl
or_wider true false c m h = absurd (true≢false (sym (m refl)))
or_wider false false c m h = h

-- ---- the same type

pub same_kind_is : (j k : IntKind) → same_kind j k ≡ true → j ≡ k
same_kind_is Char Char h = refl
same_kind_is SChar SChar h = refl
same_kind_is UChar UChar h = refl
same_kind_is Short Short h = refl
same_kind_is UShort UShort h = refl
same_kind_is Int Int h = refl
same_kind_is UInt UInt h = refl
same_kind_is Long Long h = refl
same_kind_is ULong ULong h = refl
same_kind_is j k h = absurd (true≢false (sym h))

pub same_float_is : (j k : FloatKind) → same_float j k ≡ true → j ≡ k
same_float_is Float Float h = refl
same_float_is Double Double h = refl
same_float_is LongDouble LongDouble h = refl
same_float_is j k h = absurd (true≢false (sym h))

same_flag_is : (a b : Bool) → same_flag a b ≡ true → a ≡ b
same_flag_is true b h = sym h
same_flag_is false true h = absurd (true≢false (sym h))
same_flag_is false false h = refl

same_length_is : (n m : Option ℕ) → same_length n m ≡ true → n ≡ m
same_length_is None None h = refl
same_length_is (Some n) (Some m) h = ap (λ k. Some k) (eqb-true n m h)
same_length_is None (Some m) h = absurd (true≢false (sym h))
same_length_is (Some n) None h = absurd (true≢false (sym h))

mutual
  pub same_type_is : (t u : CType) → same_type t u ≡ true → t ≡ u
  same_type_is void void h = refl
  same_type_is (integer j) (integer k) h = ap integer (same_kind_is j k h)
  same_type_is (floating j) (floating k) h = ap floating (same_float_is j k h)
  same_type_is (pointer t) (pointer u) h = ap pointer (same_type_is t u h)
  same_type_is (array t n) (array u m) h =
      ap (λ k. array t k) (same_length_is n m (and_true (same_length n m) (same_type t u) h).0)
      ∙ ap (λ v. array v m) (same_type_is t u (and_true (same_length n m) (same_type t u) h).1)
  same_type_is (structure j) (structure k) h = ap structure (eqb-true j k h)
  same_type_is (function s) (function r) h = ap function (same_signature_is s r h)
  same_type_is t u h = absurd (true≢false (sym h))

  same_signature_is : (s r : Signature) → same_signature s r ≡ true → s ≡ r
  same_signature_is (signature a ps v) (signature b qs w) h =
      let both : (same_type a b ≡ true) × (same_parameters v w ps qs ≡ true) =
      and_true (same_type a b) (same_parameters v w ps qs) h in
      let same : (ps ≡ qs) × (v ≡ w) = same_parameters_is ps qs v w both.1 in
      ap (λ t. signature t ps v) (same_type_is a b both.0) ∙ ap (λ rs. signature b rs v) same.0 ∙ ap
      (λ x. signature b qs x) same.1

  same_parameters_is : (ps qs : Parameters) (v w : Bool) → same_parameters v w ps qs ≡ true
      → (ps ≡ qs) × (v ≡ w)
  same_parameters_is untold untold v w h = (refl, same_flag_is v w h)
  same_parameters_is (listed ts) (listed us) v w h = (
    ap listed (same_types_are ts us (and_true (same_flag v w) (same_types ts us) h).1),
    same_flag_is v w (and_true (same_flag v w) (same_types ts us) h).0,
  )
  same_parameters_is untold (listed us) v w h = absurd (true≢false (sym h))
  same_parameters_is (listed ts) untold v w h = absurd (true≢false (sym h))

  same_types_are : (ts us : CTypes) → same_types ts us ≡ true → ts ≡ us
  same_types_are no_types no_types h = refl
  same_types_are (next_type t ts) (next_type u us) h =
      ap (λ v. next_type v ts) (same_type_is t u (and_true (same_type t u) (same_types ts us) h).0)
      ∙ ap (λ vs. next_type u vs)
      (same_types_are ts us (and_true (same_type t u) (same_types ts us) h).1)
  same_types_are no_types (next_type u us) h = absurd (true≢false (sym h))
  same_types_are (next_type t ts) no_types h = absurd (true≢false (sym h))

-- ---- sorts

pub number_equals : (n : ℕ) → (n == n) ≡ true
number_equals n = grind (arith, nat_tests)

pub agrees_self : (t : CType) → is_floating t ≡ false → agrees t t ≡ true
agrees_self void h = refl
agrees_self (integer k) h = refl
agrees_self (floating k) h = absurd (true≢false h)
agrees_self (pointer t) h = refl
agrees_self (array t n) h = refl
agrees_self (structure k) h = number_equals k
agrees_self (function s) h = refl

-- what a value converts to, other than to void
pub convertible_plain : (t u : CType) → convertible t u ≡ true
    → (is_floating u ≡ false) × (is_function u ≡ false) × Converts t u
convertible_plain (integer j) (integer k) h = (refl, refl, h)
convertible_plain (integer j) (pointer u) h = (refl, refl, h)
convertible_plain (pointer t) (integer k) h = (refl, refl, h)
convertible_plain (pointer t) (pointer u) h = (refl, refl, h)
convertible_plain (structure j) (structure k) h = (refl, refl, h)
convertible_plain t u h = absurd (true≢false (sym h))

-- a struct converts to itself alone, which is no conversion
pub converted_known : (ss : List Struct) (t u : CType) → convertible t u ≡ true → same_type t u ≡ false
    → IsKnown ss u
converted_known ss (integer j) (integer k) h e = tt
converted_known ss (integer j) (pointer u) h e = tt
converted_known ss (pointer t) (integer k) h e = tt
converted_known ss (pointer t) (pointer u) h e = tt
converted_known ss (structure j) (structure k) h e = absurd (true≢false (sym h ∙ e))
converted_known ss t u h e = absurd (true≢false (sym h))

-- to itself, where it is complete
pub cast_known : (ss : List Struct) (t u : CType) → (is_void u || convertible t u) ≡ true → IsKnown ss t
    → IsKnown ss u
cast_known ss t void h k = tt
cast_known ss t (integer j) h k = tt
cast_known ss t (floating j) h k = tt
cast_known ss t (pointer u) h k = tt
cast_known ss t (array u n) h k = tt
cast_known ss (structure i) (structure j) h k = subst (λ n. IsKnown ss (structure n)) (eqb-true i j h) k
cast_known ss t (structure j) h k = absurd (true≢false (sym h))
cast_known ss t (function r) h k = tt

pub floating_same : (t : CType) → not (is_floating_type t) ≡ true → is_floating t ≡ false
floating_same (floating k) h = absurd (true≢false (sym h))
floating_same t h = refl

-- ---- sizes

pub record IsSoundTable (ss : List Struct) : Type 0 where
  pub table : IsTable ss
  pub structs : Each IsSoundStruct ss

abbrev pub IsLaid : Extent → Type 0
IsLaid e = (1 ≤ e.size) × (1 ≤ e.align) × (e.size ≤ 2 ^ 40)

pub integer_laid : (k : IntKind) → IsLaid (integer_extent k)
integer_laid Char = (omega arith, omega arith, omega arith)
integer_laid SChar = (omega arith, omega arith, omega arith)
integer_laid UChar = (omega arith, omega arith, omega arith)
integer_laid Short = (omega arith, omega arith, omega arith)
integer_laid UShort = (omega arith, omega arith, omega arith)
integer_laid Int = (omega arith, omega arith, omega arith)
integer_laid UInt = (omega arith, omega arith, omega arith)
integer_laid Long = (omega arith, omega arith, omega arith)
integer_laid ULong = (omega arith, omega arith, omega arith)

pub floating_laid : (k : FloatKind) → IsLaid (floating_extent k)
floating_laid Float = (omega arith, omega arith, omega arith)
floating_laid Double = (omega arith, omega arith, omega arith)
floating_laid LongDouble = (omega arith, omega arith, omega arith)

repeated_some : (n : ℕ) (o : Option Extent) (e : Extent) → repeated n o ≡ Some e
    → (f : Extent) × (o ≡ Some f)
repeated_some n None e p = absurd (none_some e p)
repeated_some n (Some f) e p = (f, refl)

repeated_laid : (n : ℕ) (f e : Extent) → 1 ≤ n → IsLaid f → repeated n (Some f) ≡ Some e → IsLaid e
repeated_laid n f e l h p = by (nat_le (f.size * n) (2 ^ 40)) refl p
  where
    by : (b : Bool) → nat_le (f.size * n) (2 ^ 40) ≡ b
        → (if b then Some (extent (f.size * n) f.align) else None) ≡ Some e → IsLaid e
    by true q p =
        let up : 0 < f.size * n = mul-pos h.0 l in
        let low : f.size * n ≤ 2 ^ 40 = leb-true (f.size * n) (2 ^ 40) q in
        subst IsLaid (some_is (extent (f.size * n) f.align) e p) (omega (arith, up), h.1, low)
    by false q p = absurd (none_some e p)

pub struct_laid : (s : Struct) (ss : List Struct) (ms : Option (List (ℕ × CType))) (e : Extent)
    → IsWhole ss s ms → s.extent ≡ Some e → e.size ≤ 2 ^ 40
struct_laid s ss None e w h = absurd (none_some e (sym w ∙ h))
struct_laid s ss (Some ms) e w h =
    subst (λ x. x.size ≤ 2 ^ 40) (some_is w.1.0 e (sym w.1.1 ∙ h)) w.1.3

has_extent : (o : Option Extent) (e : Extent) → HasExtent o → o ≡ Some e
    → (1 ≤ e.size) × (1 ≤ e.align)
has_extent None e h p = absurd (none_some e p)
has_extent (Some x) e h p = subst (λ y. (1 ≤ y.size) × (1 ≤ y.align)) (some_is x e p) h

module _ (ss : List Struct) (k : IsSoundTable ss) where
  pub type_laid : (t : CType) (e : Extent) → IsFormed ss t → layout ss t ≡ Some e → IsLaid e
  type_laid void e f p = absurd (none_some e p)
  type_laid (integer j) e f p = subst IsLaid (some_is (integer_extent j) e p) (integer_laid j)
  type_laid (floating j) e f p = subst IsLaid (some_is (floating_extent j) e p) (floating_laid j)
  type_laid (pointer t) e f p =
      subst IsLaid (some_is (extent 8 8) e p) (omega arith, omega arith, omega arith)
  type_laid (array t None) e f p = absurd (none_some e p)
  type_laid (array t (Some n)) e f p =
      let x : (g : Extent) × (layout ss t ≡ Some g) = repeated_some n (layout ss t) e p in
      repeated_laid n x.0 e f.1 (type_laid t x.0 f.0 x.1) (ap (repeated n) (sym x.1) ∙ p)
  type_laid (structure j) e f p =
      let x : (s : Struct) × (slice_get ss j ≡ Some s) × (s.extent ≡ Some e) =
      struct_some (slice_get ss j) e p in
      let h : (1 ≤ e.size) × (1 ≤ e.align) = has_extent x.0.extent e (k.structs j x.0 x.1).0 x.2 in
      (h.0, h.1, struct_laid x.0 ss x.0.members e (k.table j x.0 x.1) x.2)
  type_laid (function s) e f p = absurd (none_some e p)

  some_of : (o : Option Extent) → is_some o ≡ true → (e : Extent) × (o ≡ Some e)
  some_of None h = absurd (true≢false (sym h))
  some_of (Some e) h = (e, refl)

  -- a complete type has a size within the limit
  pub complete_sized : (t : CType) → IsFormed ss t → is_complete ss t ≡ true → IsSized ss t
  complete_sized t f h =
      let x : (e : Extent) × (layout ss t ≡ Some e) = some_of (layout ss t) h in
      let l : IsLaid x.0 = type_laid t x.0 f x.1 in
      subst (λ o. (1 ≤ size_in o) × (size_in o ≤ 2 ^ 40)) (sym x.1) (l.0, l.2)

-- what has a size has a layout
pub size_laid : (o : Option Extent) → 1 ≤ size_in o → (e : Extent) × (o ≡ Some e)
size_laid None h = absurd (omega (arith, h))
size_laid (Some e) h = (e, refl)

-- ---- types that tell as much

keeps_self : (n : Option ℕ) → KeepsLength n n
keeps_self None = tt
keeps_self (Some n) = refl

pub tells_self : (t : CType) → Tells t t
tells_self void = names_void
tells_self (integer k) = names_integer k
tells_self (floating k) = names_floating k
tells_self (pointer t) = names_pointer t t
tells_self (array t n) = names_array t t n n (keeps_self n)
tells_self (structure k) = names_struct k
tells_self (function s) = names_function s s
