-- Types of a unit, and those that stand for them in its program.
use Rattle.std.proofs.Common.{cond, ◌*◌, nat_le, leb-true, ◌≡◌, ℕ, ◌≤◌, ◌^◌, Bool, true, false, ◌==◌, List, Option, Some, None, is_some, is_none, refl, sym, ap, subst, ◌∙◌, true≢false, eqb-true, ◌||◌, arith}
use Rattle.std.proofs.lemmas.Bool.{eqb-false}
use Rattle.std.specs.Prelude.{⊤}
use Rattle.sp_types.specs.declared.extents.Extent.{Extent}
use Rattle.sp_types.specs.declared.ctype.IntKind.{IntKind}
use Rattle.sp_types.specs.Types.{CType, void, integer, floating, pointer, array, structure, function, Signature, signature, Parameters, untold, listed, CTypes, no_types, next_type}
use Rattle.sp_types.specs.Layout.{extent, layout, repeated}
use Rattle.sp_types.specs.Structs.{IsSmall, IsFormed, IsFormedSignature, AreFormedParameters, AreFormed}
use Rattle.sp_types.specs.Compatible.{convertible}
use Rattle.sp_ir.specs.Terrain.{size_in, size_of}
use Rattle.sp_ir.specs.Formed.{is_integer, is_pointer, is_struct, is_array, is_floating, is_scalar}
use Rattle.sp_link_renaming.specs.Renaming.{Renaming, number_in, told_by, renamed_type, renamed_signature, renamed_parameters, renamed_types}
use Rattle.sp_check_typing.specs.Sorts.{is_function, agrees, same_value, IsExact, IsSized, IsKnown, IsStored, IsStepped}
use Rattle.sp_check_typing.specs.Trees.{Scene}
use Rattle.sp_check_typing.specs.Refines.{KeepsLength, MayName, names_void, names_integer, names_floating, names_pointer, names_array, names_struct, names_open, names_function, Refines, of_void, of_integer, of_floating, of_pointer, of_array, of_struct, of_open, of_function}
use Rattle.sp_link_renaming_laws.specs.Follows.{lacks_layout, Follows}

none_some : {A : Type 0} (x : A) → None ≡ Some x → ⊥
none_some x e = true≢false (sym (ap is_some e))

some_is : {A : Type 0} (x y : A) → Some x ≡ Some y → x ≡ y
some_is x y e = cc

pub number_equals : (n : ℕ) → (n == n) ≡ true
number_equals n = by (n == n) refl
  where
    by : (b : Bool) → (n == n) ≡ b → b ≡ true
    by true e = refl
    by false e = absurd (omega (arith, eqb-false n n e))

same_numbers : (f : ℕ → ℕ) (j k : ℕ) → (j == k) ≡ true → (f j == f k) ≡ true
same_numbers f j k h = subst (λ i. (f j == f i) ≡ true) (eqb-true j k h) (number_equals (f j))

-- ---- which types stand for which

pub keeps_self : (n : Option ℕ) → KeepsLength n n
keeps_self None = tt
keeps_self (Some n) = refl

keeps_through : (n m o : Option ℕ) → KeepsLength n m → KeepsLength m o → KeepsLength n o
keeps_through None m o h k = tt
keeps_through (Some n) m o h k = subst (λ x. KeepsLength x o) h k

pub refines_self : (o : ℕ → Bool) (ns : List ℕ) (t : CType) → Refines o (number_in ns) t (renamed_type ns t)
refines_self o ns void = of_void
refines_self o ns (integer k) = of_integer k
refines_self o ns (floating k) = of_floating k
refines_self o ns (pointer t) = of_pointer t (renamed_type ns t) (refines_self o ns t)
refines_self o ns (array t n) = of_array t (renamed_type ns t) n n (refines_self o ns t) (keeps_self n)
refines_self o ns (structure k) = of_struct k
refines_self o ns (function s) = of_function s (renamed_signature ns s)

-- an object may be named with what a further type may be named with
pub named_through : (o : ℕ → Bool) (f : ℕ → ℕ) (t u v : CType) → MayName (λ k. false) (λ k. k) t u
    → MayName o f u v → MayName o f t v
named_through o f t u v names_void names_void = names_void
named_through o f t u v (names_integer k) (names_integer _) = names_integer k
named_through o f t u v (names_floating k) (names_floating _) = names_floating k
named_through o f t u v (names_pointer a b) (names_pointer _ c) = names_pointer a c
named_through o f t u v (names_array a b n m k) (names_array _ c _ i l) =
    names_array a c n i (keeps_through n m i k l)
named_through o f t u v (names_struct k) (names_struct _) = names_struct k
named_through o f t u v (names_struct k) (names_open _ j e) = names_open k j e
named_through o f t u v (names_open k j e) x = absurd (true≢false (sym e))
named_through o f t u v (names_function a b) (names_function _ c) = names_function a c

-- what names an object stands for its type in the unit
pub told_refines : (o : ℕ → Bool) (ns : List ℕ) (t u : CType) → MayName o (number_in ns) t u
    → Refines o (number_in ns) t (told_by (Some u) (renamed_type ns t))
told_refines o ns t u names_void = of_void
told_refines o ns t u (names_integer k) = of_integer k
told_refines o ns t u (names_floating k) = of_floating k
told_refines o ns t u (names_pointer a b) = refines_self o ns (pointer a)
told_refines o ns t u (names_array a b n m k) = of_array a (renamed_type ns a) n m (refines_self o ns a) k
told_refines o ns t u (names_struct k) = of_struct k
told_refines o ns t u (names_open k j e) = of_open k j e
told_refines o ns t u (names_function a b) = of_function a (renamed_signature ns a)

pub told_named : (o : ℕ → Bool) (ns : List ℕ) (t u : CType) → MayName o (number_in ns) t u
    → MayName (λ k. false) (λ k. k) (told_by (Some u) (renamed_type ns t)) u
told_named o ns t u names_void = names_void
told_named o ns t u (names_integer k) = names_integer k
told_named o ns t u (names_floating k) = names_floating k
told_named o ns t u (names_pointer a b) = names_pointer (renamed_type ns a) b
told_named o ns t u (names_array a b n m k) = names_array (renamed_type ns a) b m m (keeps_self m)
told_named o ns t u (names_struct k) = names_struct (number_in ns k)
told_named o ns t u (names_open k j e) = names_struct j
told_named o ns t u (names_function a b) = names_function (renamed_signature ns a) b

-- ---- sorts

-- no struct that the first table has without members
abbrev pub IsClosed : (ℕ → Bool) → CType → Type 0
IsClosed o (structure k) = o k ≡ false
IsClosed o t = ⊤

module _ (o : ℕ → Bool) (f : ℕ → ℕ) where
  pub integer_kept : (t u : CType) → Refines o f t u → is_integer t ≡ true → is_integer u ≡ true
  integer_kept t u of_void h = h
  integer_kept t u x h = h

  pub pointer_kept : (t u : CType) → Refines o f t u → is_pointer t ≡ true → is_pointer u ≡ true
  pointer_kept t u of_void h = h
  pointer_kept t u x h = h

  pub scalar_kept : (t u : CType) → Refines o f t u → is_scalar t ≡ true → is_scalar u ≡ true
  scalar_kept t u of_void h = h
  scalar_kept t u x h = h

  pub function_kept : (t u : CType) → Refines o f t u → is_function t ≡ true → is_function u ≡ true
  function_kept t u of_void h = h
  function_kept t u x h = h

  pub decayed_kept : (t u : CType) → Refines o f t u → (is_array t || is_function t) ≡ true → (is_array u || is_function u) ≡ true
  decayed_kept t u of_void h = h
  decayed_kept t u x h = h

  pub struct_kept : (t u : CType) → Refines o f t u → is_struct t ≡ true → is_struct u ≡ true
  struct_kept t u of_void h = h
  struct_kept t u x h = h

  pub floating_kept : (t u : CType) → Refines o f t u → is_floating t ≡ false → is_floating u ≡ false
  floating_kept t u of_void h = h
  floating_kept t u x h = h

  pub agrees_kept : (a b t u : CType) → Refines o f a b → Refines o f t u → IsClosed o t
      → agrees a t ≡ true → agrees b u ≡ true
  agrees_kept a b t u (of_struct j) (of_struct k) closed h = same_numbers f j k h
  agrees_kept a b t u (of_struct j) (of_open k i e) closed h = absurd (true≢false (sym e ∙ closed))
  agrees_kept a b t u (of_open j i e) (of_struct k) closed h =
      absurd (true≢false (sym (subst (λ n. o n ≡ true) (eqb-true j k h) e) ∙ closed))
  agrees_kept a b t u (of_open j i e) (of_open k l d) closed h = absurd (true≢false (sym d ∙ closed))
  agrees_kept a b t u of_void of_void closed h = h
  agrees_kept a b t u (of_integer j) (of_integer k) closed h = h
  agrees_kept a b t u (of_floating j) (of_floating k) closed h = h
  agrees_kept a b t u (of_pointer c d x) (of_pointer e g y) closed h = h
  agrees_kept a b t u (of_array c d n m x l) (of_array e g n2 m2 y l2) closed h = h
  agrees_kept a b t u (of_function c d) (of_function e g) closed h = h
  agrees_kept a b t u x y closed h = h

  pub value_kept : (a b t u : CType) → Refines o f a b → Refines o f t u → IsClosed o t
      → same_value a t ≡ true → same_value b u ≡ true
  value_kept a b t u (of_struct j) (of_struct k) closed h = same_numbers f j k h
  value_kept a b t u (of_struct j) (of_open k i e) closed h = absurd (true≢false (sym e ∙ closed))
  value_kept a b t u (of_open j i e) (of_struct k) closed h =
      absurd (true≢false (sym (subst (λ n. o n ≡ true) (eqb-true j k h) e) ∙ closed))
  value_kept a b t u (of_open j i e) (of_open k l d) closed h = absurd (true≢false (sym d ∙ closed))
  value_kept a b t u of_void of_void closed h = h
  value_kept a b t u (of_integer j) (of_integer k) closed h = h
  value_kept a b t u (of_floating j) (of_floating k) closed h = h
  value_kept a b t u (of_pointer c d x) (of_pointer e g y) closed h = h
  value_kept a b t u (of_array c d n m x l) (of_array e g n2 m2 y l2) closed h = h
  value_kept a b t u (of_function c d) (of_function e g) closed h = h
  value_kept a b t u x y closed h = h

  pub convertible_kept : (a b t u : CType) → Refines o f a b → Refines o f t u → IsClosed o t
      → convertible a t ≡ true → convertible b u ≡ true
  convertible_kept a b t u (of_struct j) (of_struct k) closed h = same_numbers f j k h
  convertible_kept a b t u (of_struct j) (of_open k i e) closed h = absurd (true≢false (sym e ∙ closed))
  convertible_kept a b t u (of_open j i e) (of_struct k) closed h =
      absurd (true≢false (sym (subst (λ n. o n ≡ true) (eqb-true j k h) e) ∙ closed))
  convertible_kept a b t u (of_open j i e) (of_open k l d) closed h = absurd (true≢false (sym d ∙ closed))
  convertible_kept a b t u of_void of_void closed h = h
  convertible_kept a b t u (of_integer j) (of_integer k) closed h = h
  convertible_kept a b t u (of_floating j) (of_floating k) closed h = h
  convertible_kept a b t u (of_pointer c d x) (of_pointer e g y) closed h = h
  convertible_kept a b t u (of_array c d n m x l) (of_array e g n2 m2 y l2) closed h = h
  convertible_kept a b t u (of_function c d) (of_function e g) closed h = h
  convertible_kept a b t u x y closed h = h

  pub integer_is : (k : IntKind) (t u : CType) → Refines o f t u → t ≡ integer k → u ≡ integer k
  integer_is k t u of_void h = h
  integer_is k t u (of_integer j) h = h
  integer_is k t u x h = absurd (true≢false (sym (ap is_integer h)))

  pub exact_kept : (t u a b : CType) → Refines o f t u → Refines o f a b → IsExact t a → IsExact u b
  exact_kept t u a b (of_integer k) y h = integer_is k a b y h
  exact_kept t u a b x y h = tt

all_closed : (t : CType) → IsClosed (λ k. false) t
all_closed void = tt
all_closed (integer k) = tt
all_closed (floating k) = tt
all_closed (pointer t) = tt
all_closed (array t n) = tt
all_closed (structure k) = refl
all_closed (function s) = tt

pub agrees_renamed : (ns : List ℕ) (a t : CType) → agrees a t ≡ true
    → agrees (renamed_type ns a) (renamed_type ns t) ≡ true
agrees_renamed ns a t h =
    agrees_kept (λ k. false) (number_in ns) a (renamed_type ns a) t (renamed_type ns t)
    (refines_self (λ k. false) ns a) (refines_self (λ k. false) ns t) (all_closed t) h

-- the sort of a type through another
pub agrees_through : (a b c : CType) → agrees a b ≡ true → agrees b c ≡ true → agrees a c ≡ true
agrees_through void void void h k = refl
agrees_through (integer i) (integer j) (integer k) h l = refl
agrees_through (pointer a) (pointer b) (pointer c) h l = refl
agrees_through (array a i) (array b j) (array c k) h l = refl
agrees_through (structure i) (structure j) (structure k) h l = subst (λ x. (i == x) ≡ true) (eqb-true j k l) h
agrees_through (function a) (function b) (function c) h l = refl
agrees_through void void c h k = k
agrees_through (integer i) (integer j) c h k = k
agrees_through (pointer a) (pointer b) c h k = k
agrees_through (array a i) (array b j) c h k = k
agrees_through (function a) (function b) c h k = k
agrees_through (structure i) (structure j) c h k = k
agrees_through a b c h k = absurd (true≢false (sym h))

-- what agrees with a type is not of floating type
pub not_floating : (t u : CType) → agrees t u ≡ true → is_floating t ≡ false
not_floating void u h = refl
not_floating (integer j) u h = refl
not_floating (floating j) u h = absurd (true≢false (sym h))
not_floating (pointer t) u h = refl
not_floating (array t n) u h = refl
not_floating (structure j) u h = refl
not_floating (function s) u h = refl

-- ---- layouts

-- an array too large has no layout
small_by : (b : Bool) (e : Extent) (n : ℕ) → nat_le (e.size * n) (2 ^ 40) ≡ b
    → IsSmall (cond b (Some (extent (e.size * n) e.align)) None)
small_by true e n h = leb-true (e.size * n) (2 ^ 40) h
small_by false e n h = tt

pub repeated_small : (n : ℕ) (o : Option Extent) → IsSmall (repeated n o)
repeated_small n None = tt
repeated_small n (Some e) = small_by (nat_le (e.size * n) (2 ^ 40)) e n refl

module _ (r : Renaming) (s p : Scene) (w : Follows r s p) where
  abbrev R : CType → CType → Type 0
  R t u = Refines (lacks_layout s.structs) (number_in r.structs) t u

  pub layout_kept : (t u : CType) (e : Extent) → R t u → layout s.structs t ≡ Some e → layout p.structs u ≡ Some e
  layout_kept t u e of_void h = absurd (none_some e h)
  layout_kept t u e (of_integer k) h = h
  layout_kept t u e (of_floating k) h = h
  layout_kept t u e (of_pointer a b x) h = h
  layout_kept t u e (of_array a b None m x l) h = absurd (none_some e h)
  layout_kept t u e (of_array a b (Some n) m x l) h =
      subst (λ o. layout p.structs (array b o) ≡ Some e) (sym l)
      (by (layout s.structs a) refl (λ d is. layout_kept a b d x is) h)
    where
      by : (o : Option Extent) → layout s.structs a ≡ o
          → ((d : Extent) → layout s.structs a ≡ Some d → layout p.structs b ≡ Some d) → repeated n o ≡ Some e
          → repeated n (layout p.structs b) ≡ Some e
      by None is f g = absurd (none_some e g)
      by (Some d) is f g = subst (λ o. repeated n o ≡ Some e) (sym (f d is)) g
  layout_kept t u e (of_struct k) h = w.table.layouts k e h
  layout_kept t u e (of_open k j c) h = absurd (true≢false (sym c ∙ ap is_none h))
  layout_kept t u e (of_function a b) h = absurd (none_some e h)

  -- what has a size isn't open
  size_closed : (o : Option Extent) → 1 ≤ size_in o → is_none o ≡ false
  size_closed None h = absurd (omega (arith, h))
  size_closed (Some e) h = refl

  pub known_closed : (t : CType) → IsKnown s.structs t → IsClosed (lacks_layout s.structs) t
  known_closed void h = tt
  known_closed (integer k) h = tt
  known_closed (floating k) h = tt
  known_closed (pointer t) h = tt
  known_closed (array t n) h = tt
  known_closed (structure k) h = size_closed (layout s.structs (structure k)) h
  known_closed (function g) h = tt

  pub stored_known : (t : CType) → IsStored s.structs t → IsKnown s.structs t
  stored_known (structure k) h = h
  stored_known void h = absurd h
  stored_known (integer k) h = tt
  stored_known (floating k) h = absurd h
  stored_known (pointer t) h = tt
  stored_known (array t n) h = absurd h
  stored_known (function g) h = absurd h

  pub stepped_known : (t : CType) → IsStepped s.structs t → IsKnown s.structs t
  stepped_known (structure k) h = absurd h
  stepped_known void h = absurd h
  stepped_known (integer k) h = tt
  stepped_known (floating k) h = absurd h
  stepped_known (pointer t) h = tt
  stepped_known (array t n) h = absurd h
  stepped_known (function g) h = absurd h

  size_laid : (o : Option Extent) → 1 ≤ size_in o → (e : Extent) × (o ≡ Some e)
  size_laid None h = absurd (omega (arith, h))
  size_laid (Some e) h = (e, refl)

  pub size_kept : (t u : CType) → R t u → 1 ≤ size_of s.structs t → size_of p.structs u ≡ size_of s.structs t
  size_kept t u x h =
      let l : (e : Extent) × (layout s.structs t ≡ Some e) = size_laid (layout s.structs t) h in
      ap size_in (layout_kept t u l.0 x l.1 ∙ sym l.1)

  pub some_size : (t u : CType) → R t u → 1 ≤ size_of s.structs t → 1 ≤ size_of p.structs u
  some_size t u x h = subst (λ n. 1 ≤ n) (sym (size_kept t u x h)) h

  pub sized_kept : (t u : CType) → R t u → IsSized s.structs t → IsSized p.structs u
  sized_kept t u x h = (some_size t u x h.0, subst (λ n. n ≤ 2 ^ 40) (sym (size_kept t u x h.0)) h.1)

  pub stored_kept : (t u : CType) → R t u → IsStored s.structs t → IsStored p.structs u
  stored_kept t u (of_integer k) h = tt
  stored_kept t u (of_pointer a b x) h = tt
  stored_kept t u (of_struct k) h = some_size (structure k) (structure (number_in r.structs k)) (of_struct k) h
  stored_kept t u (of_open k j c) h = some_size (structure k) (structure j) (of_open k j c) h
  stored_kept t u x h = absurd h

  pub known_kept : (t u : CType) → R t u → IsKnown s.structs t → IsKnown p.structs u
  known_kept t u (of_struct k) h = some_size (structure k) (structure (number_in r.structs k)) (of_struct k) h
  known_kept t u (of_open k j c) h = some_size (structure k) (structure j) (of_open k j c) h
  known_kept t u of_void h = tt
  known_kept t u (of_integer k) h = tt
  known_kept t u (of_floating k) h = tt
  known_kept t u (of_pointer a b x) h = tt
  known_kept t u (of_array a b n m x k) h = tt
  known_kept t u (of_function a b) h = tt

  pub stepped_kept : (t u : CType) → R t u → IsStepped s.structs t → IsStepped p.structs u
  stepped_kept t u (of_integer k) h = tt
  stepped_kept t u (of_pointer a b x) h = sized_kept a b x h
  stepped_kept t u x h = absurd h

  mutual
    pub formed_kept : (t : CType) → IsFormed s.structs t → IsFormed p.structs (renamed_type r.structs t)
    formed_kept void h = tt
    formed_kept (integer j) h = tt
    formed_kept (floating j) h = tt
    formed_kept (pointer t) h = formed_kept t h
    formed_kept (array t None) h = formed_kept t h
    formed_kept (array t (Some n)) h =
        (formed_kept t h.0, h.1, repeated_small n (layout p.structs (renamed_type r.structs t)))
    formed_kept (structure j) h = w.table.structs j h
    formed_kept (function g) h = signature_kept g h

    signature_kept : (g : Signature) → IsFormedSignature s.structs g → IsFormedSignature p.structs (renamed_signature r.structs g)
    signature_kept (signature t ps dots) h = (formed_kept t h.0, parameters_kept ps h.1)

    parameters_kept : (ps : Parameters) → AreFormedParameters s.structs ps → AreFormedParameters p.structs (renamed_parameters r.structs ps)
    parameters_kept untold h = tt
    parameters_kept (listed ts) h = all_kept ts h

    all_kept : (ts : CTypes) → AreFormed s.structs ts → AreFormed p.structs (renamed_types r.structs ts)
    all_kept no_types h = tt
    all_kept (next_type t ts) h = (formed_kept t h.0, all_kept ts h.1)
