-- Types of units, and the composites that the program has for them (C90 6.1.2.6).
use Rattle.std.proofs.Common.{◌≡◌, ℕ, Bool, true, false, ◌&&◌, List, Option, Some, None, ◌⊎◌, inl, inr, refl, ap, sym, subst, true≢false, eqb-true}
use Rattle.std.specs.Prelude.{⊤}
use Rattle.sp_types.specs.declared.ctype.IntKind.{IntKind}
use Rattle.sp_types.specs.declared.ctype.IntKind.TheVariants.{Char, SChar, UChar, Short, UShort, Int, UInt, Long, ULong}
use Rattle.sp_types.specs.declared.ctype.FloatKind.{FloatKind}
use Rattle.sp_types.specs.declared.ctype.FloatKind.TheVariants.{Float, Double, LongDouble}
use Rattle.sp_types.specs.Types.{CType, void, integer, floating, pointer, array, structure, function, Signature}
use Rattle.sp_types.specs.Compatible.{same_kind, same_float, lengths_agree}
use Rattle.sp_check_primaries.specs.Composite.{told_length, composite, composite_signature}
use Rattle.sp_link_renaming.specs.Renaming.{number_in, renamed_type, renamed_signature}
use Rattle.sp_link_agreement.specs.Agreement.{compatible_by}
use Rattle.sp_link_structs_laws.proofs.Lists.{none_some}
use Rattle.sp_check_typing.specs.Refines.{KeepsLength, MayName, names_void, names_integer, names_floating, names_pointer, names_array, names_struct, names_open, names_function}

-- two types of one sort, whose lengths, structs and elements are related
pub data Like (L : Option ℕ → Option ℕ → Type 0) (S : ℕ → ℕ → Type 0) (E : CType → CType → Type 0)
    : CType → CType → Type 0 where
  like_void : Like L S E void void
  like_integer : (k : IntKind) → Like L S E (integer k) (integer k)
  like_floating : (k : FloatKind) → Like L S E (floating k) (floating k)
  like_pointer : (t u : CType) → Like L S E (pointer t) (pointer u)
  like_array : (t u : CType) (n m : Option ℕ) → L n m → E t u → Like L S E (array t n) (array u m)
  like_struct : (k j : ℕ) → S k j → Like L S E (structure k) (structure j)
  like_function : (r s : Signature) → Like L S E (function r) (function s)

-- the lengths don't differ
abbrev pub FitsLength : Option ℕ → Option ℕ → Type 0
FitsLength None m = ⊤
FitsLength (Some n) None = ⊤
FitsLength (Some n) (Some m) = m ≡ n

-- what is like two types is like their composite, where lengths and elements allow it; its struct is
-- the first's
pub like_composite : (L M N : Option ℕ → Option ℕ → Type 0) (S R : ℕ → ℕ → Type 0) (E : CType → CType → Type 0)
    → ((n l m : Option ℕ) → L n l → M n m → N n (told_length l m))
    → ((t a b : CType) → E t a → E t (composite a b))
    → (t a b : CType) → Like L S E t a → Like M R E t b → Like N S E t (composite a b)
like_composite L M N S R E lengths elements t a b like_void like_void = like_void
like_composite L M N S R E lengths elements t a b (like_integer k) (like_integer _) = like_integer k
like_composite L M N S R E lengths elements t a b (like_floating k) (like_floating _) = like_floating k
like_composite L M N S R E lengths elements t a b (like_pointer c d) (like_pointer _ e) = like_pointer c (composite d e)
like_composite L M N S R E lengths elements t a b (like_array c d n l x p) (like_array _ e _ m y q) =
    like_array c (composite d e) n (told_length l m) (lengths n l m x y) (elements c d e p)
like_composite L M N S R E lengths elements t a b (like_struct k j x) (like_struct _ i y) = like_struct k j x
like_composite L M N S R E lengths elements t a b (like_function r s) (like_function _ q) =
    like_function r (composite_signature s q)

-- ---- lengths

pub first_keeps : (n l m : Option ℕ) → KeepsLength n l → FitsLength n m → KeepsLength n (told_length l m)
first_keeps None l m h k = tt
first_keeps (Some n) (Some l) m h k = h
first_keeps (Some n) None m h k = absurd (none_some n h)

pub second_keeps : (n l m : Option ℕ) → FitsLength n l → KeepsLength n m → KeepsLength n (told_length l m)
second_keeps None l m h k = tt
second_keeps (Some n) None m h k = k
second_keeps (Some n) (Some l) m h k = ap Some h

pub both_fit : (n l m : Option ℕ) → FitsLength n l → FitsLength n m → FitsLength n (told_length l m)
both_fit None l m h k = tt
both_fit (Some n) None m h k = k
both_fit (Some n) (Some l) m h k = h

keeps_self : (n : Option ℕ) → KeepsLength n n
keeps_self None = tt
keeps_self (Some n) = refl

fits_self : (n : Option ℕ) → FitsLength n n
fits_self None = tt
fits_self (Some n) = refl

-- ---- a type itself, in the program

module _ (S : ℕ → ℕ → Type 0) (E : CType → CType → Type 0) (ns : List ℕ) (same : (k : ℕ) → S k (number_in ns k)) where
  like_self : (L : Option ℕ → Option ℕ → Type 0) → ((n : Option ℕ) → L n n) → (t : CType)
      → ((a : CType) (n : Option ℕ) → t ≡ array a n → E a (renamed_type ns a)) → Like L S E t (renamed_type ns t)
  like_self L self void elements = like_void
  like_self L self (integer k) elements = like_integer k
  like_self L self (floating k) elements = like_floating k
  like_self L self (pointer t) elements = like_pointer t (renamed_type ns t)
  like_self L self (array t n) elements = like_array t (renamed_type ns t) n n (self n) (elements t n refl)
  like_self L self (structure k) elements = like_struct k (number_in ns k) (same k)
  like_self L self (function s) elements = like_function s (renamed_signature ns s)

  pub self_keeps : (t : CType) → ((a : CType) (n : Option ℕ) → t ≡ array a n → E a (renamed_type ns a))
      → Like KeepsLength S E t (renamed_type ns t)
  self_keeps t elements = like_self KeepsLength keeps_self t elements

  pub self_fits : (t : CType) → ((a : CType) (n : Option ℕ) → t ≡ array a n → E a (renamed_type ns a))
      → Like FitsLength S E t (renamed_type ns t)
  self_fits t elements = like_self FitsLength fits_self t elements

-- ---- compatible types

kind_is : (a b : IntKind) → same_kind a b ≡ true → a ≡ b
kind_is Char Char h = refl
kind_is SChar SChar h = refl
kind_is UChar UChar h = refl
kind_is Short Short h = refl
kind_is UShort UShort h = refl
kind_is Int Int h = refl
kind_is UInt UInt h = refl
kind_is Long Long h = refl
kind_is ULong ULong h = refl
kind_is _ _ h = absurd (true≢false (sym h))

float_is : (a b : FloatKind) → same_float a b ≡ true → a ≡ b
float_is Float Float h = refl
float_is Double Double h = refl
float_is LongDouble LongDouble h = refl
float_is _ _ h = absurd (true≢false (sym h))

and_left : (a b : Bool) → (a && b) ≡ true → a ≡ true
and_left true b h = refl
and_left false b h = h

lengths_fit : (n m : Option ℕ) → lengths_agree n m ≡ true → FitsLength n m
lengths_fit None m h = tt
lengths_fit (Some n) None h = tt
lengths_fit (Some n) (Some m) h = sym (eqb-true n m h)

-- the first as the unit has it, the second as the program does, where its structs have the numbers `ns`
pub compatible_like : (S : ℕ → ℕ → Type 0) (E : CType → CType → Type 0) (ns : List ℕ) (agree : ℕ → ℕ → Bool)
    → (t u : CType) → ((k j : ℕ) → t ≡ structure k → u ≡ structure j → S k (number_in ns j))
    → ((a b : CType) (n m : Option ℕ) → t ≡ array a n → u ≡ array b m → E a (renamed_type ns b))
    → compatible_by agree t u ≡ true → Like FitsLength S E t (renamed_type ns u)
compatible_like S E ns agree void void structs elements h = like_void
compatible_like S E ns agree (integer j) (integer k) structs elements h =
    subst (λ i. Like FitsLength S E (integer j) (integer i)) (kind_is j k h) (like_integer j)
compatible_like S E ns agree (floating j) (floating k) structs elements h =
    subst (λ i. Like FitsLength S E (floating j) (floating i)) (float_is j k h) (like_floating j)
compatible_like S E ns agree (pointer t) (pointer u) structs elements h = like_pointer t (renamed_type ns u)
compatible_like S E ns agree (array t n) (array u m) structs elements h =
    like_array t (renamed_type ns u) n m (lengths_fit n m (and_left (lengths_agree n m) (compatible_by agree t u) h))
    (elements t u n m refl refl)
compatible_like S E ns agree (structure k) (structure j) structs elements h =
    like_struct k (number_in ns j) (structs k j refl refl)
compatible_like S E ns agree (function r) (function s) structs elements h = like_function r (renamed_signature ns s)
compatible_like S E ns agree t u structs elements h = absurd (true≢false (sym h))

-- the same, where the second type was declared first
pub compatible_back : (S : ℕ → ℕ → Type 0) (E : CType → CType → Type 0) (ns : List ℕ) (agree : ℕ → ℕ → Bool)
    → (t u : CType) → ((k j : ℕ) → t ≡ structure k → u ≡ structure j → S k (number_in ns j))
    → ((a b : CType) (n m : Option ℕ) → t ≡ array a n → u ≡ array b m → E a (renamed_type ns b))
    → compatible_by agree u t ≡ true → Like FitsLength S E t (renamed_type ns u)
compatible_back S E ns agree void void structs elements h = like_void
compatible_back S E ns agree (integer j) (integer k) structs elements h =
    subst (λ i. Like FitsLength S E (integer j) (integer i)) (sym (kind_is k j h)) (like_integer j)
compatible_back S E ns agree (floating j) (floating k) structs elements h =
    subst (λ i. Like FitsLength S E (floating j) (floating i)) (sym (float_is k j h)) (like_floating j)
compatible_back S E ns agree (pointer t) (pointer u) structs elements h = like_pointer t (renamed_type ns u)
compatible_back S E ns agree (array t n) (array u m) structs elements h =
    like_array t (renamed_type ns u) n m
    (fits_back m n (lengths_fit m n (and_left (lengths_agree m n) (compatible_by agree u t) h)))
    (elements t u n m refl refl)
  where
    fits_back : (m n : Option ℕ) → FitsLength m n → FitsLength n m
    fits_back m None k = tt
    fits_back None (Some n) k = tt
    fits_back (Some m) (Some n) k = sym k
compatible_back S E ns agree (structure k) (structure j) structs elements h =
    like_struct k (number_in ns j) (structs k j refl refl)
compatible_back S E ns agree (function r) (function s) structs elements h = like_function r (renamed_signature ns s)
compatible_back S E ns agree t u structs elements h = absurd (true≢false (sym h))

-- ---- what may be named

-- where each struct is the unit's, or incomplete there
pub like_named : (S : ℕ → ℕ → Type 0) (E : CType → CType → Type 0) (o : ℕ → Bool) (ns : List ℕ) (t u : CType)
    → ((k j : ℕ) → t ≡ structure k → S k j → (o k ≡ true) ⊎ (j ≡ number_in ns k))
    → Like KeepsLength S E t u → MayName o (number_in ns) t u
like_named S E o ns t u structs like_void = names_void
like_named S E o ns t u structs (like_integer k) = names_integer k
like_named S E o ns t u structs (like_floating k) = names_floating k
like_named S E o ns t u structs (like_pointer a b) = names_pointer a b
like_named S E o ns t u structs (like_array a b n m h e) = names_array a b n m h
like_named S E o ns t u structs (like_struct k j h) = by (structs k j refl h)
  where
    by : (o k ≡ true) ⊎ (j ≡ number_in ns k) → MayName o (number_in ns) (structure k) (structure j)
    by (inl e) = names_open k j e
    by (inr e) = subst (λ i. MayName o (number_in ns) (structure k) (structure i)) (sym e) (names_struct k)
like_named S E o ns t u structs (like_function r s) = names_function r s
