-- Numbers with and without a bound, halves, and the negative of a row.
use Rattle.std.proofs.Common.{◌≡◌, ◌⊎◌, inl, inr, ℕ, ◌*◌, ◌<◌, ◌==◌, Bool, true, false, cond, ◌&&◌, ℤ, pos, negsuc, ◌+ℤ◌, ◌≤ℤ◌, ◌<ℤ◌, refl, sym, ◌∙◌, arith}
use Rattle.std.specs.Prelude.{int_lt}
use Rattle.std.proofs.lemmas.Int.{ints, clamps}
use Rattle.std.proofs.lemmas.Bool.Decides.{nat_tests}
use Rattle.sp_lattice.proofs.Snaps.{int_lt_true, lt_from_int_lt, int_lt_false}
use Rattle.sp_octagon.specs.Entries.{unbounded, IsBound, least_bound, greatest_bound, cut, half, sum_of, half_sum, negative}
use Rattle.sp_octagon.specs.Facts.{IsInRange}

pub which : (t : Bool) → (t ≡ true) ⊎ (t ≡ false)
which true = inl refl
which false = inr refl

pub not_less : (a b : ℤ) → int_lt a b ≡ false → b ≤ℤ a
not_less a b h = grind (arith, ints)

-- a is below b, or not
pub below_or_not : (a b : ℤ) → (a <ℤ b) ⊎ (b ≤ℤ a)
below_or_not a b = by (int_lt a b) refl
  where
    by : (t : Bool) → int_lt a b ≡ t → (a <ℤ b) ⊎ (b ≤ℤ a)
    by true is = inl (lt_from_int_lt a b is)
    by false is = inr (not_less a b is)

-- ---- halves

pub half-is : (z : ℤ) → ((half z +ℤ half z) ≤ℤ z) × (z ≤ℤ (half z +ℤ half z +ℤ pos 1))
half-is (pos a) = (omega (arith, ints), omega (arith, ints))
half-is (negsuc a) = (omega (arith, ints), omega (arith, ints))

pub half-le : (y z : ℤ) → y ≤ℤ z → half y ≤ℤ half z
half-le y z h = omega (arith, ints, half-is y, half-is z)

pub half-double : (z : ℤ) → half (z +ℤ z) ≡ z
half-double z = omega (arith, ints, half-is (z +ℤ z))

-- ---- the negative of a row

pub negative_twice : (r : ℕ) → negative (negative r) ≡ r
negative_twice r = omega arith

pub negative-lt : (r n : ℕ) → r < 2 * n → negative r < 2 * n
negative-lt r n h = omega arith

pub negative_other : (r : ℕ) → r ≡ negative r → ⊥
negative_other r h = omega arith

-- ---- sums

pub sum_of-is : (a b : ℤ) → IsBound a → IsBound b → sum_of a b ≡ (a +ℤ b)
sum_of-is a b h g = rw (int_lt_true a unbounded h, int_lt_true b unbounded g)

pub sum_of-none_left : (a b : ℤ) → unbounded ≤ℤ a → sum_of a b ≡ unbounded
sum_of-none_left a b h = rw (int_lt_false a unbounded h)

pub sum_of-none_right : (a b : ℤ) → unbounded ≤ℤ b → sum_of a b ≡ unbounded
sum_of-none_right a b h = by (int_lt a unbounded)
  where
    by : (t : Bool) → cond (t && int_lt b unbounded) (a +ℤ b) unbounded ≡ unbounded
    by true = rw (int_lt_false b unbounded h)
    by false = refl

pub half_sum-is : (a b : ℤ) → IsBound a → IsBound b → half_sum a b ≡ half (a +ℤ b)
half_sum-is a b h g = rw (int_lt_true a unbounded h, int_lt_true b unbounded g)

pub half_sum-none_left : (a b : ℤ) → unbounded ≤ℤ a → half_sum a b ≡ unbounded
half_sum-none_left a b h = rw (int_lt_false a unbounded h)

pub half_sum-none_right : (a b : ℤ) → unbounded ≤ℤ b → half_sum a b ≡ unbounded
half_sum-none_right a b h = by (int_lt a unbounded)
  where
    by : (t : Bool) → cond (t && int_lt b unbounded) (half (a +ℤ b)) unbounded ≡ unbounded
    by true = rw (int_lt_false b unbounded h)
    by false = refl

-- a half-sum is half of the sum of two bounds, or none
pub data HalfCases (a b : ℤ) : Type 0 where
  both : IsBound a → IsBound b → half_sum a b ≡ half (a +ℤ b) → HalfCases a b
  none : half_sum a b ≡ unbounded → (IsBound a → IsBound b → ⊥) → HalfCases a b

pub half_cases : (a b : ℤ) → HalfCases a b
half_cases a b = by (below_or_not a unbounded) (below_or_not b unbounded)
  where
    by : (a <ℤ unbounded) ⊎ (unbounded ≤ℤ a) → (b <ℤ unbounded) ⊎ (unbounded ≤ℤ b) → HalfCases a b
    by (inl h) (inl g) = both h g (half_sum-is a b h g)
    by (inr h) o = none (half_sum-none_left a b h) (λ x y. absurd (omega (arith, ints, h, x)))
    by o (inr g) = none (half_sum-none_right a b g) (λ x y. absurd (omega (arith, ints, g, y)))

pub half_sum-comm : (a b : ℤ) → half_sum a b ≡ half_sum b a
half_sum-comm a b = by (half_cases a b) (half_cases b a)
  where
    by : HalfCases a b → HalfCases b a → half_sum a b ≡ half_sum b a
    by (both h g e) (both h' g' e') = omega (arith, ints, e, e', half-is (a +ℤ b), half-is (b +ℤ a))
    by (both h g e) (none e' f) = absurd (f g h)
    by (none e f) (both h g e') = absurd (f g h)
    by (none e f) (none e' f') = e ∙ sym e'

-- lesser bounds have the lesser half-sum
pub half_sum-le : (a b c d : ℤ) → a ≤ℤ c → b ≤ℤ d → half_sum a b ≤ℤ half_sum c d ⊎ (half_sum c d ≡ unbounded)
half_sum-le a b c d le le' = by (half_cases a b) (half_cases c d)
  where
    by : HalfCases a b → HalfCases c d → half_sum a b ≤ℤ half_sum c d ⊎ (half_sum c d ≡ unbounded)
    by o (none e f) = inr e
    by (none e f) (both h g e') = absurd (f (omega (arith, ints, le, h)) (omega (arith, ints, le', g)))
    by (both h g e) (both h' g' e') = inl (omega (arith, ints, e, e', half-is (a +ℤ b), half-is (c +ℤ d), le, le'))

-- ---- what is cut

-- a number is raised to the least bound, stays, or is past the greatest
pub data CutCases (z : ℤ) : Type 0 where
  raised : z ≤ℤ least_bound → cut z ≡ least_bound → CutCases z
  stays : least_bound ≤ℤ z → z ≤ℤ greatest_bound → cut z ≡ z → CutCases z
  taken : greatest_bound <ℤ z → cut z ≡ unbounded → CutCases z

pub cut_cases : (z : ℤ) → CutCases z
cut_cases z = by (int_lt greatest_bound z) refl (int_lt z least_bound) refl
  where
    by : (t : Bool) → int_lt greatest_bound z ≡ t → (s : Bool) → int_lt z least_bound ≡ s → CutCases z
    by true is s e = taken (lt_from_int_lt greatest_bound z is) (rw is refl)
    by false is true e = let low = lt_from_int_lt z least_bound e in raised (omega (arith, ints, low)) (rw is (omega (arith, ints, clamps, low)))
    by false is false e =
        let low = not_less z least_bound e in
        let high = not_less greatest_bound z is in
        stays low high (rw is (omega (arith, ints, clamps, low)))

pub cut-in_range : (z : ℤ) → IsInRange (cut z)
cut-in_range z = by (cut_cases z)
  where
    by : CutCases z → IsInRange (cut z)
    by (raised h e) = rw e (record { low = omega (arith, ints); high = λ b. omega (arith, ints); most = omega (arith, ints) })
    by (stays h g e) = rw e (record { low = h; high = λ b. g; most = omega (arith, ints, g) })
    by (taken h e) = rw e (record { low = omega (arith, ints); high = λ b. absurd (omega (arith, ints, b)); most = omega (arith, ints) })

pub cut-le : (y z : ℤ) → y ≤ℤ z → cut y ≤ℤ cut z
cut-le y z le = by (cut_cases y) (cut_cases z)
  where
    by : CutCases y → CutCases z → cut y ≤ℤ cut z
    by (raised h e) (raised h' e') = omega (arith, ints, e, e')
    by (raised h e) (stays h' g' e') = omega (arith, ints, e, e', h')
    by (raised h e) (taken h' e') = omega (arith, ints, e, e')
    by (stays h g e) (raised h' e') = omega (arith, ints, e, e', h, h', le)
    by (stays h g e) (stays h' g' e') = omega (arith, ints, e, e', le)
    by (stays h g e) (taken h' e') = omega (arith, ints, e, e', g)
    by (taken h e) (raised h' e') = absurd (omega (arith, ints, h, h', le))
    by (taken h e) (stays h' g' e') = absurd (omega (arith, ints, h, g', le))
    by (taken h e) (taken h' e') = omega (arith, ints, e, e')

-- what is in range stays
pub cut-same : (z : ℤ) → IsInRange z → cut z ≡ z
cut-same z h = by (cut_cases z) (below_or_not z unbounded)
  where
    by : CutCases z → (z <ℤ unbounded) ⊎ (unbounded ≤ℤ z) → cut z ≡ z
    by (raised low e) o = omega (arith, ints, low, e, h.low)
    by (stays low high e) o = e
    by (taken past e) (inl b) = absurd (omega (arith, ints, past, h.high b))
    by (taken past e) (inr n) = omega (arith, ints, e, n, h.most)

-- ---- tests

pub nat_same : (a b : ℕ) → a ≡ b → (a == b) ≡ true
nat_same a b h = grind (arith, nat_tests)

pub nat_other : (a b : ℕ) → (a ≡ b → ⊥) → (a == b) ≡ false
nat_other a b h = grind (arith, nat_tests)
