-- The value of a case is one of the type of its switch (C90 6.2.1.2, 6.6.4.2).
use Rattle.std.proofs.Common.{◌≡◌, ℕ, ◌+◌, ◌^◌, ◌-◌, ◌%◌, ◌<◌, ℤ, pos, negsuc, ◌≤ℤ◌, int_le, Bool, true, false, if◌then◌else◌, refl, sym, subst, arith}
use Rattle.std.specs.Prelude.{◌-ℤ◌, neg_ℤ}
use Rattle.std.specs.Int.{int_rem_euclid}
use Rattle.std.proofs.lemmas.Int.{ints}
use Rattle.std.proofs.Math.Nat.{mod-lt}
use Rattle.sp_types.specs.declared.ctype.IntKind.{IntKind}
use Rattle.sp_types.specs.declared.ctype.IntKind.TheVariants.{Char, SChar, UChar, Short, UShort, Int, UInt, Long, ULong}
use Rattle.sp_check_constants.specs.Constants.{width}
use Rattle.sp_check_statement_rules.specs.Values.{signed_of, as_kind}
use Rattle.sp_ir.specs.Formed.{InKind}

record IsRest (m : ℕ) (z : ℤ) : Type 0 where
  rest : ℕ
  is : z ≡ pos rest
  low : rest < m

rest_of : (m : ℕ) → 0 < m → (z : ℤ) → IsRest m (int_rem_euclid z (pos m))
rest_of m h (pos a) = record { rest = a % m; is = refl; low = mod-lt a h }
rest_of m h (negsuc a) = record { rest = m - 1 - a % m; is = refl; low = omega (arith, mod-lt a h) }

le_from : (a b : ℤ) → int_le a b ≡ true → a ≤ℤ b
le_from a b h = grind (arith, ints)

above_from : (a b : ℕ) → int_le (pos a) (pos b) ≡ false → b < a
above_from a b h = grind (arith, ints)

abbrev told : Bool → ℕ → ℕ → ℤ
told b r m = if b then pos r else pos r -ℤ pos m

signed_told : (m h r : ℕ) (b : Bool) → 0 < h → m ≡ h + h → r < m
    → int_le (pos r) (pos (h - 1)) ≡ b
    → (neg_ℤ (pos h) ≤ℤ told b r m) × (told b r m ≤ℤ pos (h - 1))
signed_told m h r true some twice low e =
    let up : pos r ≤ℤ pos (h - 1) = le_from (pos r) (pos (h - 1)) e in
    (omega (arith, ints), up)
signed_told m h r false some twice low e =
    let up : h - 1 < r = above_from r (h - 1) e in
    (omega (arith, ints, up), omega (arith, ints, up))

unsigned_told : (m r : ℕ) (b : Bool) → r < m → int_le (pos r) (pos (m - 1)) ≡ b
    → (pos 0 ≤ℤ told b r m) × (told b r m ≤ℤ pos (m - 1))
unsigned_told m r true low e =
    let up : pos r ≤ℤ pos (m - 1) = le_from (pos r) (pos (m - 1)) e in
    (omega (arith, ints), up)
unsigned_told m r false low e =
    let up : m - 1 < r = above_from r (m - 1) e in absurd (omega (arith, up))

kind_told : (k : IntKind) (r : ℕ) → r < 2 ^ width k → InKind k (signed_of k (pos r))
kind_told Char r low = signed_told (2 ^ 8) (2 ^ 7) r _ (omega arith) refl low refl
kind_told SChar r low = signed_told (2 ^ 8) (2 ^ 7) r _ (omega arith) refl low refl
kind_told Short r low = signed_told (2 ^ 16) (2 ^ 15) r _ (omega arith) refl low refl
kind_told Int r low = signed_told (2 ^ 32) (2 ^ 31) r _ (omega arith) refl low refl
kind_told Long r low = signed_told (2 ^ 64) (2 ^ 63) r _ (omega arith) refl low refl
kind_told UChar r low = unsigned_told (2 ^ 8) r _ low refl
kind_told UShort r low = unsigned_told (2 ^ 16) r _ low refl
kind_told UInt r low = unsigned_told (2 ^ 32) r _ low refl
kind_told ULong r low = unsigned_told (2 ^ 64) r _ low refl

width_positive : (k : IntKind) → 0 < 2 ^ width k
width_positive Char = omega arith
width_positive SChar = omega arith
width_positive UChar = omega arith
width_positive Short = omega arith
width_positive UShort = omega arith
width_positive Int = omega arith
width_positive UInt = omega arith
width_positive Long = omega arith
width_positive ULong = omega arith

pub kind_held : (k : IntKind) (z : ℤ) → InKind k (as_kind k z)
kind_held k z =
    let x : IsRest (2 ^ width k) (int_rem_euclid z (pos (2 ^ width k))) =
    rest_of (2 ^ width k) (width_positive k) z in
    subst (λ y. InKind k (signed_of k y)) (sym x.is) (kind_told k x.rest x.low)
