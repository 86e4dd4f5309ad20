-- Results modulo 2^128, as a narrower type takes them.
use Rattle.std.proofs.Common.{rules, ◌≡◌, ℕ, zero, suc, ◌+◌, ◌-◌, ◌*◌, ◌/◌, ◌%◌, ◌^◌, ◌<◌, ◌≤◌, refl, ap, sym, ◌∙◌, subst, arith, Bool, true, false, ◌&&◌, Option, Some, None, ℤ, pos, negsuc, cond, if◌then◌else◌, int_le, nat_le, nat_lt, to_z, of_z}
use Rattle.std.specs.Int.{int_wrap, int_rem_euclid, w128, ◌∣◌}
use Rattle.std.specs.Int.RustNames.{FitsSigned, unsigned_abs, int_div}
use Rattle.std.specs.Bool.{FalseIff}
use Rattle.std.proofs.lemmas.Bool.{false≢true}
use Rattle.std.proofs.lemmas.Int.{int_wrap_fits, to_z-of_z}
use Rattle.std.proofs.Math.Nat.{mod-mod_of_dvd, div-add-mod, mod-lt, mod-eq_of_lt, add-mul-mod_self_left, div-lt_iff_lt-mul, dvd-mul_left, div-le_self, mul-div-le, div-one}
use Rattle.std.proofs.Math.Pow.{pow-lt}
use Rattle.std.proofs.Math.IntN.{neg_ℤ}
use Rattle.sp_types.specs.declared.ctype.IntKind.{IntKind}
use Rattle.sp_types.specs.declared.ctype.IntKind.TheVariants.{Char, SChar, UChar, Short, UShort, Int, UInt, Long, ULong}
use Rattle.sp_check_constants.specs.Constants.{within, is_signed, is_zero}

spread : (a k d : ℕ) → (suc a + k) * d ≡ d * a + d + d * k
spread a k d = omega arith

-- d divides n, and m is below n: what is left of the complement of m is the complement of what is left
pub complement : (d n q m : ℕ) → 0 < d → n ≡ q * d → m < n → (n - suc m) % d ≡ d - 1 - m % d
complement d n q m h e l =
    let low : m % d < d = mod-lt m h in
    let parts : d * (m / d) + m % d ≡ m = div-add-mod m d in
    let below : m / d < q = (div-lt_iff_lt-mul {k = d} {x = m} {y = q} h).1 (subst (λ x. m < x) e l) in
    let rest : suc (m / d) + (q - suc (m / d)) ≡ q = omega (arith, below) in
    let whole : n ≡ d * (m / d) + d + d * (q - suc (m / d)) = e ∙ ap (λ x. x * d) (sym rest) ∙ spread (m / d) (q - suc (m / d)) d in
    let left : n - suc m ≡ (d - 1 - m % d) + d * (q - suc (m / d)) = omega (arith, whole, parts, low) in
    ap (λ x. x % d) left ∙ add-mul-mod_self_left (d - 1 - m % d) d (q - suc (m / d)) ∙ mod-eq_of_lt (omega (arith, low))

-- the bits n of a number, taken modulo d
bits_mod : (d q n : ℕ) → 0 < d → 2 ^ 128 ≡ q * d → n < 2 ^ 128 → int_rem_euclid (to_z w128 n) (pos d) ≡ pos (n % d)
bits_mod d q n h e l =
    let c = complement d (2 ^ 128) q n h e l in
    let low : n % d < d = mod-lt n h in
    elim (nat_lt n (2 ^ 127)) as (λ b. int_rem_euclid (cond b (pos n) (negsuc (2 ^ 128 - suc n))) (pos d) ≡ pos (n % d)) [
      | true ↦ refl
      | false ↦ ap pos (omega (arith, c, low))
    ]

-- z modulo n and then modulo d
twice : (d q n : ℕ) → 0 < d → 0 < n → n ≡ q * d → (z : ℤ) → pos (unsigned_abs (int_rem_euclid z (pos n)) % d) ≡ int_rem_euclid z (pos d)
twice d q n h g e (pos a) = ap pos (mod-mod_of_dvd d a (subst (λ x. d ∣ x) (sym e) (dvd-mul_left d q)))
twice d q n h g e (negsuc a) =
    let low : a % n < n = mod-lt a g in
    let same : n - 1 - a % n ≡ n - suc (a % n) = omega arith in
    ap pos (ap (λ x. x % d) same ∙ complement d n q (a % n) h e low ∙ ap (λ x. d - 1 - x) (mod-mod_of_dvd d a (subst (λ x. d ∣ x) (sym e) (dvd-mul_left d q))))

rest_low : (n : ℕ) → 0 < n → (z : ℤ) → unsigned_abs (int_rem_euclid z (pos n)) < n
rest_low n g (pos a) = mod-lt a g
rest_low n g (negsuc a) = omega (arith, mod-lt a g)

pub wrapped : (d q : ℕ) (told z : ℤ) → 0 < d → 2 ^ 128 ≡ q * d → told ≡ int_wrap w128 z → int_rem_euclid told (pos d) ≡ int_rem_euclid z (pos d)
unfolding int_wrap
wrapped d q told z h e is =
    ap (λ x. int_rem_euclid x (pos d)) is ∙ bits_mod d q (unsigned_abs (int_rem_euclid z (pos (2 ^ 128)))) h e (rest_low (2 ^ 128) (omega arith) z) ∙ twice d q (2 ^ 128) h (omega arith) e z

out : (b : Bool) (z : ℤ) → (b ≡ true → ⊥) → (if b then Some z else None) ≡ None
out true z f = absurd (f refl)
out false z f = refl

signed_out : (lo hi : ℕ) (z : ℤ) → lo < 2 ^ 127 → hi < 2 ^ 127 → ¬ FitsSigned w128 z → None ≡ (if int_le (negsuc lo) z && int_le z (pos hi) then Some z else None)
signed_out lo hi (pos n) l h f = sym (out (nat_le n hi) (pos n) (λ e. f (record { sfits = grind (arith, e) })))
signed_out lo hi (negsuc n) l h f = sym (out (nat_le n lo && true) (negsuc n) (λ e. f (record { sfits = grind (arith, e) })))

-- a result that is lost: no number of a signed type
pub lost_is : (k : IntKind) (over : Bool) (z : ℤ) → over ≡ true → is_signed k ≡ true → FalseIff over (FitsSigned w128 z) → None ≡ within k z
lost_is k false z o s f = absurd (false≢true o)
lost_is Char true z o s f = signed_out 127 127 z (omega arith) (omega arith) f
lost_is SChar true z o s f = signed_out 127 127 z (omega arith) (omega arith) f
lost_is Short true z o s f = signed_out 32767 32767 z (omega arith) (omega arith) f
lost_is Int true z o s f = signed_out 2147483647 2147483647 z (omega arith) (omega arith) f
lost_is Long true z o s f = signed_out 9223372036854775807 9223372036854775807 z (omega arith) (omega arith) f
lost_is UChar true z o s f = absurd (false≢true s)
lost_is UShort true z o s f = absurd (false≢true s)
lost_is UInt true z o s f = absurd (false≢true s)
lost_is ULong true z o s f = absurd (false≢true s)

-- one that is kept: the exact one, or one of an unsigned type
pub kept_is : (k : IntKind) (told : ℤ) (over : Bool) (z : ℤ) → (over && is_signed k) ≡ false → told ≡ int_wrap w128 z → FalseIff over (FitsSigned w128 z) → within k told ≡ within k z
kept_is k told false z s e f = ap (within k) (e ∙ int_wrap_fits w128 z f)
kept_is Char told true z s e f = absurd (false≢true (sym s))
kept_is SChar told true z s e f = absurd (false≢true (sym s))
kept_is Short told true z s e f = absurd (false≢true (sym s))
kept_is Int told true z s e f = absurd (false≢true (sym s))
kept_is Long told true z s e f = absurd (false≢true (sym s))
kept_is UChar told true z s e f = ap Some (wrapped (2 ^ 8) (2 ^ 120) told z (omega arith) refl e)
kept_is UShort told true z s e f = ap Some (wrapped (2 ^ 16) (2 ^ 112) told z (omega arith) refl e)
kept_is UInt told true z s e f = ap Some (wrapped (2 ^ 32) (2 ^ 96) told z (omega arith) refl e)
kept_is ULong told true z s e f = ap Some (wrapped (2 ^ 64) (2 ^ 64) told z (omega arith) refl e)

pub and_left : (a b : Bool) → a ≡ false → (a && b) ≡ false
and_left false b e = refl
and_left true b e = absurd (false≢true (sym e))

pub and_right : (a b : Bool) → b ≡ false → (a && b) ≡ false
and_right false b e = refl
and_right true b e = e

-- what isn't 0 in its bits
pub not_zero : (y : ℤ) → (of_z w128 y ≡ 0 → ⊥) → is_zero y ≡ false
not_zero (pos zero) f = absurd (f refl)
not_zero (pos (suc n)) f = first_of (search rules, grind arith)
not_zero (negsuc n) f = refl

-- the bits of two numbers stand for them
pub settled : (k : IntKind) (r : Option ℤ) (op : ℤ → ℤ → ℤ) (x y : ℤ) → FitsSigned w128 x → FitsSigned w128 y → r ≡ within k (op (to_z w128 (of_z w128 x)) (to_z w128 (of_z w128 y))) → r ≡ within k (op x y)
settled k r op x y f g h = h ∙ ap (λ a. within k (op a (to_z w128 (of_z w128 y)))) (to_z-of_z w128 x f) ∙ ap (λ b. within k (op x b)) (to_z-of_z w128 y g)

pub same_bits : (x : ℤ) → FitsSigned w128 x → FitsSigned w128 (to_z w128 (of_z w128 x))
same_bits x f = subst (FitsSigned w128) (sym (to_z-of_z w128 x f)) f

neg_fits : (n : ℕ) → n ≤ 2 ^ 127 → FitsSigned w128 (neg_ℤ (pos n))
neg_fits zero h = record { sfits = omega arith }
neg_fits (suc n) h = record { sfits = omega (arith, h) }

-- a quotient fits, but by -1
pub quotient_fits : (x y : ℤ) → FitsSigned w128 x → (y ≡ negsuc 0 → ⊥) → FitsSigned w128 (int_div x y)
quotient_fits (pos a) (pos b) f g = record { sfits = omega (arith, div-le_self a b, f.sfits) }
quotient_fits (pos a) (negsuc b) f g = neg_fits (a / suc b) (omega (arith, div-le_self a (suc b), f.sfits))
quotient_fits (negsuc a) (pos b) f g = neg_fits (suc a / b) (omega (arith, div-le_self (suc a) b, f.sfits))
quotient_fits (negsuc a) (negsuc zero) f g = absurd (g refl)
quotient_fits (negsuc a) (negsuc (suc b)) f g = record { sfits = omega (arith, mul-div-le (suc a) (suc (suc b)), f.sfits) }

pub div_minus_one : (x : ℤ) → int_div x (negsuc 0) ≡ neg_ℤ x
div_minus_one (pos a) = ap (λ n. neg_ℤ (pos n)) (div-one a)
div_minus_one (negsuc a) = ap pos (div-one (suc a))

pub power_fits : (n : ℕ) → n < 64 → FitsSigned w128 (pos (2 ^ n))
power_fits n h = record { sfits = pow-lt {i = n} {j = 127} (omega (arith, h)) }
