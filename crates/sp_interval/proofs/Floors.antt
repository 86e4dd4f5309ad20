-- Numbers divided by a number above 0, rounded down, and what is left then.
use Rattle.std.proofs.Common.{◌≡◌, ℕ, ◌-◌, ◌*◌, ◌/◌, ◌%◌, ◌<◌, ◌≤◌, ℤ, pos, negsuc, ◌-ℤ◌, ◌*ℤ◌, ◌≤ℤ◌, ap, arith}
use Rattle.std.specs.Int.{int_div_euclid, int_rem_euclid}
use Rattle.std.proofs.Math.Nat.{mul-le-mul_left, div-mul-le_self}
use Rattle.std.proofs.lemmas.Nat.{le-div}
use Rattle.std.proofs.lemmas.Int.{ints}

-- a greater dividend has no lesser quotient, a greater divisor no greater one
pub div-le-div : (a b k : ℕ) → 0 < k → a ≤ b → a / k ≤ b / k
div-le-div a b k some h = le-div (a / k) b k some (let p = div-mul-le_self a k in omega (arith, p))

pub div-le-div_divisor : (a j k : ℕ) → 0 < j → j ≤ k → a / k ≤ a / j
div-le-div_divisor a j k some h = le-div (a / k) a j some (let p = div-mul-le_self a k in let q = mul-le-mul_left (a / k) h in omega (arith, p, q))

pub quotient-le : (x y : ℤ) (m : ℕ) → 0 < m → x ≤ℤ y → int_div_euclid x (pos m) ≤ℤ int_div_euclid y (pos m)
quotient-le (pos a) (pos b) m some h = let p = div-le-div a b m some (omega (arith, ints)) in omega (arith, ints)
quotient-le (pos a) (negsuc b) m some h = absurd (omega (arith, ints))
quotient-le (negsuc a) (pos b) m some h = omega (arith, ints)
quotient-le (negsuc a) (negsuc b) m some h = let p = div-le-div b a m some (omega (arith, ints)) in omega (arith, ints)

-- what is left lies from 0 to the divisor less 1
pub rest-low : (z : ℤ) (m : ℕ) → pos 0 ≤ℤ int_rem_euclid z (pos m)
rest-low (pos a) m = omega (arith, ints)
rest-low (negsuc a) m = omega (arith, ints)

pub rest-high : (z : ℤ) (m : ℕ) → 0 < m → int_rem_euclid z (pos m) ≤ℤ pos (m - 1)
rest-high (pos a) m some = omega (arith, ints)
rest-high (negsuc a) m some = omega (arith, ints)

-- of two numbers with one quotient the greater leaves no less
pub rest-le : (x y : ℤ) (m : ℕ) → 0 < m → x ≤ℤ y → int_div_euclid x (pos m) ≡ int_div_euclid y (pos m) → int_rem_euclid x (pos m) ≤ℤ int_rem_euclid y (pos m)
rest-le (pos a) (pos b) m some h e =
    let q : a / m ≡ b / m = omega (arith, ints, e) in
    let p : m * (a / m) ≡ m * (b / m) = ap (λ k. m * k) q in
    omega (arith, ints, p)
rest-le (pos a) (negsuc b) m some h e = absurd (omega (arith, ints))
rest-le (negsuc a) (pos b) m some h e = absurd (omega (arith, ints, e))
rest-le (negsuc a) (negsuc b) m some h e =
    let q : a / m ≡ b / m = omega (arith, ints, e) in
    let p : m * (a / m) ≡ m * (b / m) = ap (λ k. m * k) q in
    omega (arith, ints, p)

-- a number below the divisor is left as it is
pub small-quotient : (z : ℤ) (m : ℕ) → 0 < m → pos 0 ≤ℤ z → z ≤ℤ pos (m - 1) → int_div_euclid z (pos m) ≡ pos 0
small-quotient (pos a) m some low high = ap pos (div-zero a m some (omega (arith, ints)))
  where
    div-zero : (a m : ℕ) → 0 < m → a < m → a / m ≡ 0
    div-zero a m some h = grind arith
small-quotient (negsuc a) m some low high = absurd (omega (arith, ints))

pub small-rest : (z : ℤ) (m : ℕ) → 0 < m → pos 0 ≤ℤ z → z ≤ℤ pos (m - 1) → int_rem_euclid z (pos m) ≡ z
small-rest (pos a) m some low high = ap pos (mod-same a m (omega (arith, ints)))
  where
    mod-same : (a m : ℕ) → a < m → a % m ≡ a
    mod-same a m h = grind arith
small-rest (negsuc a) m some low high = absurd (omega (arith, ints))

-- what is left is the number less the quotient times the divisor
pub rest-is : (z : ℤ) (m : ℕ) → 0 < m → int_rem_euclid z (pos m) ≡ (z -ℤ (int_div_euclid z (pos m) *ℤ pos m))
rest-is (pos a) m some = omega (arith, ints)
rest-is (negsuc a) m some = omega (arith, ints)
