-- The words of a number.
use Rattle.std.proofs.Common.{◌≡◌, ℕ, ◌-◌, ◌*◌, ◌/◌, ◌%◌, ◌<◌, ◌^◌, ℤ, pos, negsuc, ◌+ℤ◌, ◌-ℤ◌, ◌*ℤ◌, arith}
use Rattle.std.specs.Int.{int_div_euclid, int_rem_euclid}
use Rattle.std.proofs.lemmas.Int.{ints}

-- the quotient times the divisor and the rest are the number
pub words-are : (z : ℤ) → int_div_euclid z (pos (2 ^ 64)) *ℤ pos (2 ^ 64) +ℤ int_rem_euclid z (pos (2 ^ 64)) ≡ z
words-are (pos a) = omega (arith, ints)
words-are (negsuc a) = omega (arith, ints)

pub ruleset words = (words-are)
