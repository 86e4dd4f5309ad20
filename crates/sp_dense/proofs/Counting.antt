-- The visits of all nodes together.
use Rattle.std.proofs.Common.{◌≡◌, ℕ, ◌+◌, ◌*◌, ◌-◌, ◌<◌, ◌≤◌, arith}
use Rattle.std.proofs.Math.Nat.{mul-le-mul_left}

-- n visits to begin with, and n wherever the rank rose: the rank is bounded, and so are the steps
pub bounded : (n before after old rank most : ℕ) → before ≤ old + (n + n * rank) → after ≤ before → rank ≤ most → after ≤ old + n * (1 + most)
bounded n before after old rank most h less low = omega (arith, mul-le-mul_left {m = rank} {n = most} n low)

-- the rank that is left, n + 1 times, and the nodes that wait become fewer
pub falls : (n rank rise most waited rest waiting : ℕ) → waited ≡ rest + 1 → waiting + n * rank ≤ rest + n * rise → rank ≤ rise → rise ≤ most → (n + 1) * most - (n + 1) * rise + waiting < (n + 1) * most - (n + 1) * rank + waited
falls n rank rise most waited rest waiting one paid higher low = omega (arith, mul-le-mul_left {m = rise} {n = most} n low)
