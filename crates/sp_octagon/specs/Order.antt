-- The order of octagons of one size, entry by entry.
use Rattle.std.specs.Prelude.{ℕ, zero, suc, ◌<◌, Bool, true, ◌&&◌, ◌≤ℤ◌, int_le}
use Rattle.std.specs.Int.{int_max}
use Rattle.sp_octagon.specs.Entries.{Entries}

-- in the first `count` rows and columns no entry of a is greater than that of b
abbrev pub Below : ℕ → Entries → Entries → Type 0
Below count a b = (r c : ℕ) → r < count → c < count → a r c ≤ℤ b r c

-- whether p holds of every number below n
abbrev pub all_below : ℕ → (ℕ → Bool) → Bool
all_below zero p = true
all_below (suc n) p = all_below n p && p n

-- the test of `Below`
abbrev pub is_below : ℕ → Entries → Entries → Bool
is_below count a b = all_below count (λ r. all_below count (λ c. int_le (a r c) (b r c)))

-- the least entries above both
abbrev pub joined : Entries → Entries → Entries
joined a b i j = int_max (a i j) (b i j)
