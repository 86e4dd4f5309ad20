-- What an octagon holds.
use Rattle.std.specs.Prelude.{ℕ, ◌/◌, ◌%◌, ◌==◌, ◌<◌, if◌then◌else◌, ℤ, neg_ℤ, ◌+ℤ◌, ◌-ℤ◌, ◌≤ℤ◌}
use Rattle.sp_octagon.specs.Entries.{Entries, IsBound}

-- each member's number of halves
abbrev pub Point : Type 0
Point = ℕ → ℤ

-- what row or column r stands for, in halves: member i where r is 2i, its negative where r is 2i+1
abbrev pub value_at : Point → ℕ → ℤ
value_at p r = if r % 2 == 0 then p (r / 2) else neg_ℤ (p (r / 2))

-- the entries in the first `count` rows and columns hold a point when each bound among them does:
-- column less row is at most the entry, which is twice the entry in halves
pub record Holds (count : ℕ) (m : Entries) (p : Point) : Type 0 where
  pub within : (r c : ℕ) → r < count → c < count → IsBound (m r c) → (value_at p c -ℤ value_at p r) ≤ℤ (m r c +ℤ m r c)

-- a point of whole numbers, whose members have the numbers v
abbrev pub whole_point : (ℕ → ℤ) → Point
whole_point v i = v i +ℤ v i

-- the numbers v, with w for member x
abbrev pub replaced : (ℕ → ℤ) → ℕ → ℤ → ℕ → ℤ
replaced v x w i = if i == x then w else v i
