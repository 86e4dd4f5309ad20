-- Octagons whose bounds are on the ladder, and their rank.
use Rattle.std.specs.Prelude.{◌≡◌, ◌≢◌, ◌⊎◌, ℕ, ◌+◌, ◌<◌, ◌==◌, if◌then◌else◌, List, length, Contains, ℤ, pos, ◌+ℤ◌, int_lt}
use Rattle.sp_lattice.specs.Ladder.{points_below}
use Rattle.sp_lattice.specs.Bound.{sum_below}
use Rattle.sp_octagon.specs.Entries.{Entries, unbounded, half, negative}

-- z is no bound, or a point of the ladder
abbrev pub IsHeldBound : List ℤ → ℤ → Type 0
IsHeldBound points z = (z ≡ unbounded) ⊎ Contains points z

-- z is no bound, or twice a point
abbrev pub IsHeldDouble : List ℤ → ℤ → Type 0
IsHeldDouble points z = (z ≡ unbounded) ⊎ ((p : ℤ) × Contains points p × (z ≡ (p +ℤ p)))

-- off the diagonal all bounds are points of the ladder, and unary ones twice a point
pub record IsHeld (points : List ℤ) (count : ℕ) (m : Entries) : Type 0 where
  pub unary : (r : ℕ) → r < count → IsHeldDouble points (m r (negative r))
  pub binary : (r c : ℕ) → r < count → c < count → r ≢ c → c ≢ negative r → IsHeldBound points (m r c)

-- how many points lie below a bound, all of them where there is none
abbrev pub bound_rank : List ℤ → ℤ → ℕ
bound_rank points z = if int_lt z unbounded then points_below points z else length points

-- how many points lie below the half of a unary bound: their doubles lie below it
abbrev pub double_rank : List ℤ → ℤ → ℕ
double_rank points z = if int_lt z unbounded then points_below points (half (z +ℤ pos 1)) else length points

abbrev pub entry_rank : List ℤ → Entries → ℕ → ℕ → ℕ
entry_rank points m r c =
    if r == c then 0 else if c == negative r then double_rank points (m r c) else bound_rank points (m r c)

-- one more than the ranks of all entries off the diagonal
abbrev pub rank_of : List ℤ → ℕ → Entries → ℕ
rank_of points count m = 1 + sum_below count (λ r. sum_below count (λ c. entry_rank points m r c))
