-- What each call makes of the entries.
use Rattle.std.specs.Prelude.{ℕ, ◌+◌, ◌*◌, ◌/◌, ◌==◌, Bool, ◌&&◌, ◌||◌, if◌then◌else◌, List, ℤ, pos, neg_ℤ, ◌+ℤ◌, ◌-ℤ◌, ◌≤ℤ◌, int_lt}
use Rattle.std.specs.Int.{int_min, int_max}
use Rattle.sp_lattice.specs.Ladder.{lowest, highest, snapped_up}
use Rattle.sp_lattice.specs.declared.relations.Relation.{Relation}
use Rattle.sp_lattice.specs.declared.relations.Relation.TheVariants.{Less, LessEqual, Greater, GreaterEqual, Equal, Different}
use Rattle.sp_interval.specs.declared.interval.Interval.{Interval}
use Rattle.sp_interval.specs.declared.interval.Interval.TheVariants.{Empty, Of}
use Rattle.sp_interval.specs.Interval.{between}
use Rattle.sp_octagon.specs.Entries.{Entries, unbounded, IsBound, cut, half, doubled, negative}

-- no bound off the diagonal
abbrev pub no_bounds : Entries
no_bounds i j = if i == j then pos 0 else unbounded

-- whether (i, j) is (r, c), or the entry that equals it
abbrev pub is_pair : ℕ → ℕ → ℕ → ℕ → Bool
is_pair r c i j = i == r && j == c || i == negative c && j == negative r

-- these two entries become v
abbrev pub with_pair : Entries → ℕ → ℕ → ℤ → Entries
with_pair m r c v i j = if is_pair r c i j then v else m i j

-- these two entries are lowered to v where they are greater
abbrev pub lowered : Entries → ℕ → ℕ → ℤ → Entries
lowered m r c v i j = if is_pair r c i j then int_min v (m i j) else m i j

-- whether r stands for member x or its negative
abbrev pub stands_for : ℕ → ℕ → Bool
stands_for x r = r / 2 == x

-- no bound off the diagonal in the rows and columns of x
abbrev pub forgotten : Entries → ℕ → Entries
forgotten m x i j =
    if i == j then m i j
    else if stands_for x i || stands_for x j then unbounded
    else m i j

-- how much what r stands for grows as member x grows by k
abbrev pub growth : ℕ → ℤ → ℕ → ℤ
growth x k r = if r == 2 * x then k else if r == 2 * x + 1 then neg_ℤ k else pos 0

-- x becomes x + k: each bound moves by the growth of its column less that of its row
abbrev pub moved : Entries → ℕ → ℤ → Entries
moved m x k i j =
    if int_lt (m i j) unbounded then cut (m i j +ℤ (growth x k j -ℤ growth x k i))
    else unbounded

-- x becomes y + k, where y is another member: x - y is bounded by k from both sides
abbrev pub tied : Entries → ℕ → ℕ → ℤ → Entries
tied m x y k = with_pair (with_pair (forgotten m x) (2 * y) (2 * x) k) (2 * x) (2 * y) (neg_ℤ k)

-- x becomes y + k
abbrev pub assigned : Entries → ℕ → ℕ → ℤ → Entries
assigned m x y k = if x == y then moved m x k else tied m x y k

-- x lies in the interval: 2x is at most twice its upper bound, and -2x at most twice the negative
-- of its lower bound
abbrev pub bounded_by : Entries → ℕ → Interval → Entries
bounded_by m x Empty = m
bounded_by m x (Of lo hi) =
    lowered (lowered m (2 * x + 1) (2 * x) (hi +ℤ hi)) (2 * x) (2 * x + 1) (neg_ℤ (lo +ℤ lo))

-- x - y is at most v
abbrev pub difference_at_most : Entries → ℕ → ℕ → ℤ → Entries
difference_at_most m x y v = lowered m (2 * y) (2 * x) v

-- x and y stand in the relation
abbrev pub constrained : Entries → ℕ → Relation → ℕ → Entries
constrained m x Less y = difference_at_most m x y (neg_ℤ (pos 1))
constrained m x LessEqual y = difference_at_most m x y (pos 0)
constrained m x Greater y = difference_at_most m y x (neg_ℤ (pos 1))
constrained m x GreaterEqual y = difference_at_most m y x (pos 0)
constrained m x Equal y = difference_at_most (difference_at_most m x y (pos 0)) y x (pos 0)
constrained m x Different y = m

-- the least point of the ladder that isn't below z, none past the greatest point
abbrev pub snapped_bound : List ℤ → ℤ → ℤ
snapped_bound points z =
    if int_lt highest z then unbounded else snapped_up points (int_max lowest z)

-- a unary entry, which bounds a member's double, becomes twice the snap of its half
abbrev pub snapped_entries : List ℤ → Entries → Entries
snapped_entries points m i j =
    if i == j then m i j
    else if j == negative i then doubled (snapped_bound points (half (m i j)))
    else snapped_bound points (m i j)

-- the whole numbers that the two unary entries of x allow, within the bounds of all that is
-- stored. Where there is no bound, half of `unbounded` lies far outside these
abbrev pub projected : Entries → ℕ → Interval
projected m x =
    between (int_max lowest (neg_ℤ (half (m (2 * x) (2 * x + 1)))))
    (int_min highest (half (m (2 * x + 1) (2 * x))))

-- the unary entries of x allow the whole number v: v is at most half the one, -v at most half the
-- other
pub record Allows (m : Entries) (x : ℕ) (v : ℤ) : Type 0 where
  pub at_most : IsBound (m (2 * x + 1) (2 * x)) → (v +ℤ v) ≤ℤ m (2 * x + 1) (2 * x)
  pub at_least : IsBound (m (2 * x) (2 * x + 1)) → neg_ℤ (v +ℤ v) ≤ℤ m (2 * x) (2 * x + 1)
