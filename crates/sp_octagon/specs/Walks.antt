-- Walks of entries, and the closure that they define. Strong closure is of Miné, "The octagon
-- abstract domain", 2006; half-sums rounded down are of Bagnara, Hill and Zaffanella,
-- "Weakly-relational shapes for numeric abstractions", 2009.
use Rattle.std.specs.Prelude.{◌≡◌, ℕ, ◌<◌, ℤ, pos, ◌+ℤ◌, ◌<ℤ◌, ◌≤ℤ◌}
use Rattle.std.specs.Int.{int_min}
use Rattle.sp_octagon.specs.Entries.{Entries, unbounded, IsBound, cut, half_sum, negative}

-- a walk: one bound or more among the first `count` rows and columns, each beginning in the row
-- where the last ended. Its weight is their sum
pub data Walk (count : ℕ) (m : Entries) (from : ℕ) : ℕ → ℤ → Type 0 where
  entry : {to : ℕ} {weight : ℤ} → to < count → IsBound (m from to) → weight ≡ m from to → Walk count m from to weight
  onward : {mid to : ℕ} {before weight : ℤ} → Walk count m from mid before → to < count → IsBound (m mid to) → weight ≡ (before +ℤ m mid to) → Walk count m from to weight

-- d is the least weight of a walk, or `unbounded` where there is no walk
pub record IsLeastWalk (count : ℕ) (m : Entries) (from to : ℕ) (d : ℤ) : Type 0 where
  pub most : d ≤ℤ unbounded
  pub reached : IsBound d → Walk count m from to d
  pub least : (w : ℤ) → Walk count m from to w → IsBound d × (d ≤ℤ w)

-- a closed walk of negative weight
pub record HasNegativeWalk (count : ℕ) (m : Entries) : Type 0 where
  pub at : ℕ
  pub weight : ℤ
  pub below : at < count
  pub walk : Walk count m at at weight
  pub is_negative : weight <ℤ pos 0

-- from the least walks: the lesser of the least walk from r to c, and half the sum of those from
-- r to its negative and from c's negative to c
abbrev pub closed_entry : Entries → Entries
closed_entry d r c = cut (int_min (d r c) (half_sum (d r (negative r)) (d (negative c) c)))

-- these are the entries of the closure
pub record IsClosure (count : ℕ) (m closed : Entries) : Type 0 where
  pub walks : Entries
  pub are_least : (r c : ℕ) → r < count → c < count → IsLeastWalk count m r c (walks r c)
  pub entries : (r c : ℕ) → r < count → c < count → closed r c ≡ closed_entry walks r c
