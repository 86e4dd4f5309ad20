-- An octagon's entries, and what a call makes of it.
use Rattle.std.specs.Prelude.{◌≡◌, ℕ, ◌*◌, ◌<◌, Bool, Option, Some, None, if◌then◌else◌, ℤ, int_lt}
use Rattle.sp_octagon.specs.declared.octagon.Octagon.{Octagon}
use Rattle.sp_octagon.specs.Entries.{Entries, unbounded, entries_of}
use Rattle.sp_octagon.specs.Points.{Point, Holds}
use Rattle.sp_octagon.specs.Order.{is_below}

-- how many rows and columns it has: two for each member
abbrev pub rows : Octagon → ℕ
rows o = 2 * o.size

abbrev pub entries : Octagon → Entries
entries o = entries_of o.bounds

-- the bound, or none
abbrev pub bound_of : ℤ → Option ℤ
bound_of z = if int_lt z unbounded then Some z else None

-- the size stays, and the entries are those of m
pub record Becomes (old new : Octagon) (m : Entries) : Type 0 where
  pub size : new.size ≡ old.size
  pub entries_are : (r c : ℕ) → r < rows old → c < rows old → entries new r c ≡ m r c

abbrev pub octagon_le : Octagon → Octagon → Bool
octagon_le a b = is_below (rows a) (entries a) (entries b)

-- it holds the point
abbrev pub OctagonHolds : Octagon → Point → Type 0
OctagonHolds o p = Holds (rows o) (entries o) p
