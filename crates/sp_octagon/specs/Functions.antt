-- What the calls make of octagons, as functions: for the contracts, and the definitions of the
-- layers above. `specs.Changes` says what each makes of the entries.
use Rattle.std.specs.Prelude.{ℕ, zero, suc, Bool, true, ◌&&◌, if◌then◌else◌, Option, Some, None, List, ℤ, pos, int_le}
use Rattle.std.specs.Int.{int_min}
use Rattle.sp_lattice.specs.declared.relations.Relation.{Relation}
use Rattle.sp_interval.specs.declared.interval.Interval.{Interval}
use Rattle.sp_octagon.specs.declared.octagon.Octagon.{Octagon}
use Rattle.sp_octagon.specs.Entries.{Entries, sum_of}
use Rattle.sp_octagon.specs.Walks.{closed_entry}
use Rattle.sp_octagon.specs.Order as order
use Rattle.sp_octagon.specs.Changes as changes
use Rattle.sp_octagon.specs.Octagons.{rows, entries}
use Rattle.sp_octagon.specs.Made.{every, with_entries}

abbrev pub joined : Octagon → Octagon → Octagon
joined a b = with_entries a (order.joined (entries a) (entries b))

-- x is forgotten
abbrev pub forgotten : Octagon → ℕ → Octagon
forgotten o x = with_entries o (changes.forgotten (entries o) x)

-- x becomes y + k
abbrev pub shifted : Octagon → ℕ → ℕ → ℤ → Octagon
shifted o x y k = with_entries o (changes.assigned (entries o) x y k)

-- x lies in the interval
abbrev pub bounded : Octagon → ℕ → Interval → Octagon
bounded o x to = with_entries o (changes.bounded_by (entries o) x to)

-- x stands in the relation to y
abbrev pub constrained : Octagon → ℕ → Relation → ℕ → Octagon
constrained o x op y = with_entries o (changes.constrained (entries o) x op y)

-- each bound on the ladder
abbrev pub snapped : List ℤ → Octagon → Octagon
snapped points o = with_entries o (changes.snapped_entries points (entries o))

-- ---- the closure

-- what round k makes of the entries
abbrev pub round : ℕ → Entries → Entries
round k d r c = int_min (d r c) (sum_of (d r k) (d k c))

-- the entries after the rounds below k, each of which lets walks pass through one more row
unfoldable pub rounds_to : ℕ → Entries → Entries
rounds_to zero m = m
rounds_to (suc k) m = round k (rounds_to k m)

abbrev pub is_natural_diagonal : ℕ → Entries → Bool
is_natural_diagonal count d = every count (λ r. int_le (pos 0) (d r r))

-- no closed walk is negative that passes through rows below k alone
unfoldable pub settles : ℕ → ℕ → Entries → Bool
settles count zero m = true
settles count (suc k) m = settles count k m && is_natural_diagonal count (rounds_to (suc k) m)

-- the closure, or none where no point is held. `IsClosure` of `specs.Walks` says what it is
unfoldable pub closed : Octagon → Option Octagon
closed o =
    if settles (rows o) (rows o) (entries o)
    then Some (with_entries o (closed_entry (rounds_to (rows o) (entries o))))
    else None
