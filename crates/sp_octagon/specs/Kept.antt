-- Octagons in the room of their size. Since (r, c) equals the entry from c's negative to r's negative, of each
-- row r only the columns up to r or its negative are kept, whichever is greater: 2n(n + 1) for n members.
use Rattle.std.specs.Prelude.{◌≡◌, ◌⊎◌, max, ℕ, zero, suc, ◌+◌, ◌-◌, ◌*◌, ◌%◌, ◌<◌, ◌≤◌, Bool, true, false, ◌&&◌, if◌then◌else◌, nat_lt, List, [], ◌++◌, slice_index_or, length, ℤ, int_le}
use Rattle.std.specs.Int.{int_max}
use Rattle.std.proofs.Common.{refl}
use Rattle.sp_octagon.specs.declared.octagon.Octagon.{Octagon}
use Rattle.sp_octagon.specs.Entries.{Entries, unbounded, negative}
use Rattle.sp_octagon.specs.Changes.{no_bounds}
use Rattle.sp_octagon.specs.Octagons.{rows, entries}
use Rattle.sp_octagon.specs.Order.{all_below}
use Rattle.sp_octagon.specs.Made.{listed, bounds_of, every, is_octagon, octagon_from_test}

-- how many columns of a row are kept
abbrev pub width : ℕ → ℕ
width r = r + 2 - r % 2

-- where a row begins
unfoldable pub start : ℕ → ℕ
start zero = 0
start (suc r) = start r + width r

-- what is kept of the rows below n, row by row
unfoldable pub half_to : ℕ → Entries → List ℤ
half_to zero m = []
half_to (suc r) m = half_to r m ++ listed (width r) (m r)

-- what is kept of an octagon
abbrev pub half_of : Octagon → List ℤ
half_of o = half_to (rows o) (entries o)

-- the entry that is kept, or equals one that is
abbrev pub kept_entry : List ℤ → Entries
kept_entry kept r c =
    if nat_lt c (width r) then slice_index_or kept (start r + c) unbounded
    else slice_index_or kept (start (negative c) + negative r) unbounded

-- the entries of an octagon of this size that is kept so
abbrev pub kept_entries : ℕ → List ℤ → Entries
kept_entries size kept r c =
    if nat_lt r (2 * size) && nat_lt c (2 * size) then kept_entry kept r c else no_bounds r c

nothing_fits : is_octagon 2 (bounds_of no_bounds) ≡ true
unfolding bounds_of listed every
nothing_fits = refl

-- two members without bounds
pub nothing_known : Octagon
nothing_known = record { size = 2; bounds = bounds_of no_bounds; facts = octagon_from_test 2 (bounds_of no_bounds) nothing_fits }

unfoldable pub whole_by : (size : ℕ) (bounds : List ℤ) (t : Bool) → is_octagon size bounds ≡ t → Octagon
whole_by size bounds true h = record { size = size; bounds = bounds; facts = octagon_from_test size bounds h }
whole_by size bounds false h = nothing_known

-- the octagon of this size without a bound off the diagonal
unfoldable pub boundless : ℕ → Octagon
boundless n = whole_by n (bounds_of no_bounds) (is_octagon n (bounds_of no_bounds)) refl

-- the octagon that is kept so, two members without bounds where there is none
unfoldable pub whole : ℕ → List ℤ → Octagon
whole size kept = let bounds = bounds_of (kept_entries size kept) in whole_by size bounds (is_octagon size bounds) refl

-- a list of bounds is what is kept of an octagon of this size
pub record IsKept (size : ℕ) (kept : List ℤ) : Type 0 where
  pub sized : (whole size kept).size ≡ size
  pub half : half_of (whole size kept) ≡ kept

-- whether no number is greater than that in the same place of the other list
abbrev pub list_le : List ℤ → List ℤ → Bool
list_le xs ys = all_below (length xs) (λ k. int_le (slice_index_or xs k unbounded) (slice_index_or ys k unbounded))

-- each place of `new` has the greater of what a and b have there
pub record IsGreater (a b new : List ℤ) : Type 0 where
  pub room : length new ≡ length a
  pub greater : (k : ℕ) → k < length a
      → slice_index_or new k unbounded ≡ int_max (slice_index_or a k unbounded) (slice_index_or b k unbounded)
