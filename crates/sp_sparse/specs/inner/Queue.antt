-- Nodes that wait to be evaluated.
use Rattle.std.specs.Prelude.{◌≡◌, ◌≢◌, ◌≤◌, ◌*◌, ℕ, Bool, false, cond, nat_eq, List, length, count_by, slice_index_or, slice_range}
use Rattle.sp_lattice.specs.System.{has}

-- how often n stands in a list
abbrev pub occurs : ℕ → List ℕ → ℕ
occurs n xs = count_by (λ x. nat_eq n x) xs

-- the part of the buffer from `first` to `end`, in which each node with a mark stands once, and no other
pub record IsWindow (buffer : List ℕ) (first end : ℕ) (marks : List Bool) : Type 0 where
  pub long : length buffer ≡ 2 * length marks
  pub ordered : first ≤ end
  pub within : end ≤ length buffer
  pub once : (n : ℕ) → occurs n (slice_range buffer first end) ≡ cond (slice_index_or marks n false) 1 0

-- a node that waited doesn't any more, the others still do
pub record Removes (before after : List ℕ) (n : ℕ) : Type 0 where
  pub gone : has n after ≡ false
  pub others : (k : ℕ) → k ≢ n → has k after ≡ has k before

-- how many of the nodes that wait a picker is shown
abbrev pub most_shown : ℕ
most_shown = 128
