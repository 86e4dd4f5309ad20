-- Orders of service: a number for each node.
use Rattle.std.specs.Prelude.{◌≡◌, ◌≤◌, ◌<◌, ◌+◌, ◌^◌, ℕ, nat_lt, cond, List, length, slice_index_or}

-- the numbers of a list are all different
abbrev pub AreDifferent : List ℕ → Type 0
AreDifferent order = (m n : ℕ) → m < length order → n < length order
    → slice_index_or order m 0 ≡ slice_index_or order n 0 → m ≡ n

-- a number for each node, all different and below the count of nodes
pub record IsOrder (nodes : ℕ) (order : List ℕ) : Type 0 where
  pub long : length order ≡ nodes
  pub low : (n : ℕ) → n < nodes → slice_index_or order n 0 < nodes
  pub different : AreDifferent order

-- the number of a node; one that has none comes after all others
abbrev pub number_of : List ℕ → ℕ → ℕ
number_of order n = slice_index_or order n (2 ^ 32)

-- when a number is served by sweeps over the numbers, where the first sweep goes on from one of them: in
-- that sweep, or in the next
abbrev pub turn_of : ℕ → ℕ → ℕ
turn_of next number = cond (nat_lt number next) (number + 2 ^ 33) number

-- the place in a list of the node that is served first, of several such the first
pub record IsFirst (order : List ℕ) (next : ℕ) (nodes : List ℕ) (place : ℕ) : Type 0 where
  pub low : place < length nodes
  pub least : (k : ℕ) → k < length nodes
      → turn_of next (number_of order (slice_index_or nodes place 0))
      ≤ turn_of next (number_of order (slice_index_or nodes k 0))
  pub first : (k : ℕ) → k < place
      → turn_of next (number_of order (slice_index_or nodes place 0))
      < turn_of next (number_of order (slice_index_or nodes k 0))
