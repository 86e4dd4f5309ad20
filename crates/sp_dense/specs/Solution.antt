-- What a solved table holds, and why there may be none.
use Rattle.std.specs.Prelude.{◌≡◌, ◌*◌, ◌&&◌, ℕ, nat_lt, if◌then◌else◌, List, Option, Some, None, option_and_then, slice_get}
use Rattle.sp_lattice.specs.Lattice.{Order}
use Rattle.sp_lattice.specs.System.{Meaning}
use Rattle.sp_lattice.specs.Dense.{Table, input, IsLeast}

-- the inputs and the outputs of a table: a row for each node, and in it a value for each location
pub record Grids (V : Type 0) : Type 0 where
  pub inputs : List (List V)
  pub outputs : List (List V)

-- the value in a row and a column of a grid, where there is one
abbrev pub cell : {V : Type 0} → List (List V) → ℕ → ℕ → Option V
cell rows n l = option_and_then (λ row. slice_get row l) (slice_get rows n)

-- how many cells such a grid has
abbrev pub cells : {V : Type 0} → Meaning V → ℕ
cells m = m.nodes * m.locations

-- the most cells of a system that is solved
abbrev pub most_cells : ℕ
most_cells = 1048576

-- a value for each node and location of a system, and none past their counts
abbrev pub within_counts : {V : Type 0} → Meaning V → ℕ → ℕ → V → Option V
within_counts m n l v = if nat_lt n m.nodes && nat_lt l m.locations then Some v else None

-- the grids hold the least solution and its inputs, at each node and location, and nothing past them
pub record IsSolved {V : Type 0} (o : Order V) (m : Meaning V) (grids : Grids V) : Type 0 where
  pub dense : Table V
  pub least : IsLeast o m dense
  pub inputs : (n l : ℕ) → cell grids.inputs n l ≡ within_counts m n l (input o m dense n l)
  pub outputs : (n l : ℕ) → cell grids.outputs n l ≡ within_counts m n l (dense n l)
