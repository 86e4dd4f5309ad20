-- What a solved sparse table holds.
use Rattle.std.specs.Prelude.{◌≡◌, ◌<◌, ◌≤◌, ◌&&◌, ℕ, Bool, nat_eq, nat_lt, cond, if◌then◌else◌, List, [], ◌∷◌, length, Option, Some, None, slice_index_or}
use Rattle.std.specs.List.Sorted.{IsStrictlyIncreasing}
use Rattle.sp_lattice.specs.Lattice.{Order}
use Rattle.sp_lattice.specs.Flat.{row_at}
use Rattle.sp_lattice.specs.System.{Meaning, has}
use Rattle.sp_lattice.specs.Dense.{Table, input, IsLeast}
use Rattle.sp_lattice.specs.Bound.{most_evaluations}

-- rows of values, each with the locations at which they stand
pub record Cells (V : Type 0) : Type 0 where
  pub places : List (List ℕ)
  pub values : List (List V)

-- a table: the inputs, the outputs, and how often each node was evaluated
pub record SparseCells (V : Type 0) : Type 0 where
  pub inputs : Cells V
  pub outputs : Cells V
  pub evaluations : List ℕ

-- the value of a row that stands at a location, where there is one
abbrev pub value_at : {V : Type 0} → List ℕ → List V → ℕ → Option V
value_at [] values l = None
value_at (p ∷ places) [] l = None
value_at (p ∷ places) (v ∷ values) l = cond (nat_eq l p) (Some v) (value_at places values l)

-- the value of a node at a location, where there is one
abbrev pub cell : {V : Type 0} → Cells V → ℕ → ℕ → Option V
cell cells n l = value_at (row_at cells.places n) (row_at cells.values n) l

-- the locations of each row ascend, and there are as many values
pub record IsFormed {V : Type 0} (cells : Cells V) : Type 0 where
  pub rows : length cells.values ≡ length cells.places
  pub ascends : (n : ℕ) → IsStrictlyIncreasing (row_at cells.places n)
  pub long : (n : ℕ) → length (row_at cells.values n) ≡ length (row_at cells.places n)

-- a value at the locations of a node's list, and none elsewhere or past the nodes
abbrev pub within_list : {V : Type 0} → Meaning V → (ℕ → List ℕ) → ℕ → ℕ → V → Option V
within_list m lists n l v = if nat_lt n m.nodes && has l (lists n) then Some v else None

-- the table has the input of the dense least solution at each node and location used there, its output at each
-- definition, and nothing else
pub record IsSolved {V : Type 0} (o : Order V) (m : Meaning V) (table : SparseCells V) : Type 0 where
  pub dense : Table V
  pub least : IsLeast o m dense
  pub inputs : (n l : ℕ) → cell table.inputs n l ≡ within_list m m.uses n l (input o m dense n l)
  pub outputs : (n l : ℕ) → cell table.outputs n l ≡ within_list m m.defs n l (dense n l)

-- each node was evaluated at least once, and at most as often as its bound
pub record IsWithinBounds {V : Type 0} (m : Meaning V) (test : ℕ → ℕ → ℕ → Bool) (evaluations : List ℕ) : Type 0 where
  pub long : length evaluations ≡ m.nodes
  pub some : (n : ℕ) → n < m.nodes → 1 ≤ slice_index_or evaluations n 0
  pub most : (n : ℕ) → n < m.nodes → slice_index_or evaluations n 0 ≤ most_evaluations m test n
