-- The rows that the engine keeps: for each node a value for each location of its list.
use Rattle.std.specs.Prelude.{◌≡◌, ◌<◌, ℕ, List, length, slice_index, slice_index_or}
use Rattle.sp_lattice.specs.Flat.{row_at, IsGrid}
use Rattle.sp_lattice.specs.System.{Meaning, store_at}
use Rattle.sp_lattice.specs.Dense.{Table}

-- a row for each node, and in it a value for each location of the node's list
abbrev pub IsListGrid : {V : Type 0} → ℕ → (ℕ → List ℕ) → List (List V) → Type 0
IsListGrid nodes lists rows = IsGrid nodes (λ n. length (lists n)) rows

-- the table that such rows are: at each node the values at the locations of its list, and `bottom` elsewhere
abbrev pub table_at : {V : Type 0} → V → (ℕ → List ℕ) → List (List V) → Table V
table_at bottom lists rows n = store_at bottom (lists n) (row_at rows n)

-- the lists themselves, kept as rows
pub record AreLists (nodes : ℕ) (lists : ℕ → List ℕ) (rows : List (List ℕ)) : Type 0 where
  pub long : length rows ≡ nodes
  pub same : (n : ℕ) → n < nodes → row_at rows n ≡ lists n

-- a row begins with the effect of a node on a store, at the node's definitions
abbrev pub BeginsWith : {V : Type 0} → Meaning V → V → ℕ → (ℕ → V) → List V → Type 0
BeginsWith m bottom n store row = (p : ℕ) → p < length (m.defs n) → slice_index_or row p bottom ≡ m.effect n store (slice_index (m.defs n) p)
