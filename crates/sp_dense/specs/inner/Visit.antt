-- The rows that the solver keeps, one store for each node, and what the visit of a node does to them.
use Rattle.std.specs.Prelude.{◌≡◌, ◌<◌, ◌≤◌, ◌+◌, ◌*◌, ℕ, Bool, true, false, cond, List, length, map, MatchBool, Vec}
use Rattle.std.specs.declared.alloc.Global.{Global}
use Rattle.sp_lattice.specs.Lattice.{Order}
use Rattle.sp_lattice.specs.Flat.{vector_at, IsGrid}
use Rattle.sp_lattice.specs.System.{Meaning, Below, AllBelow, has}
use Rattle.sp_lattice.specs.Dense.{Table, input, Partial, RaisesRow, store_of, table_of}
use Rattle.sp_lattice.specs.Bound.{total_rank}

-- a row for each node, and in it a value for each location
abbrev pub IsStoreGrid : {V : Type 0} → Meaning V → List (Vec V Global) → Type 0
IsStoreGrid m rows = IsGrid m.nodes (λ n. m.locations) (map (λ row. row.items) rows)

-- the row has a store's value for each location
pub record IsStore {V : Type 0} (o : Order V) (m : Meaning V) (row : List V) (store : ℕ → V) : Type 0 where
  pub long : length row ≡ m.locations
  pub values : (l : ℕ) → l < m.locations → store_of o.bottom row l ≡ store l

-- the row of `from` is joined into a row, at the locations that the edge between two nodes passes
pub record JoinsPassed {V : Type 0} (o : Order V) (m : Meaning V) (from to : ℕ) (other before after : List V) : Type 0 where
  pub long : length after ≡ m.locations
  pub values : (l : ℕ) → l < m.locations → store_of o.bottom after l ≡ cond (m.passes from to l) (o.join (store_of o.bottom before l) (store_of o.bottom other l)) (store_of o.bottom before l)

-- the effect of a node's input is below its row
abbrev pub IsSettled : {V : Type 0} → Order V → Meaning V → Table V → ℕ → Type 0
IsSettled o m table n = Below o m (m.effect n (input o m table n)) (table n)

-- it isn't, at some location
pub record Grows {V : Type 0} (o : Order V) (m : Meaning V) (table : Table V) (n : ℕ) : Type 0 where
  pub location : ℕ
  pub there : location < m.locations
  pub above : o.le (m.effect n (input o m table n) location) (table n location) ≡ false

-- a visit raises the node's row by the effect of its input, and says whether the row grew
pub record Visits {V : Type 0} (o : Order V) (m : Meaning V) (before after : List (Vec V Global)) (n : ℕ) (grew : Bool) : Type 0 where
  pub grid : IsStoreGrid m after
  pub raises : RaisesRow o m (table_of o.bottom before) (table_of o.bottom after) n
  pub grown : MatchBool grew (Grows o m (table_of o.bottom before) n) (IsSettled o m (table_of o.bottom before) n)

-- for each node the nodes into which an edge leads from it
pub record HasSuccessors {V : Type 0} (m : Meaning V) (lists : List (Vec ℕ Global)) : Type 0 where
  pub long : length lists ≡ m.nodes
  pub low : (n : ℕ) → n < m.nodes → AllBelow m.nodes (vector_at lists n)
  pub all : (n k : ℕ) → k < m.nodes → has n (m.into k) ≡ true → has k (vector_at lists n) ≡ true

-- a table on the way to the least solution, in which each node that doesn't wait is settled
pub record IsWorking {V : Type 0} (o : Order V) (m : Meaning V) (table : Table V) (waiting : List ℕ) : Type 0 where
  pub part : Partial o m table
  pub settled : (n : ℕ) → n < m.nodes → has n waiting ≡ false → IsSettled o m table n

-- after the visit of a node that waited, with the nodes that wait beside it before and after: those that
-- wait anew are paid by the rise of the total rank
pub record Works {V : Type 0} (o : Order V) (m : Meaning V) (before after : List (Vec V Global)) (rest waiting : List ℕ) : Type 0 where
  pub grid : IsStoreGrid m after
  pub working : IsWorking o m (table_of o.bottom after) waiting
  pub higher : total_rank m (table_of o.bottom before) ≤ total_rank m (table_of o.bottom after)
  pub paid : length waiting + m.nodes * total_rank m (table_of o.bottom before) ≤ length rest + m.nodes * total_rank m (table_of o.bottom after)
