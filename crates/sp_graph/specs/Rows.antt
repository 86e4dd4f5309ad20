-- The rows of edges, while edges are added.
use Rattle.std.specs.Prelude.{◌≡◌, ◌⊎◌, ◌↔◌, ◌<◌, ℕ, Bool, true, false, List, length, Option, None, Some, slice_index, slice_index_or, Contains}
use Rattle.sp_ir.specs.Programs.{Lowered}
use Rattle.sp_base_sets.specs.Sets.{has}
use Rattle.sp_base_sets.specs.Reached.{row}
use Rattle.sp_graph.specs.Calls.{Callees, CallsTo, function_of, call_of, entry_of, exit_of}
use Rattle.sp_graph.specs.Supergraph.{edges_at, crossing, IsEdge}
use Rattle.sp_graph.specs.declared.edge.Pass.TheVariants.{All, Beside}
use Rattle.sp_graph.specs.declared.edge.Edge.{Edge}

-- both ends are among these nodes
abbrev pub Between : List ℕ → Edge → Type 0
Between nodes e = (has e.from nodes ≡ true) × (has e.to nodes ≡ true)

-- exactly these edges came, each to the row of the node at which it ends
pub record Joins (F : Edge → Type 0) (old new : List (List Edge)) : Type 0 where
  pub long : length new ≡ length old
  pub kept : (n : ℕ) (e : Edge) → Contains (edges_at old n) e → Contains (edges_at new n) e
  pub origin : (n : ℕ) (e : Edge) → Contains (edges_at new n) e
      → Contains (edges_at old n) e ⊎ ((e.to ≡ n) × F e)
  pub all : (e : Edge) → F e → Contains (edges_at new e.to) e

-- ---- one edge

-- from a node to a function that it calls
pub record IsEntering (p : Lowered) (nodes : List ℕ) (local : Bool) (node f : ℕ) (e : Edge) : Type 0 where
  pub entry : entry_of p f ≡ Some e.to
  pub from : e.from ≡ node
  pub pass : e.pass ≡ crossing local f
  pub between : Between nodes e

-- from a function to a node that returns from it
pub record IsLeaving (p : Lowered) (nodes : List ℕ) (local : Bool) (node f : ℕ) (e : Edge) : Type 0 where
  pub exit : exit_of p f ≡ Some e.from
  pub to : e.to ≡ node
  pub pass : e.pass ≡ crossing local f
  pub between : Between nodes e

-- from a call of these functions to the node that returns from it
pub record IsBeside (nodes : List ℕ) (local : Bool) (call node : ℕ) (functions : List ℕ) (e : Edge) : Type 0 where
  pub localised : local ≡ true
  pub some : 0 < length functions
  pub from : e.from ≡ call
  pub to : e.to ≡ node
  pub pass : e.pass ≡ Beside call
  pub between : Between nodes e

-- inside a function, by its place in the flow
pub record IsInside (nodes : List ℕ) (flow : List (ℕ × ℕ)) (k : ℕ) (e : Edge) : Type 0 where
  pub there : slice_index_or flow k (e.from, e.to) ≡ (e.from, e.to)
  pub pass : e.pass ≡ All
  pub between : Between nodes e

-- from the start node
pub record IsBeginning (p : Lowered) (nodes : List ℕ) (e : Edge) : Type 0 where
  pub entry : entry_of p p.main ≡ Some e.to
  pub from : e.from ≡ 0
  pub pass : e.pass ≡ All
  pub between : Between nodes e

-- ---- those of a node

abbrev pub ReturnsFrom : Lowered → List ℕ → Bool → ℕ → ℕ → List ℕ → Edge → Type 0
ReturnsFrom p nodes local call node functions e =
    ((k : ℕ) × (k < length functions) × IsLeaving p nodes local node (slice_index functions k) e)
    ⊎ IsBeside nodes local call node functions e

abbrev pub ComesBack : Lowered → List ℕ → Callees → Bool → ℕ → Edge → Type 0
ComesBack p nodes calls local node e = (call : ℕ) × (call_of p node ≡ Some call)
    × ReturnsFrom p nodes local call node (row calls call) e

abbrev pub Crosses : Lowered → List ℕ → Callees → Bool → ℕ → Edge → Type 0
Crosses p nodes calls local node e =
    ((k : ℕ) × (k < length (row calls node))
    × IsEntering p nodes local node (slice_index (row calls node) k) e)
    ⊎ ComesBack p nodes calls local node e

-- ---- all

-- the rows have just the edges of the program between these nodes
pub record AreEdges (p : Lowered) (nodes : List ℕ) (calls : Callees) (local : Bool) (rows : List (List Edge)) : Type 0 where
  pub long : length rows ≡ length calls
  pub exact : (n : ℕ) (e : Edge) → Contains (edges_at rows n) e
      ↔ ((e.to ≡ n) × Between nodes e × IsEdge p calls local e.from e.to e.pass)

-- the node is of the one function and calls the other
pub record CallsAt (p : Lowered) (calls : Callees) (node f g : ℕ) : Type 0 where
  pub inside : function_of p node ≡ Some f
  pub calls_it : has g (row calls node) ≡ true

-- the functions that each function calls
pub record AreLists (p : Lowered) (calls : Callees) (lists : List (List ℕ)) : Type 0 where
  pub long : length lists ≡ length p.functions
  pub origin : (f g : ℕ) → has g (row lists f) ≡ true → CallsTo p calls f g
  pub all : (f g : ℕ) → CallsTo p calls f g → has g (row lists f) ≡ true

-- exactly these pairs came to the lists that have a place for them
pub record Grows (F : ℕ → ℕ → Type 0) (old new : List (List ℕ)) : Type 0 where
  pub long : length new ≡ length old
  pub kept : (f g : ℕ) → has g (row old f) ≡ true → has g (row new f) ≡ true
  pub origin : (f g : ℕ) → has g (row new f) ≡ true → (has g (row old f) ≡ true) ⊎ F f g
  pub all : (f g : ℕ) → f < length old → F f g → has g (row new f) ≡ true

-- a node of this function is in the graph, where these functions are marked
abbrev pub is_inside : List Bool → Option ℕ → Bool
is_inside marks None = true
is_inside marks (Some f) = slice_index_or marks f false
