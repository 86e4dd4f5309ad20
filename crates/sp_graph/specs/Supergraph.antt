-- The supergraph: the nodes that the program may come to, the edges between them, those between
-- functions too, and what passes along each.
use Rattle.std.specs.Prelude.{◌≡◌, ◌↔◌, ◌<◌, ℕ, Bool, true, not, cond, List, [], length, Option, Some, None, slice_index_or, Contains}
use Rattle.std.specs.List.{list_any}
use Rattle.sp_ir.specs.Programs.{Lowered}
use Rattle.sp_base_sets.specs.Sets.{has, Ascends}
use Rattle.sp_base_sets.specs.Reached.{row}
use Rattle.sp_graph.specs.Accessed.{AccessSets, accesses}
use Rattle.sp_graph.specs.Calls.{Callees, function_of, call_of, entry_of, exit_of, IsReached}
use Rattle.sp_graph.specs.declared.edge.Pass.{Pass}
use Rattle.sp_graph.specs.declared.edge.Pass.TheVariants.{All, Inside, Beside}
use Rattle.sp_graph.specs.declared.edge.Edge.{Edge}

-- ---- nodes

abbrev pub InFunction : Lowered → Callees → Option ℕ → Type 0
InFunction p calls None = Unit {0}
InFunction p calls (Some f) = IsReached p calls f

-- a node of the graph: the start node, or one of a function that is reached
abbrev pub InGraph : Lowered → Callees → ℕ → Type 0
InGraph p calls n = (n < length p.nodes) × InFunction p calls (function_of p n)

-- ---- edges

-- what passes between a call and the function that it calls: where calls are localised, what that
-- function accesses
abbrev pub crossing : Bool → ℕ → Pass
crossing local f = cond local (Inside f) All

-- The edges: those inside functions; from the start node to the first function; from a call to what
-- it calls; from there to the node that returns from the call; and where calls are localised, from
-- a call that calls some function to the node that returns from it.
pub data IsEdge (p : Lowered) (calls : Callees) (local : Bool) : ℕ → ℕ → Pass → Type 0 where
  inside : {from to : ℕ} → Contains p.flow (from, to) → IsEdge p calls local from to All
  starts : {to : ℕ} → entry_of p p.main ≡ Some to → IsEdge p calls local 0 to All
  enters : {from to : ℕ} (f : ℕ) → has f (row calls from) ≡ true → entry_of p f ≡ Some to
      → IsEdge p calls local from to (crossing local f)
  leaves : {from to : ℕ} (c f : ℕ) → call_of p to ≡ Some c → has f (row calls c) ≡ true
      → exit_of p f ≡ Some from → IsEdge p calls local from to (crossing local f)
  beside : {from to : ℕ} (f : ℕ) → local ≡ true → call_of p to ≡ Some from
      → has f (row calls from) ≡ true → IsEdge p calls local from to (Beside from)

-- an edge of the graph joins two of its nodes
pub record InFlow (p : Lowered) (calls : Callees) (local : Bool) (e : Edge) : Type 0 where
  pub leaves : InGraph p calls e.from
  pub comes : InGraph p calls e.to
  pub edge : IsEdge p calls local e.from e.to e.pass

-- ---- what is kept of it

-- The nodes, ascending; for each node of the program the edges that end there; and what tells which
-- locations pass: the locations that each function accesses, and the functions that each node calls.
pub record Graph : Type 0 where
  pub nodes : List ℕ
  pub rows : List (List Edge)
  pub accessed : AccessSets
  pub calls : Callees

-- the edges that end at a node; past the last none
abbrev pub edges_at : List (List Edge) → ℕ → List Edge
edges_at rows n = slice_index_or rows n []

-- the graph of a program by these calls
pub record IsSupergraph (p : Lowered) (calls : Callees) (local : Bool) (g : Graph) : Type 0 where
  pub ascending : Ascends g.nodes
  pub nodes : (n : ℕ) → (has n g.nodes ≡ true) ↔ InGraph p calls n
  pub edges : (n : ℕ) (e : Edge)
      → Contains (edges_at g.rows n) e ↔ ((e.to ≡ n) × InFlow p calls local e)

-- whether a location passes along an edge: every one; those that a function accesses; those that
-- some function which a node calls doesn't access
abbrev pub passes_by : Graph → Pass → ℕ → Bool
passes_by g All l = true
passes_by g (Inside f) l = accesses g.accessed f l
passes_by g (Beside c) l = list_any (λ f. not (accesses g.accessed f l)) (row g.calls c)
