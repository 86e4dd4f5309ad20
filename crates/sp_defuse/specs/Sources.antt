-- The edges that lead into a node, by the nodes that they lead from.
use Rattle.std.specs.Prelude.{◌≡◌, ◌<◌, ℕ, nat_eq, nat_lt, Bool, ◌&&◌, List, [], filter, length, slice_index_or}
use Rattle.std.specs.List.{list_any}
use Rattle.sp_base_sets.specs.Sets.{has}
use Rattle.sp_graph.specs.declared.edge.Edge.{Edge}
use Rattle.sp_graph.specs.Supergraph.{Graph, edges_at}
use Rattle.sp_defuse.specs.Lists.{Each}
use Rattle.sp_defuse.specs.declared.sources.Sources.{Sources}

-- the number of the node at a place
abbrev pub number_at : List ℕ → ℕ → ℕ
number_at nodes place = slice_index_or nodes place 0

-- whether the node at a place of the list is the one of this number
abbrev pub stands_at : List ℕ → ℕ → ℕ → Bool
stands_at nodes number place =
    nat_lt place (length nodes) && nat_eq number (number_at nodes place)

-- whether one of these edges leads from the node at a place
abbrev pub is_source : List ℕ → List Edge → ℕ → Bool
is_source nodes edges place = nat_lt place (length nodes)
    && list_any (λ (e : Edge). nat_eq e.from (number_at nodes place)) edges

-- those of these edges that lead from a node
abbrev pub edges_from : ℕ → List Edge → List Edge
edges_from number edges = filter (λ (e : Edge). nat_eq e.from number) edges

-- for each of these places those of these edges that lead from the node there
pub record AreGroups (nodes places : List ℕ) (edges : List Edge) (groups : List (List Edge))
    : Type 0 where
  pub long : length groups ≡ length places
  pub each : (i : ℕ) → i < length places → slice_index_or groups i []
      ≡ edges_from (number_at nodes (slice_index_or places i 0)) edges

-- the nodes from which edges lead into the node of this number, by their places, and these edges
pub record IsSources (g : Graph) (n : ℕ) (s : Sources) : Type 0 where
  pub places : (j : ℕ) → has j s.places ≡ is_source g.nodes (edges_at g.rows n) j
  pub edges : AreGroups g.nodes s.places (edges_at g.rows n) s.edges.items

-- those of nodes of these numbers, one by one
abbrev pub AreSources : Graph → List ℕ → List Sources → Type 0
AreSources g = Each (IsSources g)
