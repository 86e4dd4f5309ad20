-- Nodes into which everything passes.
use Rattle.std.specs.Prelude.{◌≡◌, ◌<◌, ℕ, Bool, true, false, List, length, slice_index_or}
use Rattle.sp_lattice.specs.System.{has}
use Rattle.sp_base_sets.specs.Reached.{row}
use Rattle.sp_graph.specs.declared.edge.Pass.{Pass}
use Rattle.sp_graph.specs.declared.edge.Pass.TheVariants.{All, Inside, Beside}
use Rattle.sp_graph.specs.declared.edge.Edge.{Edge}
use Rattle.sp_effect_rows.specs.Setting.{count}
use Rattle.sp_effect_scene.specs.Analysed.{setting_of}
use Rattle.sp_transfer.specs.Equations.{Equations, nodes_of, number_of, passes_between}

abbrev pub is_all : Pass → Bool
is_all All = true
is_all (Inside f) = false
is_all (Beside c) = false

-- whether every location passes along an edge
abbrev pub is_open : Edge → Bool
is_open e = is_all e.pass

-- from each node from which an edge leads into a node that has a mark every location passes
abbrev pub AreOpen : Equations → List Bool → Type 0
AreOpen e marks = (n from l : ℕ) → n < length (nodes_of e) → l < count (setting_of e.analysed)
    → slice_index_or marks n false ≡ true → has from (row e.into n) ≡ true
    → passes_between e.graph (number_of e from) (number_of e n) l ≡ true
