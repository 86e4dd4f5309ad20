-- What is kept of each node of the supergraph.
use Rattle.std.specs.Prelude.{◌≡◌, ℕ, Bool, List}
use Rattle.sp_effect_scene.specs.Analysed.{Analysed}
use Rattle.sp_transfer.specs.Effects.{defined_at, used_at}
use Rattle.sp_transfer.specs.Equations.{AreLocations}
use Rattle.sp_transfer.specs.Parts.{AreCuts}
use Rattle.sp_defuse.specs.Lists.{Each}
use Rattle.sp_defuse.specs.declared.nodes.Node.{Node}

-- the node of this number, with its locations
pub record IsNode (a : Analysed) (sharp : Bool) (n : ℕ) (node : Node) : Type 0 where
  pub number : node.number ≡ n
  pub defs : AreLocations a (defined_at a sharp n) node.defs.items
  pub cuts : AreCuts a sharp n node.cuts
  pub uses : AreLocations a (used_at a n) node.uses.items

-- nodes of these numbers, one by one
abbrev pub AreNodes : Analysed → Bool → List ℕ → List Node → Type 0
AreNodes a sharp = Each (IsNode a sharp)
