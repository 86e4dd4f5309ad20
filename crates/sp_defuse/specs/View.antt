-- The equations that what is kept stands for.
use Rattle.std.specs.Prelude.{Bool, List, map}
use Rattle.sp_graph.specs.Supergraph.{Graph}
use Rattle.sp_effect_scene.specs.Analysed.{Analysed}
use Rattle.sp_transfer.specs.Equations.{Equations}
use Rattle.sp_defuse.specs.declared.nodes.Node.{Node}
use Rattle.sp_defuse.specs.declared.sources.Sources.{Sources}

abbrev pub equations_of : Analysed → Bool → Graph → List Node → List Sources → Equations
equations_of a sharp g nodes sources = record {
  analysed = a;
  sharp = sharp;
  graph = g;
  into = map (λ (s : Sources). s.places) sources;
  defs = map (λ (x : Node). x.defs.items) nodes;
  uses = map (λ (x : Node). x.uses.items) nodes;
}
