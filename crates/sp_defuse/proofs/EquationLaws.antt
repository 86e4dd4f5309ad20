-- What is kept stands for the equations of the program.
use Rattle.std.proofs.Common.{◌≡◌, ◌↔◌, ℕ, ◌<◌, ◌^◌, Bool, true, false, List, [], Option, Some, None, length, map, get_or, sym, ap, ◌∙◌, subst, arith}
use Rattle.std.specs.List.Sorted.{IsStrictlyIncreasing}
use Rattle.std.proofs.Props.{props}
use Rattle.std.proofs.Math.Logic.{∥∥₁_elim}
use Rattle.std.proofs.lemmas.List.{length-map, get_or-map}
use Rattle.sp_lattice.specs.System.{has, AllBelow}
use Rattle.sp_base_sets.specs.Reached.{row}
use Rattle.sp_graph.specs.Supergraph.{Graph, InGraph, IsSupergraph}
use Rattle.sp_effect_rows.specs.Setting.{count}
use Rattle.sp_effect_scene.proofs.Few.{ascending-few}
use Rattle.sp_effect_scene.specs.Cells.{rising}
use Rattle.sp_effect_scene.specs.Whole.{IsAnalysed}
use Rattle.sp_effect_scene.specs.Analysed.{Analysed, setting_of}
use Rattle.sp_transfer.specs.Effects.{defined_at, used_at}
use Rattle.sp_transfer.specs.Equations.{number_of, passes_between, AreLocations, AreEquations}
use Rattle.sp_transfer.specs.Parts.{AreCuts}
use Rattle.sp_transfer.specs.declared.effects.Cuts.{Cuts}
use Rattle.sp_defuse.specs.declared.nodes.Node.{Node}
use Rattle.sp_defuse.specs.declared.sources.Sources.{Sources}
use Rattle.sp_defuse.specs.Nodes.{IsNode, AreNodes}
use Rattle.sp_defuse.specs.Sources.{number_at, IsSources, AreSources}
use Rattle.sp_defuse.specs.Accessed.{AreAccessed}
use Rattle.sp_defuse.specs.View.{equations_of}
use Rattle.sp_defuse.proofs.Lists.{each-map, each-get, each-at}
use Rattle.sp_defuse.proofs.Accessing.{accessed-is}

-- ---- the equations

-- a graph with the nodes of the supergraph, and what functions access in it
pub record IsLocalised (a : Analysed) (sharp : Bool) (flow g : Graph) : Type 0 where
  pub graph : IsSupergraph a.program a.told.calls true g
  pub nodes : g.nodes ≡ flow.nodes
  pub calls : g.calls ≡ a.told.calls
  pub found : AreAccessed a sharp flow.nodes g.accessed

module _ (a : Analysed) (sharp : Bool) (flow g : Graph) (local : IsLocalised a sharp flow g) (xs : List Node) (ss : List Sources) (are : AreNodes a sharp flow.nodes xs) (lead : AreSources g g.nodes ss) where
  in-graph : (n : ℕ) → (has n flow.nodes ≡ true) ↔ InGraph a.program a.told.calls n
  in-graph n = subst (λ ns. (has n ns ≡ true) ↔ InGraph a.program a.told.calls n) local.nodes (local.graph.nodes n)

  long : length flow.nodes ≡ length g.nodes
  long = sym (ap length local.nodes)

  number : (k : ℕ) → get_or flow.nodes k 0 ≡ get_or g.nodes k 0
  number k = sym (ap (λ ns. get_or ns k 0) local.nodes)

  are-locations : (test : ℕ → ℕ → Bool) (items : Node → List ℕ) → ((n : ℕ) (x : Node) → IsNode a sharp n x → AreLocations a (test n) (items x)) → (k : ℕ) → k < length g.nodes → AreLocations a (test (get_or g.nodes k 0)) (row (map items xs) k)
  are-locations test items of k low =
      let here = each-get (IsNode a sharp) flow.nodes xs k (omega (arith, low, long)) are in
      subst (λ n. AreLocations a (test n) (row (map items xs) k)) (number k)
      (subst (AreLocations a (test (get_or flow.nodes k 0))) (sym (here.2 items)) (of (get_or flow.nodes k 0) here.0 here.1))

  are-equations : AreEquations (equations_of a sharp g xs ss)
  are-equations = record {
    supergraph = local.graph;
    calls = local.calls;
    accessed = λ f l reached. accessed-is a sharp flow.nodes g.accessed in-graph local.found l f reached;
    into = λ j k low.
        let here = each-get (IsSources g) g.nodes ss k low lead in
        ap (has j) (here.2 (λ (s : Sources). s.places)) ∙ here.1.places j;
    defs = are-locations (defined_at a sharp) (λ (x : Node). x.defs.items) (λ n x is. is.defs);
    uses = are-locations (used_at a) (λ (x : Node). x.uses.items) (λ n x is. is.uses);
  }

-- ---- what is known without proofs

module _ (a : Analysed) (flow : Graph) (graph : ∥ IsSupergraph a.program a.told.calls false flow ∥₁) where
  pub nodes-rise : IsStrictlyIncreasing flow.nodes
  nodes-rise = ∥∥₁_elim graph (hlevel props) (λ is. rising flow.nodes is.ascending)

  pub calls-long : ∥ IsAnalysed a ∥₁ → length a.told.calls ≡ length a.program.nodes
  calls-long whole = ∥∥₁_elim whole (hlevel props) (λ w. w.callees.long)

  pub calls-few : ∥ IsAnalysed a ∥₁ → length a.told.calls < 2 ^ 32
  calls-few whole = ∥∥₁_elim whole (hlevel props) (λ w. few w)
    where
      few : IsAnalysed a → length a.told.calls < 2 ^ 32
      few w = omega (arith, w.callees.long, w.formed.few_nodes)

  pub nodes-low : ∥ IsAnalysed a ∥₁ → (n : ℕ) → has n flow.nodes ≡ true → n < length a.told.calls
  nodes-low whole n h = ∥∥₁_elim graph (hlevel props) (λ is. low is)
    where
      low : IsSupergraph a.program a.told.calls false flow → n < length a.told.calls
      low is = omega (arith, ((is.nodes n).0 h).0, calls-long whole)

  pub nodes-few : ∥ IsAnalysed a ∥₁ → length flow.nodes < 2 ^ 32
  nodes-few whole = ∥∥₁_elim whole (hlevel props) (λ w. few w)
    where
      few : IsAnalysed a → length flow.nodes < 2 ^ 32
      few w =
          let most = ascending-few flow.nodes (length a.told.calls) nodes-rise (nodes-low whole) in
          omega (arith, most, w.callees.long, w.formed.few_nodes)

  pub equations-known : (sharp : Bool) (g : Graph) (xs : List Node) (ss : List Sources) → (IsSupergraph a.program a.told.calls false flow → IsSupergraph a.program a.told.calls true g) → g.nodes ≡ flow.nodes → g.calls ≡ a.told.calls
      → AreAccessed a sharp flow.nodes g.accessed → AreNodes a sharp flow.nodes xs → AreSources g g.nodes ss → ∥ AreEquations (equations_of a sharp g xs ss) ∥₁
  equations-known sharp g xs ss localised nodes calls found are lead =
      ∥∥₁_elim graph (hlevel props) (λ is. ∣ are-equations a sharp flow g (record { graph = localised is; nodes = nodes; calls = calls; found = found }) xs ss are lead ∣₁)

pub numbers-are : (a : Analysed) (sharp : Bool) (ns : List ℕ) (xs : List Node) → AreNodes a sharp ns xs → map (λ (x : Node). x.number) xs ≡ ns
numbers-are a sharp ns xs are = each-map (IsNode a sharp) (λ (x : Node). x.number) (λ n x is. is.number) ns xs are

-- what is known of the node at a place
module _ (a : Analysed) (sharp : Bool) (g : Graph) (xs : List Node) (ss : List Sources) (k : ℕ) (there : k < length g.nodes) where
  pub node-low : map (λ (x : Node). x.number) xs ≡ g.nodes → k < length xs
  node-low numbers = omega (arith, there, ap length numbers, length-map xs (λ (x : Node). x.number))

  module _ (numbers : map (λ (x : Node). x.number) xs ≡ g.nodes) (x : Node) (is : x ≡ get_or xs k x) where
    pub number-kept : number_of (equations_of a sharp g xs ss) k ≡ x.number
    number-kept = sym (ap (λ ns. get_or ns k 0) numbers) ∙ get_or-map (λ (y : Node). y.number) xs k x 0 (node-low numbers) ∙ ap (λ (y : Node). y.number) (sym is)

    pub defs-kept : row (equations_of a sharp g xs ss).defs k ≡ x.defs.items
    defs-kept = get_or-map (λ (y : Node). y.defs.items) xs k x [] (node-low numbers) ∙ ap (λ (y : Node). y.defs.items) (sym is)

    pub uses-kept : row (equations_of a sharp g xs ss).uses k ≡ x.uses.items
    uses-kept = get_or-map (λ (y : Node). y.uses.items) xs k x [] (node-low numbers) ∙ ap (λ (y : Node). y.uses.items) (sym is)

    locations-at : AreEquations (equations_of a sharp g xs ss) → AreLocations a (defined_at a sharp x.number) x.defs.items
    locations-at are = subst (AreLocations a (defined_at a sharp x.number)) defs-kept (subst (λ n. AreLocations a (defined_at a sharp n) (row (equations_of a sharp g xs ss).defs k)) number-kept (are.defs k there))

    used-there : AreEquations (equations_of a sharp g xs ss) → AreLocations a (used_at a x.number) x.uses.items
    used-there are = subst (AreLocations a (used_at a x.number)) uses-kept (subst (λ n. AreLocations a (used_at a n) (row (equations_of a sharp g xs ss).uses k)) number-kept (are.uses k there))

    module _ (are : ∥ AreEquations (equations_of a sharp g xs ss) ∥₁) where
      pub defs-rise : IsStrictlyIncreasing x.defs.items
      defs-rise = ∥∥₁_elim are (hlevel props) (λ h. (locations-at h).ascend)

      pub defs-low : AllBelow (count (setting_of a)) x.defs.items
      defs-low = ∥∥₁_elim are (hlevel props) (λ h. (locations-at h).below)

      pub defs-are : (l : ℕ) → has l x.defs.items ≡ defined_at a sharp x.number l
      defs-are = ∥∥₁_elim are (hlevel props) (λ h. (locations-at h).are)

      pub uses-rise : IsStrictlyIncreasing x.uses.items
      uses-rise = ∥∥₁_elim are (hlevel props) (λ h. (used-there h).ascend)

-- ---- cuts

cuts-prop : (a : Analysed) (sharp : Bool) (n : ℕ) (cuts : Option Cuts) → IsProp (AreCuts a sharp n cuts)
cuts-prop a sharp n None = hlevel props
cuts-prop a sharp n (Some cuts) = hlevel props

cuts-there : (a : Analysed) (sharp : Bool) (ns : List ℕ) (xs : List Node) (k : ℕ) (x : Node) → k < length ns → x ≡ get_or xs k x → AreNodes a sharp ns xs → AreCuts a sharp x.number x.cuts
cuts-there a sharp ns xs k x low is are =
    let node : IsNode a sharp (get_or ns k 0) x = subst (IsNode a sharp (get_or ns k 0)) (sym is) (each-at (IsNode a sharp) ns xs k 0 x low are) in
    subst (λ n. AreCuts a sharp n x.cuts) (sym node.number) node.cuts

pub cuts-known : (a : Analysed) (sharp : Bool) (ns : List ℕ) (xs : List Node) (k : ℕ) (x : Node) → k < length ns → x ≡ get_or xs k x → ∥ AreNodes a sharp ns xs ∥₁ → AreCuts a sharp x.number x.cuts
cuts-known a sharp ns xs k x low is made = ∥∥₁_elim made (cuts-prop a sharp x.number x.cuts) (λ are. cuts-there a sharp ns xs k x low is are)

-- what is known of the sources at a place
pub places-kept : (ss : List Sources) (k : ℕ) (s : Sources) → k < length ss → s ≡ get_or ss k s → s.places ≡ row (map (λ (t : Sources). t.places) ss) k
places-kept ss k s low is = sym (get_or-map (λ (t : Sources). t.places) ss k s [] low ∙ ap (λ (t : Sources). t.places) (sym is))

pub passes-known : (g : Graph) (ss : List Sources) (k : ℕ) (s : Sources) (from l : ℕ) (b : Bool) → ∥ AreSources g g.nodes ss ∥₁ → k < length g.nodes → s ≡ get_or ss k s → from < length g.nodes
    → ((n : ℕ) → IsSources g n s → from < length g.nodes → b ≡ passes_between g (number_at g.nodes from) n l) → b ≡ passes_between g (number_at g.nodes from) (number_at g.nodes k) l
passes-known g ss k s from l b lead low is from_low passes = ∥∥₁_elim lead (hlevel props) (λ are. passes (get_or g.nodes k 0) (here are) from_low)
  where
    here : AreSources g g.nodes ss → IsSources g (get_or g.nodes k 0) s
    here are = subst (IsSources g (get_or g.nodes k 0)) (sym is) (each-at (IsSources g) g.nodes ss k 0 s low are)
