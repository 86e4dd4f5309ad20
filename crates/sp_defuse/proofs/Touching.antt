-- The functions that touch each location, and those that call each function, node by node.
use Rattle.std.proofs.Common.{◌≡◌, ℕ, ◌+◌, ◌<◌, ◌≤◌, ◌^◌, Bool, true, false, ◌&&◌, ◌||◌, nat_eq, List, [], length, take, get_or, replicate, Option, Some, refl, sym, ap, ◌∙◌, subst, arith}
use Rattle.std.specs.Option.{option_eq}
use Rattle.std.proofs.Props.{props}
use Rattle.std.proofs.Math.Logic.{∥∥₁_elim}
use Rattle.std.proofs.lemmas.List.{length-replicate}
use Rattle.std.proofs.lemmas.List.Folds.{list_any_more}
use Rattle.sp_base_sets.specs.Sets.{has}
use Rattle.sp_base_sets.specs.Reached.{row}
use Rattle.sp_graph.specs.Calls.{function_of}
use Rattle.sp_effect_rows.specs.Setting.{count}
use Rattle.sp_ir.specs.Regions.{is_cell}
use Rattle.sp_effect_scene.specs.Analysed.{Analysed, setting_of, locations_of}
use Rattle.sp_effect_scene.specs.Cells.{numbers-few}
use Rattle.sp_effect_scene.specs.Whole.{IsAnalysed}
use Rattle.sp_effect_call.proofs.StoringSteps.{low-member}
use Rattle.sp_transfer.specs.Effects.{defined_at, used_at}
use Rattle.sp_transfer.specs.Equations.{AreLocations}
use Rattle.sp_effect_uses.proofs.Steps.{take-whole}
use Rattle.sp_defuse.specs.declared.nodes.Node.{Node}
use Rattle.sp_defuse.specs.Nodes.{IsNode, AreNodes}
use Rattle.sp_defuse.specs.Accessed.{is_of, is_touched, is_called, AddsTo}
use Rattle.sp_defuse.proofs.Lists.{each-long, each-at}
use Rattle.sp_defuse.proofs.Adding.{adds-then, adds-same, nothing-there, any-found, second-true, function-is, function-low}

and-or : (x y z : Bool) → ((x || y) && z) ≡ ((x && z) || (y && z))
and-or true true true = refl
and-or true true false = refl
and-or true false true = refl
and-or true false false = refl
and-or false y z = refl

or-regroup : (a b c : Bool) → (a || (b || c)) ≡ ((a || b) || c)
or-regroup true b c = refl
or-regroup false b c = refl

-- from empty sets, after all nodes
pub adds-whole : (test : List ℕ → ℕ → ℕ → Bool) (ns : List ℕ) (i n : ℕ) (none sets : List (List ℕ)) → length ns ≤ i → none ≡ replicate n [] → AddsTo (test (take i ns)) none sets → (r f : ℕ) → has f (row sets r) ≡ test ns r f
adds-whole test ns i n none sets past empty adds r f =
    adds.exact r f
    ∙ ap (λ xs. has f (row xs r) || test (take i ns) r f) empty
    ∙ ap (λ b. b || test (take i ns) r f) (nothing-there n r f)
    ∙ ap (λ ms. test ms r f) (take-whole ns i past)

pub adds-long : (test : ℕ → ℕ → Bool) (n : ℕ) (none sets : List (List ℕ)) → none ≡ replicate n [] → AddsTo test none sets → length sets ≡ n
adds-long test n none sets empty adds = adds.long ∙ ap length empty ∙ length-replicate n []

pub locations-few : (a : Analysed) → ∥ IsAnalysed a ∥₁ → length (locations_of a.program) < 2 ^ 32
locations-few a whole = ∥∥₁_elim whole (hlevel props) (λ w. few w)
  where
    few : IsAnalysed a → length (locations_of a.program) < 2 ^ 32
    few w = let most = numbers-few is_cell 0 a.program.regions in omega (arith, most, w.formed.few_regions)

module _ (a : Analysed) (ns : List ℕ) where
  pub called-more : (i : ℕ) (none old new : List (List ℕ)) (rows : List ℕ) (function : Option ℕ) → i < length ns → rows ≡ row a.told.calls (get_or ns i 0) → function ≡ function_of a.program (get_or ns i 0)
      → AddsTo (is_called a (take i ns)) none old → AddsTo (λ r f. has r rows && option_eq nat_eq (Some f) function) old new → AddsTo (is_called a (take (i + 1) ns)) none new
  called-more i none old new rows function low rows_are function_is first second =
      adds-then (is_called a (take i ns)) (λ g f. has g (row a.told.calls (get_or ns i 0)) && is_of a.program f (get_or ns i 0)) (is_called a (take (i + 1) ns)) none old new first
      (adds-same (λ r f. has r rows && option_eq nat_eq (Some f) function) (λ g f. has g (row a.told.calls (get_or ns i 0)) && is_of a.program f (get_or ns i 0)) old new second
      (λ r f. ap (λ (xs : List ℕ). has r xs && option_eq nat_eq (Some f) function) rows_are ∙ ap (λ (o : Option ℕ). has r (row a.told.calls (get_or ns i 0)) && option_eq nat_eq (Some f) o) function_is))
      (λ g f. list_any_more (λ n. has g (row a.told.calls n) && is_of a.program f n) ns i 0 low)

  pub touched-more : (sharp : Bool) (i : ℕ) (node : Node) (none b0 b1 b2 : List (List ℕ)) (defs uses : List ℕ) (function : Option ℕ) → i < length ns → IsNode a sharp (get_or ns i 0) node → defs ≡ node.defs.items → uses ≡ node.uses.items → function ≡ function_of a.program node.number
      → AddsTo (is_touched a sharp (take i ns)) none b0 → AddsTo (λ r f. has r defs && option_eq nat_eq (Some f) function) b0 b1 → AddsTo (λ r f. has r uses && option_eq nat_eq (Some f) function) b1 b2 → AddsTo (is_touched a sharp (take (i + 1) ns)) none b2
  touched-more sharp i node none b0 b1 b2 defs uses function low is defs_are uses_are function_is first second third =
      adds-then mid (by (used_at a)) (is_touched a sharp (take (i + 1) ns)) none b1 b2
      (adds-then (is_touched a sharp (take i ns)) (by (defined_at a sharp)) mid none b0 b1 first (adds-same (λ r f. has r defs && option_eq nat_eq (Some f) function) (by (defined_at a sharp)) b0 b1 second (λ l f. same (defined_at a sharp) defs node.defs.items defs_are is.defs l f)) (λ l f. refl))
      (adds-same (λ r f. has r uses && option_eq nat_eq (Some f) function) (by (used_at a)) b1 b2 third (λ l f. same (used_at a) uses node.uses.items uses_are is.uses l f))
      (λ l f. list_any_more (λ n. (defined_at a sharp n l || used_at a n l) && is_of a.program f n) ns i 0 low
      ∙ ap (λ b. is_touched a sharp (take i ns) l f || b) (and-or (defined_at a sharp (get_or ns i 0) l) (used_at a (get_or ns i 0) l) (is_of a.program f (get_or ns i 0)))
      ∙ or-regroup (is_touched a sharp (take i ns) l f) (by (defined_at a sharp) l f) (by (used_at a) l f))
    where
      by : (ℕ → ℕ → Bool) → ℕ → ℕ → Bool
      by test l f = test (get_or ns i 0) l && is_of a.program f (get_or ns i 0)

      mid : ℕ → ℕ → Bool
      mid l f = is_touched a sharp (take i ns) l f || (defined_at a sharp (get_or ns i 0) l && is_of a.program f (get_or ns i 0))

      here : function ≡ function_of a.program (get_or ns i 0)
      here = function_is ∙ ap (function_of a.program) is.number

      same : (test : ℕ → ℕ → Bool) (ls items : List ℕ) → ls ≡ items → AreLocations a (test (get_or ns i 0)) items → (l f : ℕ) → (has l ls && option_eq nat_eq (Some f) function) ≡ (test (get_or ns i 0) l && is_of a.program f (get_or ns i 0))
      same test ls items are locations l f =
          ap (λ b. b && option_eq nat_eq (Some f) function) (ap (has l) are ∙ locations.are l)
          ∙ ap (λ (o : Option ℕ). test (get_or ns i 0) l && option_eq nat_eq (Some f) o) here

  -- ---- what is there

  pub node-here : (sharp : Bool) (nodes : List Node) (i : ℕ) (node : Node) → AreNodes a sharp ns nodes → i < length nodes → node ≡ get_or nodes i node → (i < length ns) × IsNode a sharp (get_or ns i 0) node
  node-here sharp nodes i node are low is =
      let low' : i < length ns = omega (arith, low, each-long (IsNode a sharp) ns nodes are) in
      (low', subst (IsNode a sharp (get_or ns i 0)) (sym is) (each-at (IsNode a sharp) ns nodes i 0 node low' are))

  pub location-low : (test : ℕ → Bool) (ls items : List ℕ) (n l : ℕ) → ls ≡ items → AreLocations a test items → n ≡ count (setting_of a) → has l ls ≡ true → l < n
  location-low test ls items n l are locations many h = subst (λ m. l < m) (sym many) (low-member (count (setting_of a)) items l locations.below (sym (ap (has l) are) ∙ h))

  -- ---- functions of the program

  module _ (whole : ∥ IsAnalysed a ∥₁) where
    owner-low : (n f : ℕ) → is_of a.program f n ≡ true → f < length a.program.functions
    owner-low n f h = ∥∥₁_elim whole (hlevel props) (λ w. function-low a.program w.formed n f (function-is a.program f n h))

    pub touched-low : (sharp : Bool) (l f : ℕ) → is_touched a sharp ns l f ≡ true → f < length a.program.functions
    touched-low sharp l f h =
        let found = any-found (λ n. (defined_at a sharp n l || used_at a n l) && is_of a.program f n) ns h in
        owner-low found.0 f (second-true (defined_at a sharp found.0 l || used_at a found.0 l) (is_of a.program f found.0) found.2)

    pub called-low : (g f : ℕ) → is_called a ns g f ≡ true → f < length a.program.functions
    called-low g f h =
        let found = any-found (λ n. has g (row a.told.calls n) && is_of a.program f n) ns h in
        owner-low found.0 f (second-true (has g (row a.told.calls found.0)) (is_of a.program f found.0) found.2)

    pub callee-low : (n g : ℕ) → has g (row a.told.calls n) ≡ true → g < length a.program.functions
    callee-low n g h = ∥∥₁_elim whole (hlevel props) (λ w. w.callees.low n g h)
