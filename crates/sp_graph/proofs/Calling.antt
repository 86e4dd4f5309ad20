-- Which functions call which, and what they reach.
use Rattle.std.proofs.Common.{◌≡◌, ◌≢◌, ◌⊎◌, ◌↔◌, inl, inr, ℕ, zero, suc, ◌+◌, ◌<◌, Bool, true, false, ◌&&◌, eqb, List, [], ◌∷◌, length, get_or, replicate, Option, Some, None, refl, sym, ap, ◌∙◌, subst, arith, eqb-true}
use Rattle.std.specs.Prelude.{slice_get, nat_lt}
use Rattle.std.specs.List.{Contains}
use Rattle.std.proofs.lemmas.Bool.{false≢true}
use Rattle.std.proofs.lemmas.Bool.Decides.{nat_tests}
use Rattle.std.proofs.lemmas.List.{length-replicate}
use Rattle.sp_ir.specs.Commands.{Node}
use Rattle.sp_ir.specs.Programs.{Lowered}
use Rattle.sp_ir.specs.Formed.{IsFormed}
use Rattle.sp_base_sets.specs.Sets.{has, Ascends}
use Rattle.sp_base_sets.specs.Reached.{row, Reached, start, onward as go_on, Leads as Follows}
use Rattle.sp_base_sets.proofs.Members.{eqb-refl}
use Rattle.sp_base_sets.proofs.Images.{or-cases, or-left}
use Rattle.sp_graph.specs.Accessed.{AccessSets}
use Rattle.sp_graph.specs.Calls.{Callees, AreCallees, CallsTo, Leads, direct, onward, IsReached, IsRecursive, function_of, function_in}
use Rattle.sp_graph.specs.Supergraph.{IsSupergraph, InGraph, InFunction, InFlow, edges_at}
use Rattle.sp_graph.specs.Rows.{Grows, AreLists, AreEdges, CallsAt, is_inside}
use Rattle.sp_graph.specs.declared.edge.Edge.{Edge}
use Rattle.sp_graph.proofs.Edges.{row_low}

which : (k n : ℕ) → (k ≡ n) ⊎ (k ≢ n)
which k n = grind arith

-- ---- lists of functions

pub grows_begin : (F : ℕ → ℕ → ℕ → Type 0) (lists : List (List ℕ)) → Grows (λ f g. (k : ℕ) × (k < 0) × F k f g) lists lists
grows_begin F lists = record {
  long = refl;
  kept = λ f g h. h;
  origin = λ f g h. inl h;
  all = λ f g low (k, none, h). absurd (omega (arith, none));
}

pub grows_loop : (F : ℕ → ℕ → ℕ → Type 0) (i : ℕ) (a b d : List (List ℕ)) → Grows (λ f g. (k : ℕ) × (k < i) × F k f g) a b → Grows (F i) b d → Grows (λ f g. (k : ℕ) × (k < i + 1) × F k f g) a d
grows_loop F i a b d first second = record {
  long = second.long ∙ first.long;
  kept = λ f g h. second.kept f g (first.kept f g h);
  origin = λ f g h. from f g (second.origin f g h);
  all = λ f g low (k, k_low, h). all f g low k k_low h (which k i);
}
  where
    deeper : (f g : ℕ) → (has g (row a f) ≡ true) ⊎ ((k : ℕ) × (k < i) × F k f g) → (has g (row a f) ≡ true) ⊎ ((k : ℕ) × (k < i + 1) × F k f g)
    deeper f g (inl h) = inl h
    deeper f g (inr (k, low, h)) = inr (k, omega (arith, low), h)

    from : (f g : ℕ) → (has g (row b f) ≡ true) ⊎ F i f g → (has g (row a f) ≡ true) ⊎ ((k : ℕ) × (k < i + 1) × F k f g)
    from f g (inl h) = deeper f g (first.origin f g h)
    from f g (inr h) = inr (i, omega arith, h)

    all : (f g : ℕ) → f < length a → (k : ℕ) → k < i + 1 → F k f g → (k ≡ i) ⊎ (k ≢ i) → has g (row d f) ≡ true
    all f g low k k_low h (inl same) = second.all f g (omega (arith, low, first.long)) (subst (λ j. F j f g) same h)
    all f g low k k_low h (inr apart) = second.kept f g (first.all f g low (k, omega (arith, k_low, apart), h))

pub grows_at : (p : Lowered) (calls : Callees) (node : ℕ) (function : Option ℕ) (functions : List ℕ) (a b : List (List ℕ)) → function ≡ function_of p node → functions ≡ row calls node
    → Grows (λ f g. (function ≡ Some f) × (has g functions ≡ true)) a b → Grows (CallsAt p calls node) a b
grows_at p calls node function functions a b function_is functions_are grows = record {
  long = grows.long;
  kept = grows.kept;
  origin = λ f g h. from f g (grows.origin f g h);
  all = λ f g low h. grows.all f g low (function_is ∙ h.inside, ap (λ xs. has g xs) functions_are ∙ h.calls_it);
}
  where
    from : (f g : ℕ) → (has g (row a f) ≡ true) ⊎ ((function ≡ Some f) × (has g functions ≡ true)) → (has g (row a f) ≡ true) ⊎ CallsAt p calls node f g
    from f g (inl h) = inl h
    from f g (inr (is, there)) = inr (record { inside = sym function_is ∙ is; calls_it = sym (ap (λ xs. has g xs) functions_are) ∙ there })

nothing : (count f g : ℕ) → has g (row (replicate count []) f) ≡ true → ⊥
nothing zero f g h = false≢true h
nothing (suc count) zero g h = false≢true h
nothing (suc count) (suc f) g h = nothing count f g h

function_low : (p : Lowered) → IsFormed p → (n f : ℕ) → function_of p n ≡ Some f → f < length p.functions
function_low p formed n f h = by (slice_get p.nodes n) refl h
  where
    by : (o : Option Node) → slice_get p.nodes n ≡ o → function_in o ≡ Some f → f < length p.functions
    by None e g = absurd (cc)
    by (Some node) e g = (formed.nodes n node e).inside f g

pub all_lists : (p : Lowered) (calls : Callees) (none lists : List (List ℕ)) → IsFormed p → none ≡ replicate (length p.functions) []
    → Grows (λ f g. (k : ℕ) × (k < length calls) × CallsAt p calls k f g) none lists → AreLists p calls lists
all_lists p calls none lists formed empty grows = record {
  long = grows.long ∙ counted;
  origin = λ f g h. from f g (grows.origin f g h);
  all = λ f g h. grows.all f g (omega (arith, function_low p formed h.node f h.inside, counted)) (h.node, row_low calls h.node g h.calls_it, record { inside = h.inside; calls_it = h.calls_it });
}
  where
    counted : length none ≡ length p.functions
    counted = ap length empty ∙ length-replicate (length p.functions) []

    from : (f g : ℕ) → (has g (row none f) ≡ true) ⊎ ((k : ℕ) × (k < length calls) × CallsAt p calls k f g) → CallsTo p calls f g
    from f g (inl h) = absurd (nothing (length p.functions) f g (subst (λ xs. has g (row xs f) ≡ true) empty h))
    from f g (inr (k, low, h)) = record { node = k; inside = h.inside; calls_it = h.calls_it }

pub lists_low : (p : Lowered) (calls : Callees) (lists : List (List ℕ)) → AreCallees p calls → AreLists p calls lists → (f g : ℕ) → has g (row lists f) ≡ true → g < length lists
lists_low p calls lists are these f g h = let one = these.origin f g h in omega (arith, are.low one.node g one.calls_it, these.long)

-- ---- what they reach

module _ (p : Lowered) (calls : Callees) (lists : List (List ℕ)) (these : AreLists p calls lists) where
  pub leads_to : (f g : ℕ) → Follows lists f g → Leads p calls f g
  leads_to f g (start h) = direct (these.origin f g h)
  leads_to f g (go_on {mid} r h) = onward (leads_to f mid r) (these.origin mid g h)

  pub leads_from : (f g : ℕ) → Leads p calls f g → Follows lists f g
  leads_from f g (direct c) = start (these.all f g c)
  leads_from f g (onward {mid} r c) = go_on (leads_from f mid r) (these.all mid g c)

  pub recursive_ones : (marks : List Bool) → ((n : ℕ) → (get_or marks n false ≡ true) ↔ Follows lists n n) → (f : ℕ) → (get_or marks f false ≡ true) ↔ IsRecursive p calls f
  recursive_ones marks exact f = (λ h. leads_to f f ((exact f).0 h), λ r. (exact f).1 (leads_from f f r))

  main_in : (f : ℕ) → has f (p.main ∷ []) ≡ true → f ≡ p.main
  main_in f h = by (or-cases (eqb f p.main) false h)
    where
      by : (eqb f p.main ≡ true) ⊎ (false ≡ true) → f ≡ p.main
      by (inl e) = eqb-true f p.main e
      by (inr e) = absurd (false≢true e)

  reached_to : (f : ℕ) → Reached lists (p.main ∷ []) f → IsReached p calls f
  reached_to f (start h) = inl (main_in f h)
  reached_to f (go_on {mid} r h) = inr (by (reached_to mid r))
    where
      by : IsReached p calls mid → Leads p calls p.main f
      by (inl e) = direct (these.origin p.main f (subst (λ m. has f (row lists m) ≡ true) e h))
      by (inr leads) = onward leads (these.origin mid f h)

  main_there : has p.main (p.main ∷ []) ≡ true
  main_there = or-left (eqb p.main p.main) false (eqb-refl p.main)

  along : (f : ℕ) → Leads p calls p.main f → Reached lists (p.main ∷ []) f
  along f (direct c) = go_on (start main_there) (these.all p.main f c)
  along f (onward {mid} r c) = go_on (along mid r) (these.all mid f c)

  reached_from : (f : ℕ) → IsReached p calls f → Reached lists (p.main ∷ []) f
  reached_from f (inl e) = subst (λ m. Reached lists (p.main ∷ []) m) (sym e) (start main_there)
  reached_from f (inr leads) = along f leads

  parts : (a b : Bool) → (a && b) ≡ true → (a ≡ true) × (b ≡ true)
  parts true b h = (refl, h)
  parts false b h = absurd (false≢true h)

  both : (a b : Bool) → a ≡ true → b ≡ true → (a && b) ≡ true
  both true b h k = k
  both false b h k = absurd (false≢true h)

  less : (n m : ℕ) → nat_lt n m ≡ true → n < m
  less n m h = grind (arith, nat_tests)

  less_from : (n m : ℕ) → n < m → nat_lt n m ≡ true
  less_from n m h = grind (arith, nat_tests)

  pub graph_nodes : (marks : List Bool) (nodes : List ℕ) → ((n : ℕ) → (get_or marks n false ≡ true) ↔ Reached lists (p.main ∷ []) n)
      → ((n : ℕ) → has n nodes ≡ (nat_lt n (length p.nodes) && is_inside marks (function_of p n))) → (n : ℕ) → (has n nodes ≡ true) ↔ InGraph p calls n
  graph_nodes marks nodes exact is n = (to, from)
    where
      inside_to : (o : Option ℕ) → is_inside marks o ≡ true → InFunction p calls o
      inside_to None h = tt
      inside_to (Some f) h = reached_to f ((exact f).0 h)

      inside_from : (o : Option ℕ) → InFunction p calls o → is_inside marks o ≡ true
      inside_from None h = refl
      inside_from (Some f) h = (exact f).1 (reached_from f h)

      to : has n nodes ≡ true → InGraph p calls n
      to h = let two = parts (nat_lt n (length p.nodes)) (is_inside marks (function_of p n)) (sym (is n) ∙ h) in (less n (length p.nodes) two.0, inside_to (function_of p n) two.1)

      from : InGraph p calls n → has n nodes ≡ true
      from (low, h) = is n ∙ both (nat_lt n (length p.nodes)) (is_inside marks (function_of p n)) (less_from n (length p.nodes) low) (inside_from (function_of p n) h)

-- ---- the graph

pub made : (p : Lowered) (calls : Callees) (local : Bool) (nodes : List ℕ) (rows : List (List Edge)) (accessed : AccessSets) (kept : List (List ℕ)) → Ascends nodes → ((n : ℕ) → (has n nodes ≡ true) ↔ InGraph p calls n) → AreEdges p nodes calls local rows
    → IsSupergraph p calls local (record { nodes = nodes; rows = rows; accessed = accessed; calls = kept })
made p calls local nodes rows accessed kept ascends exact edges = record {
  ascending = ascends;
  nodes = exact;
  edges = λ n e. (to n e, from n e);
}
  where
    to : (n : ℕ) (e : Edge) → Contains (edges_at rows n) e → (e.to ≡ n) × InFlow p calls local e
    to n e h = let one = (edges.exact n e).0 h in (one.0, record { leaves = (exact e.from).0 one.1.0; comes = (exact e.to).0 one.1.1; edge = one.2 })

    from : (n : ℕ) (e : Edge) → (e.to ≡ n) × InFlow p calls local e → Contains (edges_at rows n) e
    from n e (same, h) = (edges.exact n e).1 (same, ((exact e.from).1 h.leaves, (exact e.to).1 h.comes), h.edge)
