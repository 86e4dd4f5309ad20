-- What passes into a node where all edges pass every location.
use Rattle.std.proofs.Common.{◌≡◌, ◌≢◌, ◌⊎◌, inl, inr, ℕ, ◌+◌, ◌<◌, ◌-◌, zero, suc, Bool, true, false, ◌&&◌, ◌||◌, nat_eq, nat_lt, List, [], ◌∷◌, ◌++◌, length, get_or, refl, sym, ap, ◌∙◌, arith}
use Rattle.std.specs.List.{list_any, list_all}
use Rattle.std.proofs.Props.{props}
use Rattle.std.proofs.Math.Logic.{∥∥₁_elim}
use Rattle.std.proofs.lemmas.Bool.{false≢true}
use Rattle.std.proofs.lemmas.List.{get_or_append_left, get_or_push, get_or-append_right}
use Rattle.sp_graph.specs.declared.edge.Pass.{Pass}
use Rattle.sp_graph.specs.declared.edge.Pass.TheVariants.{All, Inside, Beside}
use Rattle.sp_graph.specs.declared.edge.Edge.{Edge}
use Rattle.sp_graph.specs.Supergraph.{Graph, edges_at, passes_by}
use Rattle.sp_transfer.specs.Equations.{Equations, AreEquations, nodes_of, number_of, is_joined, passes_between}
use Rattle.sp_defuse.specs.Open.{is_all, is_open, AreOpen}

and-second : (a b : Bool) → (a && b) ≡ true → b ≡ true
and-second true b h = h
and-second false b h = absurd (false≢true h)

and-first : (a b : Bool) → (a && b) ≡ true → a ≡ true
and-first true b h = refl
and-first false b h = absurd (false≢true h)

all-passes : (g : Graph) (p : Pass) (l : ℕ) → is_all p ≡ true → passes_by g p l ≡ true
all-passes g All l h = refl
all-passes g (Inside f) l h = absurd (false≢true h)
all-passes g (Beside c) l h = absurd (false≢true h)

any-passes : (g : Graph) (from l : ℕ) (es : List Edge) → list_any (λ (e : Edge). nat_eq e.from from) es ≡ true → list_all is_open es ≡ true → list_any (λ (e : Edge). nat_eq e.from from && passes_by g e.pass l) es ≡ true
any-passes g from l [] leads opens = leads
any-passes g from l (e ∷ es) leads opens =
    by (nat_eq e.from from) (passes_by g e.pass l) (all-passes g e.pass l (and-first (is_open e) (list_all is_open es) opens)) leads (λ h. any-passes g from l es h (and-second (is_open e) (list_all is_open es) opens))
  where
    by : {rest more : Bool} (a p : Bool) → p ≡ true → (a || rest) ≡ true → (rest ≡ true → more ≡ true) → ((a && p) || more) ≡ true
    by true true is leads go_on = refl
    by true false is leads go_on = absurd (false≢true is)
    by false p is leads go_on = go_on leads

-- each mark is of a node into which all edges pass everything
abbrev pub AreMarked : Graph → List Bool → Type 0
AreMarked g marks = (k : ℕ) → get_or marks k false ≡ true → list_all is_open (edges_at g.rows (get_or g.nodes k 0)) ≡ true

pub open-known : (e : Equations) → ∥ AreEquations e ∥₁ → (marks : List Bool) → AreMarked e.graph marks → AreOpen e marks
open-known e are marks marked n from l low there mark leads = ∥∥₁_elim are (hlevel props) (λ h. by h)
  where
    by : AreEquations e → passes_between e.graph (number_of e from) (number_of e n) l ≡ true
    by h = any-passes e.graph (number_of e from) l (edges_at e.graph.rows (number_of e n)) (and-second (nat_lt from (length (nodes_of e))) (is_joined e.graph (number_of e from) (number_of e n)) (sym (h.into from n low) ∙ leads)) (marked n mark)

-- one mark more
pub marked-more : (g : Graph) (marks : List Bool) (b : Bool) → b ≡ list_all is_open (edges_at g.rows (get_or g.nodes (length marks) 0)) → AreMarked g marks → AreMarked g (marks ++ b ∷ [])
marked-more g marks b is so_far k mark = by (which k (length marks))
  where
    which : (k n : ℕ) → (k < n) ⊎ ((k ≡ n) ⊎ (n < k))
    which k n = grind arith

    by : (k < length marks) ⊎ ((k ≡ length marks) ⊎ (length marks < k)) → list_all is_open (edges_at g.rows (get_or g.nodes k 0)) ≡ true
    by (inl low) = so_far k (sym (get_or_append_left marks (b ∷ []) false k low) ∙ mark)
    by (inr (inl e)) =
        ap (λ j. list_all is_open (edges_at g.rows (get_or g.nodes j 0))) e
        ∙ sym is ∙ sym (get_or_push marks b false (length marks) refl) ∙ ap (λ j. get_or (marks ++ b ∷ []) j false) (sym e) ∙ mark
    by (inr (inr past)) = absurd (false≢true (past_end (k - length marks) (omega (arith, past)) ∙ sym (get_or-append_right marks (b ∷ []) (length marks) k false refl (omega (arith, past))) ∙ mark))
      where
        past_end : (j : ℕ) → 0 < j → false ≡ get_or (b ∷ []) j false
        past_end zero above = absurd (omega (arith, above))
        past_end (suc j) above = refl
