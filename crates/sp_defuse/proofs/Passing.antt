-- What passes between two nodes, by the edges that are kept for them.
use Rattle.std.proofs.Common.{◌≡◌, ℕ, ◌<◌, Bool, true, false, cond, ◌&&◌, ◌||◌, nat_eq, List, [], ◌∷◌, length, get_or, refl, sym, ap, ◌∙◌}
use Rattle.std.specs.Prelude.{filter}
use Rattle.std.specs.List.{list_any}
use Rattle.std.proofs.lemmas.Bool.{false≢true}
use Rattle.sp_base_sets.specs.Sets.{has}
use Rattle.sp_graph.specs.declared.edge.Edge.{Edge}
use Rattle.sp_graph.specs.Supergraph.{Graph, edges_at, passes_by}
use Rattle.sp_transfer.specs.Equations.{is_joined, passes_between}
use Rattle.sp_defuse.specs.declared.sources.Sources.{Sources}
use Rattle.sp_defuse.specs.Sources.{number_at, IsSources, edges_from}
use Rattle.sp_defuse.proofs.Graphs.{is-lower}

any-filtered : (p q : Edge → Bool) (es : List Edge) → list_any q (filter p es) ≡ list_any (λ (e : Edge). p e && q e) es
any-filtered p q [] = refl
any-filtered p q (e ∷ es) = by (p e) (any-filtered p q es)
  where
    by : (b : Bool) → list_any q (filter p es) ≡ list_any (λ (x : Edge). p x && q x) es → list_any q (cond b (e ∷ filter p es) (filter p es)) ≡ ((b && q e) || list_any (λ (x : Edge). p x && q x) es)
    by true rest = ap (λ b. q e || b) rest
    by false rest = rest

none-passes : (p q : Edge → Bool) (es : List Edge) → list_any p es ≡ false → list_any (λ (e : Edge). p e && q e) es ≡ false
none-passes p q [] h = refl
none-passes p q (e ∷ es) h = by (p e) h (none-passes p q es)
  where
    by : (b : Bool) → (b || list_any p es) ≡ false → (list_any p es ≡ false → list_any (λ (x : Edge). p x && q x) es ≡ false) → ((b && q e) || list_any (λ (x : Edge). p x && q x) es) ≡ false
    by true k rest = absurd (false≢true (sym k))
    by false k rest = rest k

module _ (g : Graph) (n : ℕ) (s : Sources) (are : IsSources g n s) (from l : ℕ) where
  pub passes-kept : (at : ℕ) (kept : List Edge) (b : Bool) → at < length s.places → get_or s.places at 0 ≡ from → kept ≡ get_or s.edges.items at [] → b ≡ list_any (λ (e : Edge). passes_by g e.pass l) kept
      → b ≡ passes_between g (number_at g.nodes from) n l
  passes-kept at kept b low is kept_is b_is = b_is
      ∙ ap (list_any (λ (e : Edge). passes_by g e.pass l)) (kept_is ∙ are.edges.each at low ∙ ap (λ p. edges_from (number_at g.nodes p) (edges_at g.rows n)) is)
      ∙ any-filtered (λ (e : Edge). nat_eq e.from (number_at g.nodes from)) (λ (e : Edge). passes_by g e.pass l) (edges_at g.rows n)

  pub passes-none : from < length g.nodes → has from s.places ≡ false → false ≡ passes_between g (number_at g.nodes from) n l
  passes-none low absent = sym (none-passes (λ (e : Edge). nat_eq e.from (number_at g.nodes from)) (λ (e : Edge). passes_by g e.pass l) (edges_at g.rows n)
      (sym (ap (λ b. b && is_joined g (number_at g.nodes from) n) (is-lower from (length g.nodes) low)) ∙ sym (are.places from) ∙ absent))
