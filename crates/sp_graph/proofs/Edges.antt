-- What came to the rows is the edges of the program between the nodes.
use Rattle.std.proofs.Common.{◌≡◌, ◌⊎◌, inl, inr, ℕ, zero, suc, ◌<◌, Bool, true, List, [], ◌∷◌, length, get_or, replicate, Option, Some, None, refl, sym, ap, ◌∙◌, subst, arith}
use Rattle.std.specs.Prelude.{slice_get}
use Rattle.std.specs.List.{Contains}
use Rattle.std.proofs.lemmas.Bool.{false≢true}
use Rattle.sp_ir.specs.Commands.{Node}
use Rattle.sp_ir.specs.Programs.{Lowered}
use Rattle.sp_base_sets.specs.Sets.{has}
use Rattle.sp_base_sets.specs.Reached.{row}
use Rattle.sp_base_sets.proofs.Members.{has_there}
use Rattle.sp_base_sets.proofs.Images.{place_of}
use Rattle.sp_graph.specs.Calls.{Callees, call_of, call_in, entry_of, exit_of}
use Rattle.sp_graph.specs.Supergraph.{edges_at, crossing, IsEdge, inside, starts, enters, leaves, beside}
use Rattle.sp_graph.specs.Rows.{Joins, Between, IsInside, IsBeginning, ReturnsFrom, Crosses, AreEdges}
use Rattle.sp_graph.specs.declared.edge.Pass.{Pass}
use Rattle.sp_graph.specs.declared.edge.Edge.{Edge}

length-none : (count : ℕ) → length (replicate {A = List Edge} count []) ≡ count
length-none zero = refl
length-none (suc count) = ap (λ n. suc n) (length-none count)

none_there : (count n : ℕ) (e : Edge) → Contains (edges_at (replicate count []) n) e → ⊥
none_there zero n e (k, low, is) = omega (arith, low)
none_there (suc count) zero e (k, low, is) = omega (arith, low)
none_there (suc count) (suc n) e h = none_there count n e h

pub row_low : (calls : Callees) (n f : ℕ) → has f (row calls n) ≡ true → n < length calls
row_low [] n f h = absurd (false≢true h)
row_low (xs ∷ calls) zero f h = omega arith
row_low (xs ∷ calls) (suc n) f h = omega (arith, row_low calls n f h)

there_low : {A : Type 0} (xs : List A) (n : ℕ) (x : A) → slice_get xs n ≡ Some x → n < length xs
there_low [] n x h = absurd (cc)
there_low (y ∷ xs) zero x h = omega arith
there_low (y ∷ xs) (suc n) x h = omega (arith, there_low xs n x h)

call_low : (p : Lowered) (n c : ℕ) → call_of p n ≡ Some c → n < length p.nodes
call_low p n c h = by (slice_get p.nodes n) refl h
  where
    by : (o : Option Node) → slice_get p.nodes n ≡ o → call_in o ≡ Some c → n < length p.nodes
    by None e g = absurd (cc)
    by (Some node) e g = there_low p.nodes n node e

some_there : (f : ℕ) (xs : List ℕ) → has f xs ≡ true → 0 < length xs
some_there f [] h = absurd (false≢true h)
some_there f (x ∷ xs) h = omega arith

module _ (p : Lowered) (calls : Callees) (local : Bool) (nodes : List ℕ) where
  as_edge : {from to from' to' : ℕ} {pass pass' : Pass} → from ≡ from' → to ≡ to' → pass ≡ pass' → IsEdge p calls local from' to' pass' → IsEdge p calls local from to pass
  as_edge {from} {to} {from'} {to'} {pass} {pass'} a b d h =
      subst (λ x. IsEdge p calls local x to pass) (sym a) (subst (λ x. IsEdge p calls local from' x pass) (sym b) (subst (λ x. IsEdge p calls local from' to' x) (sym d) h))

  returns_edge : (call node : ℕ) (e : Edge) → call_of p node ≡ Some call → ReturnsFrom p nodes local call node (row calls call) e → IsEdge p calls local e.from e.to e.pass
  returns_edge call node e is (inl (k, low, h)) =
      let f = get_or (row calls call) k 0 in
      as_edge refl h.to h.pass (leaves call f is (has_there (row calls call) f k low refl) h.exit)
  returns_edge call node e is (inr h) =
      let f = get_or (row calls call) 0 0 in
      as_edge h.from h.to h.pass (beside f h.localised is (has_there (row calls call) f 0 h.some refl))

  crosses_edge : (k : ℕ) (e : Edge) → Crosses p nodes calls local k e → IsEdge p calls local e.from e.to e.pass
  crosses_edge k e (inl (i, low, h)) =
      let f = get_or (row calls k) i 0 in
      as_edge h.from refl h.pass (enters f (has_there (row calls k) f i low refl) h.entry)
  crosses_edge k e (inr (call, is, h)) = returns_edge call k e is h

  returns_between : (call node : ℕ) (functions : List ℕ) (e : Edge) → ReturnsFrom p nodes local call node functions e → Between nodes e
  returns_between call node functions e (inl (k, low, h)) = h.between
  returns_between call node functions e (inr h) = h.between

  crosses_between : (k : ℕ) (e : Edge) → Crosses p nodes calls local k e → Between nodes e
  crosses_between k e (inl (i, low, h)) = h.between
  crosses_between k e (inr (call, is, h)) = returns_between call k (row calls call) e h

  pub all_edges : (long : length calls ≡ length p.nodes) (count : ℕ) → count ≡ length calls → (a b d : List (List Edge))
      → Joins (λ e. (k : ℕ) × (k < length p.flow) × IsInside nodes p.flow k e) (replicate count []) a
      → Joins (IsBeginning p nodes) a b
      → Joins (λ e. (k : ℕ) × (k < length calls) × Crosses p nodes calls local k e) b d
      → AreEdges p nodes calls local d
  all_edges long count counted a b d first second third = record {
    long = third.long ∙ second.long ∙ first.long ∙ length-none count ∙ counted;
    exact = λ n e. (λ h. to n e (third.origin n e h), λ (same, between, edge). subst (λ k. Contains (edges_at d k) e) same (back e between e.from e.to e.pass edge refl refl refl));
  }
    where
      Is : ℕ → Edge → Type 0
      Is n e = (e.to ≡ n) × Between nodes e × IsEdge p calls local e.from e.to e.pass

      to_first : (n : ℕ) (e : Edge) → Contains (edges_at (replicate count []) n) e ⊎ ((e.to ≡ n) × ((k : ℕ) × (k < length p.flow) × IsInside nodes p.flow k e)) → Is n e
      to_first n e (inl h) = absurd (none_there count n e h)
      to_first n e (inr (same, (k, low, h))) = (same, h.between, as_edge refl refl h.pass (inside (k, low, h.there)))

      to_second : (n : ℕ) (e : Edge) → Contains (edges_at a n) e ⊎ ((e.to ≡ n) × IsBeginning p nodes e) → Is n e
      to_second n e (inl h) = to_first n e (first.origin n e h)
      to_second n e (inr (same, h)) = (same, h.between, as_edge h.from refl h.pass (starts h.entry))

      to : (n : ℕ) (e : Edge) → Contains (edges_at b n) e ⊎ ((e.to ≡ n) × ((k : ℕ) × (k < length calls) × Crosses p nodes calls local k e)) → Is n e
      to n e (inl h) = to_second n e (second.origin n e h)
      to n e (inr (same, (k, low, h))) = (same, crosses_between k e h, crosses_edge k e h)

      back : (e : Edge) → Between nodes e → (from to : ℕ) (pass : Pass) → IsEdge p calls local from to pass → e.from ≡ from → e.to ≡ to → e.pass ≡ pass → Contains (edges_at d e.to) e
      back e between from to pass (inside (k, low, there)) f t q =
          third.kept e.to e (second.kept e.to e (first.all e (
            k,
            low,
            record {
              there = subst (λ x. get_or p.flow k x ≡ x) (sym (ap (λ x. (x, e.to)) f ∙ ap (λ y. (from, y)) t)) there;
              pass = q;
              between = between;
            },
          )))
      back e between from to pass (starts entry) f t q =
          third.kept e.to e (second.all e (record { entry = entry ∙ ap (λ x. Some x) (sym t); from = f; pass = q; between = between }))
      back e between from to pass (enters g calls_it entry) f t q =
          let at = place_of (row calls from) g calls_it in
          third.all e (
            from,
            row_low calls from g calls_it,
            inl (
              at.0,
              at.1,
              record {
                entry = subst (λ x. entry_of p x ≡ Some e.to) (sym at.2) (entry ∙ ap (λ x. Some x) (sym t));
                from = f;
                pass = q ∙ ap (λ x. crossing local x) (sym at.2);
                between = between;
              },
            ),
          )
      back e between from to pass (leaves c g is calls_it exit) f t q =
          let at = place_of (row calls c) g calls_it in
          third.all e (
            to,
            omega (arith, call_low p to c is, long),
            inr (
              c,
              is,
              inl (
                at.0,
                at.1,
                record {
                  exit = subst (λ x. exit_of p x ≡ Some e.from) (sym at.2) (exit ∙ ap (λ x. Some x) (sym f));
                  to = t;
                  pass = q ∙ ap (λ x. crossing local x) (sym at.2);
                  between = between;
                },
              ),
            ),
          )
      back e between from to pass (beside g localised is calls_it) f t q =
          third.all e (
            to,
            omega (arith, call_low p to from is, long),
            inr (
              from,
              is,
              inr (record {
                localised = localised;
                some = some_there g (row calls from) calls_it;
                from = f;
                to = t;
                pass = q;
                between = between;
              }),
            ),
          )
