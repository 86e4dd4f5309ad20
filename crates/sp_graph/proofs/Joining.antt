-- Edges that come to the rows, one after another.
use Rattle.std.proofs.Common.{◌≡◌, ◌≢◌, ◌⊎◌, inl, inr, Bool, Some, ℕ, zero, suc, ◌+◌, ◌<◌, true, List, [], ◌∷◌, ◌++◌, length, get_or, set, refl, sym, ap, ◌∙◌, subst, arith, get_or-set_same, get_or-set_other, length-set}
use Rattle.std.specs.List.{Contains}
use Rattle.std.proofs.lemmas.List.Elements.{Contains-append_left, Contains-append_right, Contains-append_cases}
use Rattle.std.proofs.lemmas.List.{get_or_default}
use Rattle.sp_ir.specs.Programs.{Lowered}
use Rattle.sp_base_sets.specs.Reached.{row}
use Rattle.sp_graph.specs.Calls.{Callees, call_of, entry_of, exit_of}
use Rattle.sp_graph.specs.Supergraph.{edges_at, crossing}
use Rattle.sp_graph.specs.Rows.{Joins, Between, IsEntering, IsLeaving, IsBeside, IsInside, IsBeginning, ReturnsFrom, ComesBack, Crosses}
use Rattle.sp_graph.specs.declared.edge.Pass.TheVariants.{All, Beside}
use Rattle.sp_graph.specs.declared.edge.Edge.{Edge}

which : (k n : ℕ) → (k ≡ n) ⊎ (k ≢ n)
which k n = grind arith

-- one edge comes
pub edge_joins : (nodes : List ℕ) (rows : List (List Edge)) (edge : Edge) → edge.to < length rows → Between nodes edge
    → Joins (λ e. (e ≡ edge) × Between nodes e) rows (set rows edge.to (get_or rows edge.to [] ++ edge ∷ []))
edge_joins nodes rows edge low between = record {
  long = length-set rows edge.to row;
  kept = λ n e h. keeps n e h (which n edge.to);
  origin = λ n e h. from n e h (which n edge.to);
  all = λ e (same, b). subst (λ f. Contains (get_or new f.to []) f) (sym same) (subst (λ xs. Contains xs edge) (sym at) (Contains-append_right old (edge ∷ []) edge (0, omega arith, refl)));
}
  where
    old : List Edge
    old = get_or rows edge.to []

    row : List Edge
    row = old ++ edge ∷ []

    new : List (List Edge)
    new = set rows edge.to row

    at : get_or new edge.to [] ≡ row
    at = get_or-set_same rows edge.to row [] low

    keeps : (n : ℕ) (e : Edge) → Contains (get_or rows n []) e → (n ≡ edge.to) ⊎ (n ≢ edge.to) → Contains (get_or new n []) e
    keeps n e h (inl same) = subst (λ k. Contains (get_or new k []) e) (sym same) (subst (λ xs. Contains xs e) (sym at) (Contains-append_left old (edge ∷ []) e (subst (λ k. Contains (get_or rows k []) e) same h)))
    keeps n e h (inr apart) = subst (λ xs. Contains xs e) (sym (get_or-set_other rows edge.to n row [] apart)) h

    one : (e : Edge) → Contains (edge ∷ []) e → e ≡ edge
    one e (zero, k_low, is) = sym is
    one e (suc k, k_low, is) = absurd (omega arith)

    from : (n : ℕ) (e : Edge) → Contains (get_or new n []) e → (n ≡ edge.to) ⊎ (n ≢ edge.to) → Contains (get_or rows n []) e ⊎ ((e.to ≡ n) × ((e ≡ edge) × Between nodes e))
    from n e h (inl same) = by (Contains-append_cases old (edge ∷ []) e (subst (λ xs. Contains xs e) at (subst (λ k. Contains (get_or new k []) e) same h)))
      where
        by : Contains old e ⊎ Contains (edge ∷ []) e → Contains (get_or rows n []) e ⊎ ((e.to ≡ n) × ((e ≡ edge) × Between nodes e))
        by (inl g) = inl (subst (λ k. Contains (get_or rows k []) e) (sym same) g)
        by (inr g) = let is = one e g in inr (ap (λ f. f.to) is ∙ sym same, (is, subst (λ f. Between nodes f) (sym is) between))
    from n e h (inr apart) = inl (subst (λ xs. Contains xs e) (get_or-set_other rows edge.to n row [] apart) h)

pub joins_nothing : (F : Edge → Type 0) (rows : List (List Edge)) → ((e : Edge) → F e → ⊥) → Joins F rows rows
joins_nothing F rows none = record {
  long = refl;
  kept = λ n e h. h;
  origin = λ n e h. inl h;
  all = λ e f. absurd (none e f);
}

pub joins_as : (F G : Edge → Type 0) (a b : List (List Edge)) → Joins F a b → ((e : Edge) → F e → G e) → ((e : Edge) → G e → F e) → Joins G a b
joins_as F G a b joins to from = record {
  long = joins.long;
  kept = joins.kept;
  origin = λ n e h. by n e (joins.origin n e h);
  all = λ e g. joins.all e (from e g);
}
  where
    by : (n : ℕ) (e : Edge) → Contains (edges_at a n) e ⊎ ((e.to ≡ n) × F e) → Contains (edges_at a n) e ⊎ ((e.to ≡ n) × G e)
    by n e (inl h) = inl h
    by n e (inr (same, f)) = inr (same, to e f)

pub joins_then : (F G : Edge → Type 0) (a b d : List (List Edge)) → Joins F a b → Joins G b d → Joins (λ e. F e ⊎ G e) a d
joins_then F G a b d first second = record {
  long = second.long ∙ first.long;
  kept = λ n e h. second.kept n e (first.kept n e h);
  origin = λ n e h. from n e (second.origin n e h);
  all = λ e h. all e h;
}
  where
    deeper : (n : ℕ) (e : Edge) → Contains (edges_at a n) e ⊎ ((e.to ≡ n) × F e) → Contains (edges_at a n) e ⊎ ((e.to ≡ n) × (F e ⊎ G e))
    deeper n e (inl h) = inl h
    deeper n e (inr (same, f)) = inr (same, inl f)

    from : (n : ℕ) (e : Edge) → Contains (edges_at b n) e ⊎ ((e.to ≡ n) × G e) → Contains (edges_at a n) e ⊎ ((e.to ≡ n) × (F e ⊎ G e))
    from n e (inl h) = deeper n e (first.origin n e h)
    from n e (inr (same, g)) = inr (same, inr g)

    all : (e : Edge) → F e ⊎ G e → Contains (edges_at d e.to) e
    all e (inl f) = second.kept e.to e (first.all e f)
    all e (inr g) = second.all e g

-- the loop: those before this one, and then its own
pub joins_loop : (F : ℕ → Edge → Type 0) (i : ℕ) (a b d : List (List Edge)) → Joins (λ e. (k : ℕ) × (k < i) × F k e) a b → Joins (F i) b d → Joins (λ e. (k : ℕ) × (k < i + 1) × F k e) a d
joins_loop F i a b d first second =
    joins_as (λ e. ((k : ℕ) × (k < i) × F k e) ⊎ F i e) (λ e. (k : ℕ) × (k < i + 1) × F k e) a d (joins_then (λ e. (k : ℕ) × (k < i) × F k e) (F i) a b d first second) to from
  where
    to : (e : Edge) → ((k : ℕ) × (k < i) × F k e) ⊎ F i e → (k : ℕ) × (k < i + 1) × F k e
    to e (inl (k, low, f)) = (k, omega (arith, low), f)
    to e (inr f) = (i, omega arith, f)

    from : (e : Edge) → (k : ℕ) × (k < i + 1) × F k e → ((k : ℕ) × (k < i) × F k e) ⊎ F i e
    from e (k, low, f) = by (which k i)
      where
        by : (k ≡ i) ⊎ (k ≢ i) → ((k : ℕ) × (k < i) × F k e) ⊎ F i e
        by (inl same) = inr (subst (λ j. F j e) same f)
        by (inr apart) = inl (k, omega (arith, low, apart), f)

pub joins_begin : (F : ℕ → Edge → Type 0) (rows : List (List Edge)) → Joins (λ e. (k : ℕ) × (k < 0) × F k e) rows rows
joins_begin F rows = joins_nothing (λ e. (k : ℕ) × (k < 0) × F k e) rows (λ e (k, low, f). omega (arith, low))

-- ---- the edge that comes is the one that is meant

same_edge : (e d : Edge) → e.from ≡ d.from → e.to ≡ d.to → e.pass ≡ d.pass → e ≡ d
same_edge e d a b c =
    let one : Edge = record { from = d.from; to = e.to; pass = e.pass } in
    let two : Edge = record { from = d.from; to = d.to; pass = e.pass } in
    let first : e ≡ one = ap (λ x. let r : Edge = record { from = x; to = e.to; pass = e.pass } in r) a in
    let second : one ≡ two = ap (λ x. let r : Edge = record { from = d.from; to = x; pass = e.pass } in r) b in
    let third : two ≡ d = ap (λ x. let r : Edge = record { from = d.from; to = d.to; pass = x } in r) c in
    first ∙ second ∙ third

some_same : {a b : ℕ} → Some a ≡ Some b → a ≡ b
some_same h = cc

pub entering_joins : (p : Lowered) (nodes : List ℕ) (local : Bool) (node f : ℕ) (edge : Edge) (a b : List (List Edge)) → entry_of p f ≡ Some edge.to → edge.from ≡ node → edge.pass ≡ crossing local f
    → Joins (λ e. (e ≡ edge) × Between nodes e) a b → Joins (IsEntering p nodes local node f) a b
entering_joins p nodes local node f edge a b entry from pass joins =
    joins_as (λ e. (e ≡ edge) × Between nodes e) (IsEntering p nodes local node f) a b joins
    (λ e (same, between). record { entry = entry ∙ ap (λ d. Some d.to) (sym same); from = ap (λ d. d.from) same ∙ from; pass = ap (λ d. d.pass) same ∙ pass; between = between })
    (λ e h. (same_edge e edge (h.from ∙ sym from) (some_same (sym h.entry ∙ entry)) (h.pass ∙ sym pass), h.between))

pub leaving_joins : (p : Lowered) (nodes : List ℕ) (local : Bool) (node f : ℕ) (edge : Edge) (a b : List (List Edge)) → exit_of p f ≡ Some edge.from → edge.to ≡ node → edge.pass ≡ crossing local f
    → Joins (λ e. (e ≡ edge) × Between nodes e) a b → Joins (IsLeaving p nodes local node f) a b
leaving_joins p nodes local node f edge a b exit to pass joins =
    joins_as (λ e. (e ≡ edge) × Between nodes e) (IsLeaving p nodes local node f) a b joins
    (λ e (same, between). record { exit = exit ∙ ap (λ d. Some d.from) (sym same); to = ap (λ d. d.to) same ∙ to; pass = ap (λ d. d.pass) same ∙ pass; between = between })
    (λ e h. (same_edge e edge (some_same (sym h.exit ∙ exit)) (h.to ∙ sym to) (h.pass ∙ sym pass), h.between))

pub beside_joins : (nodes : List ℕ) (local : Bool) (call node : ℕ) (functions : List ℕ) (a b : List (List Edge)) → local ≡ true → 0 < length functions
    → let edge : Edge = record { from = call; to = node; pass = Beside call } in Joins (λ e. (e ≡ edge) × Between nodes e) a b → Joins (IsBeside nodes local call node functions) a b
beside_joins nodes local call node functions a b localised some joins =
    let edge : Edge = record { from = call; to = node; pass = Beside call } in
    joins_as (λ e. (e ≡ edge) × Between nodes e) (IsBeside nodes local call node functions) a b joins
    (λ e (same, between). record { localised = localised; some = some; from = ap (λ d. d.from) same; to = ap (λ d. d.to) same; pass = ap (λ d. d.pass) same; between = between })
    (λ e h. (same_edge e edge h.from h.to h.pass, h.between))

pub beginning_joins : (p : Lowered) (nodes : List ℕ) (to : ℕ) (a b : List (List Edge)) → entry_of p p.main ≡ Some to
    → let edge : Edge = record { from = 0; to = to; pass = All } in Joins (λ e. (e ≡ edge) × Between nodes e) a b → Joins (IsBeginning p nodes) a b
beginning_joins p nodes to a b entry joins =
    let edge : Edge = record { from = 0; to = to; pass = All } in
    joins_as (λ e. (e ≡ edge) × Between nodes e) (IsBeginning p nodes) a b joins
    (λ e (same, between). record { entry = entry ∙ ap (λ d. Some d.to) (sym same); from = ap (λ d. d.from) same; pass = ap (λ d. d.pass) same; between = between })
    (λ e h. (same_edge e edge h.from (some_same (sym h.entry ∙ entry)) h.pass, h.between))

pub inside_joins : (nodes : List ℕ) (flow : List (ℕ × ℕ)) (k : ℕ) (from to : ℕ) (a b : List (List Edge)) → k < length flow → get_or flow k (from, to) ≡ (from, to)
    → let edge : Edge = record { from = from; to = to; pass = All } in Joins (λ e. (e ≡ edge) × Between nodes e) a b → Joins (IsInside nodes flow k) a b
inside_joins nodes flow k from to a b low is joins =
    let edge : Edge = record { from = from; to = to; pass = All } in
    joins_as (λ e. (e ≡ edge) × Between nodes e) (IsInside nodes flow k) a b joins
    (λ e (same, between). record { there = subst (λ (d : Edge). get_or flow k (d.from, d.to) ≡ (d.from, d.to)) (sym same) is; pass = ap (λ d. d.pass) same; between = between })
    (λ e h. let is_it : (e.from, e.to) ≡ (from, to) = sym h.there ∙ get_or_default flow k (e.from, e.to) (from, to) low ∙ is in (same_edge e edge (ap (λ x. x.0) is_it) (ap (λ x. x.1) is_it) h.pass, h.between))

pub back_joins : (p : Lowered) (nodes : List ℕ) (calls : Callees) (local : Bool) (call node : ℕ) (functions : List ℕ) (a b : List (List Edge)) → call_of p node ≡ Some call → functions ≡ row calls call
    → Joins (ReturnsFrom p nodes local call node functions) a b → Joins (ComesBack p nodes calls local node) a b
back_joins p nodes calls local call node functions a b is functions_are joins =
    joins_as (ReturnsFrom p nodes local call node functions) (ComesBack p nodes calls local node) a b joins
    (λ e h. (call, is, subst (λ fs. ReturnsFrom p nodes local call node fs e) functions_are h))
    (λ e (other, other_is, h). subst (λ fs. ReturnsFrom p nodes local call node fs e) (sym functions_are) (subst (λ c. ReturnsFrom p nodes local c node (row calls c) e) (some_same (sym other_is ∙ is)) h))

pub crosses_joins : (p : Lowered) (nodes : List ℕ) (calls : Callees) (local : Bool) (node : ℕ) (functions : List ℕ) (a b d : List (List Edge)) → functions ≡ row calls node
    → Joins (λ e. (k : ℕ) × (k < length functions) × IsEntering p nodes local node (get_or functions k 0) e) a b → Joins (ComesBack p nodes calls local node) b d → Joins (Crosses p nodes calls local node) a d
crosses_joins p nodes calls local node functions a b d is first second =
    joins_then (λ e. (k : ℕ) × (k < length (row calls node)) × IsEntering p nodes local node (get_or (row calls node) k 0) e) (ComesBack p nodes calls local node) a b d
    (subst (λ fs. Joins (λ e. (k : ℕ) × (k < length fs) × IsEntering p nodes local node (get_or fs k 0) e) a b) is first) second
