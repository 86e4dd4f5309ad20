-- A draft that grows by what is formed stays sound.
use Rattle.std.proofs.Common.{◌≡◌, ◌⊎◌, inl, inr, ℕ, zero, suc, ◌+◌, Bool, true, false, List, [], ◌∷◌, ◌++◌, length, Option, Some, None, slice_get, refl, ap, sym, ◌∙◌, subst, arith}
use Rattle.std.specs.Prelude.{All}
use Rattle.std.proofs.lemmas.Option.{none-some}
use Rattle.std.proofs.lemmas.List.Elements.{All-nil, All-append, All-map, All-weaker}
use Rattle.sp_tree.specs.declared.fault.Place.{Place}
use Rattle.sp_types.specs.Types.{CType}
use Rattle.sp_types.specs.Structs.{IsFormed}
use Rattle.sp_ir.specs.Commands.{Expression, Lvalue, Command, start, entry, exit, skip, assign, copy, init, assume, eval, call, return, library, outside, Node}
use Rattle.sp_ir.specs.Regions.{Region}
use Rattle.sp_ir.specs.Programs.{Object}
use Rattle.sp_ir.specs.Formed.{IsCommand, IsEdge, Returns, may_end}
use Rattle.sp_lower_draft.specs.Context.{Context}
use Rattle.sp_lower_draft.specs.Draft.{Draft, Site, edges_to, next, with_loose, add}
use Rattle.sp_lower_draft.specs.Calls.{with_site, next_site}
use Rattle.sp_lower_expr_laws.specs.Stands.{table, Holds}
use Rattle.sp_lower_expr_laws.specs.Grown.{IsEnd, IsReady, is_plain, GivesSite, IsMaybeFormed, IsNext, Grown, same, node, called, made, sited, turned, joined}
use Rattle.sp_lower_expr_laws.specs.Sound.{IsSiteNode, IsFormedSite, IsSound}
use Rattle.sp_lower_expr_laws.proofs.Growing.{Before, before_all, pushed_last, ready}

-- ---- lists

some_is : {A : Type 0} (x y : A) → Some x ≡ Some y → x ≡ y
some_is x y e = cc

-- what is there is the last, or was there before
pub pushed_cases : {A : Type 0} (xs : List A) (y : A) (n : ℕ) (x : A) → slice_get (xs ++ y ∷ []) n ≡ Some x → (slice_get xs n ≡ Some x) ⊎ ((n ≡ length xs) × (x ≡ y))
pushed_cases [] y zero x e = inr (refl, sym (some_is y x e))
pushed_cases [] y (suc n) x e = absurd (none-some x e)
pushed_cases (z ∷ zs) y zero x e = inl e
pushed_cases (z ∷ zs) y (suc n) x e = by (pushed_cases zs y n x e)
  where
    by : (slice_get zs n ≡ Some x) ⊎ ((n ≡ length zs) × (x ≡ y)) → (slice_get zs n ≡ Some x) ⊎ ((suc n ≡ suc (length zs)) × (x ≡ y))
    by (inl h) = inl h
    by (inr h) = inr (ap suc h.0, h.1)

pub pushed_length : {A : Type 0} (xs : List A) (y : A) → length (xs ++ y ∷ []) ≡ length xs + 1
pushed_length [] y = omega arith
pushed_length (z ∷ zs) y = let w : length (zs ++ y ∷ []) ≡ length zs + 1 = pushed_length zs y in omega arith

-- ---- what stays where nodes are added

pub edge_stays : (xs ys : List Node) → Before xs ys → (m n : ℕ) → IsEdge xs m n → IsEdge ys m n
edge_stays xs ys b m n h = record { first = h.first; second = h.second; begins = b m h.first h.begins; ends = b n h.second h.ends; one_function = h.one_function; leaves = h.leaves; enters = h.enters }

pub return_stays : (xs ys : List Node) → Before xs ys → (c n : ℕ) → Returns xs c n → Returns ys c n
return_stays xs ys b c n h = record {
  caller = h.caller;
  callee = h.callee;
  args = h.args;
  calls = b c h.caller h.calls;
  is_call = h.is_call;
  back = h.back;
  to = h.to;
  returns = b n h.back h.returns;
  is_return = h.is_return;
  one_function = h.one_function;
}

site_stays : (xs ys : List Node) → Before xs ys → (n : ℕ) (x : Site) → IsSiteNode xs n x → IsSiteNode ys n x
site_stays xs ys b n x h = record { node = h.node; there = b x.node h.node h.there; names = h.names }

-- ---- commands

plain_ends : (x : Command) → is_plain x ≡ true → may_end x ≡ true
plain_ends start h = h
plain_ends (entry g) h = h
plain_ends (exit g) h = refl
plain_ends skip h = refl
plain_ends (assign l e) h = refl
plain_ends (copy l m) h = refl
plain_ends (init n vs zs) h = refl
plain_ends (assume a p b) h = refl
plain_ends (eval e) h = refl
plain_ends (call f args) h = refl
plain_ends (return n to) h = h
plain_ends (library which to args site) h = refl
plain_ends (outside to args site) h = refl

abbrev is_call : Command → Bool
is_call (call f args) = true
is_call x = false

abbrev is_return : Command → Bool
is_return (return n to) = true
is_return x = false

plain_calls : (x : Command) → is_plain x ≡ true → is_call x ≡ false
plain_calls (call f args) h = sym h
plain_calls start h = refl
plain_calls (entry g) h = refl
plain_calls (exit g) h = refl
plain_calls skip h = refl
plain_calls (assign l e) h = refl
plain_calls (copy l m) h = refl
plain_calls (init n vs zs) h = refl
plain_calls (assume a p b) h = refl
plain_calls (eval e) h = refl
plain_calls (return n to) h = refl
plain_calls (library which to args site) h = refl
plain_calls (outside to args site) h = refl

plain_returns : (x : Command) → is_plain x ≡ true → is_return x ≡ false
plain_returns (return n to) h = sym h
plain_returns start h = refl
plain_returns (entry g) h = refl
plain_returns (exit g) h = refl
plain_returns skip h = refl
plain_returns (assign l e) h = refl
plain_returns (copy l m) h = refl
plain_returns (init n vs zs) h = refl
plain_returns (assume a p b) h = refl
plain_returns (eval e) h = refl
plain_returns (call f args) h = refl
plain_returns (library which to args site) h = refl
plain_returns (outside to args site) h = refl

gives_plain : (x : Command) (n : ℕ) (heap : Bool) → GivesSite x n heap → is_plain x ≡ true
gives_plain (library which to args (Some m)) n heap h = refl
gives_plain (outside to args (Some m)) n heap h = refl
gives_plain x n heap h = absurd h

true_false : {P : Type 0} → true ≡ false → P
true_false h = cc

module _ (c : Context) (os : List Object) (rs : List Region) where
  abbrev IsSoundHere : Draft → Type 0
  IsSoundHere s = IsSound (table c os) rs c.first_site s

  -- edges from loose ends to a node that is there
  edges_good : (nodes : List Node) (n : ℕ) (x : Node) (ends : List ℕ) → slice_get nodes n ≡ Some x → x.function ≡ Some c.function → may_end x.command ≡ true → All (IsEnd nodes c.function) ends
      → All (λ e. IsEdge nodes e.0 e.1) (edges_to n ends)
  edges_good nodes n x ends there own enters h =
      All-map (λ e. IsEdge nodes e.0 e.1) (λ m. (m, n)) ends
      (All-weaker (IsEnd nodes c.function) (λ m. IsEdge nodes m n)
      (λ m e. record { first = e.node; second = x; begins = e.there; ends = there; one_function = e.function ∙ sym own; leaves = e.begins; enters = enters }) ends h)

  edges_stay : (xs ys : List Node) → Before xs ys → (es : List (ℕ × ℕ)) → All (λ e. IsEdge xs e.0 e.1) es → All (λ e. IsEdge ys e.0 e.1) es
  edges_stay xs ys b es h = All-weaker (λ e. IsEdge xs e.0 e.1) (λ e. IsEdge ys e.0 e.1) (λ e k. edge_stays xs ys b e.0 e.1 k) es h

  -- a node that is neither a call nor a return, and its edges
  pub sound_pushed : (s : Draft) (x : Command) (at : Place) → IsSoundHere s → IsNext c os rs s x → is_call x ≡ false → is_return x ≡ false
      → All (λ e. IsEdge (add c x at s).nodes e.0 e.1) (edges_to (length s.nodes) s.loose) → IsSoundHere (add c x at s)
  sound_pushed s x at h f no_call no_return more =
      record {
        nodes = λ n y e. nodes n y (pushed_cases s.nodes new n y e);
        edges = All-append (λ e. IsEdge later e.0 e.1) s.edges (edges_to (length s.nodes) s.loose) (edges_stay s.nodes later b s.edges h.edges) more;
        calls = λ n y callee args e k. calls n y callee args k (pushed_cases s.nodes new n y e);
        returns = λ n k y to e q. returns n k y to q (pushed_cases s.nodes new n y e);
        sites = λ i y e. site_stays s.nodes later b (c.first_site + i) y (h.sites i y e);
        elements = h.elements;
        temporaries = h.temporaries;
      }
    where
      new : Node
      new = record { command = x; place = at; function = Some c.function }

      later : List Node
      later = s.nodes ++ new ∷ []

      b : Before s.nodes later
      b = before_all s.nodes (new ∷ [])

      nodes : (n : ℕ) (y : Node) → (slice_get s.nodes n ≡ Some y) ⊎ ((n ≡ length s.nodes) × (y ≡ new)) → IsCommand (table c os) rs n y.function y.command
      nodes n y (inl e) = h.nodes n y e
      nodes n y (inr e) = subst (λ m. IsCommand (table c os) rs m y.function y.command) (sym e.0) (subst (λ z. IsCommand (table c os) rs (length s.nodes) z.function z.command) (sym e.1) f)

      calls : (n : ℕ) (y : Node) (callee : Expression) (args : List Expression) → y.command ≡ call callee args → (slice_get s.nodes n ≡ Some y) ⊎ ((n ≡ length s.nodes) × (y ≡ new)) → Returns later n (n + 1)
      calls n y callee args k (inl e) = return_stays s.nodes later b n (n + 1) (h.calls n y callee args e k)
      calls n y callee args k (inr e) = true_false (sym (ap is_call k) ∙ ap (λ z. is_call z.command) e.1 ∙ no_call)

      returns : (n k : ℕ) (y : Node) (to : Option Lvalue) → y.command ≡ return k to → (slice_get s.nodes n ≡ Some y) ⊎ ((n ≡ length s.nodes) × (y ≡ new)) → Returns later k n × (n ≡ k + 1)
      returns n k y to q (inl e) = let w : Returns s.nodes k n × (n ≡ k + 1) = h.returns n k y to e q in (return_stays s.nodes later b k n w.0, w.1)
      returns n k y to q (inr e) = true_false (sym (ap is_return q) ∙ ap (λ z. is_return z.command) e.1 ∙ no_return)

  -- with an edge from each loose end
  pub sound_added : (s : Draft) (x : Command) (at : Place) → IsSoundHere s → IsReady c s → IsNext c os rs s x → may_end x ≡ true → is_call x ≡ false → is_return x ≡ false → IsSoundHere (add c x at s)
  sound_added s x at h r f enters no_call no_return =
      let new : Node = record { command = x; place = at; function = Some c.function } in
      let later : List Node = s.nodes ++ new ∷ [] in
      sound_pushed s x at h f no_call no_return
      (edges_good later (length s.nodes) new s.loose (pushed_last s.nodes new) refl enters (All-weaker (IsEnd s.nodes c.function) (IsEnd later c.function)
      (λ n e. record { node = e.node; there = before_all s.nodes (new ∷ []) n e.node e.there; function = e.function; begins = e.begins }) s.loose r))

  -- ---- a call with its return

  module _ (s : Draft) (callee : Expression) (args : List Expression) (to : Option Lvalue) (at : Place) where
    abbrev caller : Node
    caller = record { command = call callee args; place = at; function = Some c.function }

    abbrev returner : Node
    returner = record { command = return (next s) to; place = at; function = Some c.function }

    abbrev first : List Node
    first = s.nodes ++ caller ∷ []

    abbrev second : List Node
    second = first ++ returner ∷ []

    counted : length first ≡ length s.nodes + 1
    counted = pushed_length s.nodes caller

    onto : Before s.nodes second
    onto = λ i x e. before_all first (returner ∷ []) i x (before_all s.nodes (caller ∷ []) i x e)

    there : slice_get second (length s.nodes) ≡ Some caller
    there = before_all first (returner ∷ []) (length s.nodes) caller (pushed_last s.nodes caller)

    paired : Returns second (length s.nodes) (length s.nodes + 1)
    paired = record {
      caller = caller;
      callee = callee;
      args = args;
      calls = there;
      is_call = refl;
      back = returner;
      to = to;
      returns = subst (λ n. slice_get second n ≡ Some returner) counted (pushed_last first returner);
      is_return = refl;
      one_function = refl;
    }

    abbrev Old : ℕ → Node → Type 0
    Old n y = (slice_get s.nodes n ≡ Some y) ⊎ ((n ≡ length s.nodes) × (y ≡ caller))

    abbrev New : ℕ → Node → Type 0
    New n y = (n ≡ length first) × (y ≡ returner)

    split : (n : ℕ) (y : Node) → slice_get second n ≡ Some y → Old n y ⊎ New n y
    split n y e = by (pushed_cases first returner n y e)
      where
        by : (slice_get first n ≡ Some y) ⊎ New n y → Old n y ⊎ New n y
        by (inl h) = inl (pushed_cases s.nodes caller n y h)
        by (inr h) = inr h

    abbrev call_of : Command → ℕ
    call_of (return n l) = n
    call_of x = 0

    sound_called : IsSoundHere s → IsReady c s → IsNext c os rs s (call callee args) → IsNext c os rs s (return (next s) to)
        → IsSoundHere (add c (return (next s) to) at (with_loose [] (add c (call callee args) at s)))
    sound_called h r f g = record {
      nodes = λ n y e. nodes n y (split n y e);
      edges = All-append (λ e. IsEdge second e.0 e.1) (s.edges ++ edges_to (length s.nodes) s.loose) []
          (All-append (λ e. IsEdge second e.0 e.1) s.edges (edges_to (length s.nodes) s.loose) (edges_stay s.nodes second onto s.edges h.edges)
          (edges_good second (length s.nodes) caller s.loose there refl refl (All-weaker (IsEnd s.nodes c.function) (IsEnd second c.function)
          (λ n e. record { node = e.node; there = onto n e.node e.there; function = e.function; begins = e.begins }) s.loose r)))
          (All-nil (λ e. IsEdge second e.0 e.1));
      calls = λ n y f bs e k. calls n y f bs k (split n y e);
      returns = λ n k y l e q. returns n k y l q (split n y e);
      sites = λ i y e. site_stays s.nodes second onto (c.first_site + i) y (h.sites i y e);
      elements = h.elements;
      temporaries = h.temporaries;
    }
      where
        nodes : (n : ℕ) (y : Node) → Old n y ⊎ New n y → IsCommand (table c os) rs n y.function y.command
        nodes n y (inl (inl e)) = h.nodes n y e
        nodes n y (inl (inr e)) = subst (λ m. IsCommand (table c os) rs m y.function y.command) (sym e.0) (subst (λ z. IsCommand (table c os) rs (length s.nodes) z.function z.command) (sym e.1) f)
        nodes n y (inr e) = subst (λ z. IsCommand (table c os) rs n z.function z.command) (sym e.1) g

        calls : (n : ℕ) (y : Node) (f : Expression) (bs : List Expression) → y.command ≡ call f bs → Old n y ⊎ New n y → Returns second n (n + 1)
        calls n y f bs k (inl (inl e)) = return_stays s.nodes second onto n (n + 1) (h.calls n y f bs e k)
        calls n y f bs k (inl (inr e)) = subst (λ m. Returns second m (m + 1)) (sym e.0) paired
        calls n y f bs k (inr e) = true_false (sym (ap is_call k) ∙ ap (λ z. is_call z.command) e.1)

        returns : (n k : ℕ) (y : Node) (l : Option Lvalue) → y.command ≡ return k l → Old n y ⊎ New n y → Returns second k n × (n ≡ k + 1)
        returns n k y l q (inl (inl e)) = let w : Returns s.nodes k n × (n ≡ k + 1) = h.returns n k y l e q in (return_stays s.nodes second onto k n w.0, w.1)
        returns n k y l q (inl (inr e)) = true_false (sym (ap is_return q) ∙ ap (λ z. is_return z.command) e.1)
        returns n k y l q (inr e) =
            let same : k ≡ length s.nodes = sym (ap call_of q) ∙ ap (λ z. call_of z.command) e.1 in
            let number : n ≡ length s.nodes + 1 = e.0 ∙ counted in
            (subst (λ m. Returns second k m) (sym number) (subst (λ m. Returns second m (length s.nodes + 1)) (sym same) paired), number ∙ ap (λ m. m + 1) (sym same))

  -- ---- a site with its node

  sound_sited : (s : Draft) (of : Option CType) (heap : Bool) (x : Command) (at : Place) → IsSoundHere s → IsReady c s → IsNext c os rs s x → GivesSite x (next_site c s) heap → IsMaybeFormed c of
      → IsSoundHere (add c x at (with_site of heap s))
  sound_sited s of heap x at h r f g typed = record {
    nodes = k.nodes;
    edges = k.edges;
    calls = k.calls;
    returns = k.returns;
    temporaries = k.temporaries;
    sites = λ i y e. sites i y (pushed_cases s.sites new i y e);
    elements = λ i y e. elements i y (pushed_cases s.sites new i y e);
  }
    where
      new : Site
      new = record { node = length s.nodes; of = of; heap = heap }

      added : Node
      added = record { command = x; place = at; function = Some c.function }

      k : IsSoundHere (add c x at s)
      k = let p : is_plain x ≡ true = gives_plain x (next_site c s) heap g in sound_added s x at h r f (plain_ends x p) (plain_calls x p) (plain_returns x p)

      given : (of : Option CType) → IsMaybeFormed c of → IsFormedSite c.structs of
      given None h = tt
      given (Some t) h = h

      elements : (i : ℕ) (y : Site) → (slice_get s.sites i ≡ Some y) ⊎ ((i ≡ length s.sites) × (y ≡ new)) → IsFormedSite c.structs y.of
      elements i y (inl e) = h.elements i y e
      elements i y (inr e) = subst (λ z. IsFormedSite c.structs z.of) (sym e.1) (given of typed)

      sites : (i : ℕ) (y : Site) → (slice_get s.sites i ≡ Some y) ⊎ ((i ≡ length s.sites) × (y ≡ new)) → IsSiteNode (s.nodes ++ added ∷ []) (c.first_site + i) y
      sites i y (inl e) = site_stays s.nodes (s.nodes ++ added ∷ []) (before_all s.nodes (added ∷ [])) (c.first_site + i) y (h.sites i y e)
      sites i y (inr e) =
          subst (λ j. IsSiteNode (s.nodes ++ added ∷ []) (c.first_site + j) y) (sym e.0)
          (subst (λ z. IsSiteNode (s.nodes ++ added ∷ []) (c.first_site + length s.sites) z) (sym e.1)
          (record { node = added; there = pushed_last s.nodes added; names = g }))

  -- ---- growth

  pub sound_grown : {s t : Draft} → Grown c os rs s t → IsReady c s → Holds c os t → IsSoundHere s → IsSoundHere t
  sound_grown same r k h = h
  sound_grown (node {t = t} x at g p f) r k h =
      let w : Holds c os t = record { temporaries = k.temporaries; sites = k.sites } in
      sound_added t x at (sound_grown g r w h) (ready g r) (f w) (plain_ends x p) (plain_calls x p) (plain_returns x p)
  sound_grown (called {t = t} callee args to at g p f) r k h =
      let w : Holds c os t = record { temporaries = k.temporaries; sites = k.sites } in
      sound_called t callee args to at (sound_grown g r w h) (ready g r) (p w) (f w)
  sound_grown (made {t = t} u g p) r k h =
      let w : Holds c os t = record { temporaries = λ i v e. k.temporaries i v (before_all t.temporaries (u ∷ []) i v e); sites = k.sites } in
      let q : IsSoundHere t = sound_grown g r w h in
      record { nodes = q.nodes; edges = q.edges; calls = q.calls; returns = q.returns; sites = q.sites; elements = q.elements; temporaries = λ i v e. formed t u p q.temporaries i v (pushed_cases t.temporaries u i v e) }
    where
      formed : (t : Draft) (u : CType) → IsFormed c.structs u → ((i : ℕ) (v : CType) → slice_get t.temporaries i ≡ Some v → IsFormed c.structs v) → (i : ℕ) (v : CType)
          → (slice_get t.temporaries i ≡ Some v) ⊎ ((i ≡ length t.temporaries) × (v ≡ u)) → IsFormed c.structs v
      formed t u p q i v (inl e) = q i v e
      formed t u p q i v (inr e) = subst (λ z. IsFormed c.structs z) (sym e.1) p
  sound_grown (sited {t = t} of heap x at g p q f) r k h =
      let z : Holds c os (with_site of heap t) = record { temporaries = k.temporaries; sites = k.sites } in
      let w : Holds c os t = record { temporaries = k.temporaries; sites = λ i v e. k.sites i v (before_all t.sites _ i v e) } in
      sound_sited t of heap x at (sound_grown g r w h) (ready g r) (f z) q p
  sound_grown (turned {t = t} ends g p) r k h =
      let w : Holds c os t = record { temporaries = k.temporaries; sites = k.sites } in
      let q : IsSoundHere t = sound_grown g r w h in
      record { nodes = q.nodes; edges = q.edges; calls = q.calls; returns = q.returns; sites = q.sites; elements = q.elements; temporaries = q.temporaries }
  sound_grown (joined {t = t} ends n g p j) r k h =
      let w : Holds c os t = record { temporaries = k.temporaries; sites = k.sites } in
      let q : IsSoundHere t = sound_grown g r w h in
      record {
        nodes = q.nodes;
        calls = q.calls;
        returns = q.returns;
        sites = q.sites;
        elements = q.elements;
        temporaries = q.temporaries;
        edges = All-append (λ e. IsEdge t.nodes e.0 e.1) t.edges (edges_to n ends) q.edges (edges_good t.nodes n j.node ends j.there j.function j.ends (p r));
      }
