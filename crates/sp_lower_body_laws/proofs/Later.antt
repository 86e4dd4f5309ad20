-- Later drafts, and bodies that go on.
use Rattle.std.proofs.Common.{◌≡◌, ◌⊎◌, inl, inr, ℕ, Bool, true, List, [], ◌∷◌, length, Option, Some, None, slice_get, refl, sym, subst}
use Rattle.std.specs.Prelude.{All}
use Rattle.std.proofs.lemmas.List.Elements.{All-weaker}
use Rattle.sp_tree.specs.declared.fault.Place.{Place}
use Rattle.sp_types.specs.declared.ctype.IntKind.{IntKind}
use Rattle.sp_ir.specs.Commands.{Command, start, entry, exit, skip, assign, copy, init, assume, eval, call, return, library, outside, Node}
use Rattle.sp_ir.specs.Regions.{Region}
use Rattle.sp_ir.specs.Programs.{Object}
use Rattle.sp_lower_draft.specs.Context.{Context}
use Rattle.sp_lower_draft.specs.Draft.{Draft, next, with_loose, join, add}
use Rattle.sp_lower_draft.specs.Calls.{with_site, next_site}
use Rattle.sp_lower_body.specs.Bodies.{Body, with_draft}
use Rattle.sp_lower_expr_laws.specs.Stands.{table, Holds}
use Rattle.sp_lower_expr_laws.specs.Grown.{IsEnd, IsHead, AreEnds, IsReady, is_plain, GivesSite, Grown, same, node, called, made, sited, turned, joined}
use Rattle.sp_lower_expr_laws.specs.Sound.{IsSound}
use Rattle.sp_lower_expr_laws.proofs.Growing.{Before, before_all, ready}
use Rattle.sp_lower_expr_laws.proofs.Branches.{ends_before}
use Rattle.sp_lower_expr_laws.proofs.Sounds.{pushed_cases, sound_grown}
use Rattle.sp_lower_body_laws.specs.Bodies.{is_inner, IsLater, IsGoto, HasDefault, IsSoundBody, Goes}

plain_inner : (x : Command) → is_plain x ≡ true → is_inner x ≡ true
plain_inner start h = h
plain_inner (entry g) h = h
plain_inner (exit g) h = h
plain_inner skip h = refl
plain_inner (assign l e) h = refl
plain_inner (copy l m) h = refl
plain_inner (init n vs zs) h = refl
plain_inner (assume a p b) h = refl
plain_inner (eval e) h = refl
plain_inner (call f args) h = refl
plain_inner (return n to) h = refl
plain_inner (library which to args site) h = refl
plain_inner (outside to args site) h = refl

gives_inner : (x : Command) (n : ℕ) (heap : Bool) → GivesSite x n heap → is_inner x ≡ true
gives_inner (library which to args (Some m)) n heap h = refl
gives_inner (outside to args (Some m)) n heap h = refl
gives_inner x n heap h = absurd h

module _ (c : Context) (os : List Object) where
  pub later_same : (s : Draft) → IsLater c os s s
  later_same s = record { nodes = λ n x e. e; added = λ n x e. inl e; sites = λ n x e. e; holds = λ h. h }

  pub later_on : (s t u : Draft) → IsLater c os s t → IsLater c os t u → IsLater c os s u
  later_on s t u g h = record {
    nodes = λ n x e. h.nodes n x (g.nodes n x e);
    added = λ n x e. by n x (h.added n x e);
    sites = λ n x e. h.sites n x (g.sites n x e);
    holds = λ k. g.holds (h.holds k);
  }
    where
      by : (n : ℕ) (x : Node) → (slice_get t.nodes n ≡ Some x) ⊎ ((is_inner x.command ≡ true) × (x.function ≡ Some c.function))
          → (slice_get s.nodes n ≡ Some x) ⊎ ((is_inner x.command ≡ true) × (x.function ≡ Some c.function))
      by n x (inl e) = g.added n x e
      by n x (inr e) = inr e

  -- other loose ends
  pub later_turned : (s : Draft) (ends : List ℕ) → IsLater c os s (with_loose ends s)
  later_turned s ends = record { nodes = λ n x e. e; added = λ n x e. inl e; sites = λ n x e. e; holds = λ h. record { temporaries = h.temporaries; sites = h.sites } }

  pub later_joined : (s : Draft) (n : ℕ) (ends : List ℕ) → IsLater c os s (join n ends s)
  later_joined s n ends = record { nodes = λ n x e. e; added = λ n x e. inl e; sites = λ n x e. e; holds = λ h. record { temporaries = h.temporaries; sites = h.sites } }

  -- one node more
  pub later_added : (s : Draft) (x : Command) (at : Place) → is_inner x ≡ true → IsLater c os s (add c x at s)
  later_added s x at i = record {
    nodes = before_all s.nodes (new ∷ []);
    added = λ n y e. by n y (pushed_cases s.nodes new n y e);
    sites = λ n y e. e;
    holds = λ h. record { temporaries = h.temporaries; sites = h.sites };
  }
    where
      new : Node
      new = record { command = x; place = at; function = Some c.function }

      by : (n : ℕ) (y : Node) → (slice_get s.nodes n ≡ Some y) ⊎ ((n ≡ length s.nodes) × (y ≡ new)) → (slice_get s.nodes n ≡ Some y) ⊎ ((is_inner y.command ≡ true) × (y.function ≡ Some c.function))
      by n y (inl e) = inl e
      by n y (inr e) = inr (subst (λ z. (is_inner z.command ≡ true) × (z.function ≡ Some c.function)) (sym e.1) (i, refl))

  pub later_grown : (rs : List Region) {s t : Draft} → Grown c os rs s t → IsLater c os s t
  later_grown rs (same {s = s}) = later_same s
  later_grown rs {s = s} (node {t = t} x at g p f) = later_on s t (add c x at t) (later_grown rs g) (later_added t x at (plain_inner x p))
  later_grown rs {s = s} (called {t = t} callee args to at g p f) =
      let one : Draft = add c (call callee args) at t in
      later_on s t _ (later_grown rs g) (later_on t one _ (later_added t (call callee args) at refl)
      (later_on one (with_loose [] one) _ (later_turned one []) (later_added (with_loose [] one) (return (next t) to) at refl)))
  later_grown rs {s = s} (made {t = t} u g p) =
      later_on s t _ (later_grown rs g) (record { nodes = λ n x e. e; added = λ n x e. inl e; sites = λ n x e. e; holds = λ h. record { temporaries = λ i v e. h.temporaries i v (before_all t.temporaries (u ∷ []) i v e); sites = h.sites } })
  later_grown rs {s = s} (sited {t = t} of heap x at g p q f) =
      later_on s t _ (later_grown rs g) (later_on t (with_site of heap t) _
      (record { nodes = λ n x e. e; added = λ n x e. inl e; sites = λ i v e. before_all t.sites _ i v e; holds = λ h. record { temporaries = h.temporaries; sites = λ i v e. h.sites i v (before_all t.sites _ i v e) } })
      (later_added (with_site of heap t) x at (gives_inner x (next_site c t) heap q)))
  later_grown rs {s = s} (turned {t = t} ends g p) = later_on s t _ (later_grown rs g) (later_turned t ends)
  later_grown rs {s = s} (joined {t = t} ends n g p j) = later_on s t _ (later_grown rs g) (later_joined t n ends)

-- ---- bodies

pub heads_before : (xs ys : List Node) (f : ℕ) (ls : List (ℕ × ℕ)) → Before xs ys → All (λ l. IsHead xs f l.1) ls → All (λ l. IsHead ys f l.1) ls
heads_before xs ys f ls b h = All-weaker (λ l. IsHead xs f l.1) (λ l. IsHead ys f l.1) (λ l e. record { node = e.node; there = b l.1 e.node e.there; function = e.function; ends = e.ends }) ls h

pub gotos_before : (xs ys : List Node) (f : ℕ) (told : List ℕ) (gs : List (ℕ × ℕ)) → Before xs ys → All (IsGoto xs f told) gs → All (IsGoto ys f told) gs
gotos_before xs ys f told gs b h = All-weaker (IsGoto xs f told) (IsGoto ys f told)
    (λ g e. record { end = record { node = e.end.node; there = b g.0 e.end.node e.end.there; function = e.end.function; begins = e.end.begins }; index = e.index; there = e.there }) gs h

module _ (c : Context) (os : List Object) (rs : List Region) (told : List ℕ) where
  pub goes_nowhere : (k : Option IntKind) (b : Body) → Goes c os rs told k b b
  goes_nowhere k b = record { later = later_same c os b.draft; sound = λ h s. s }

  pub goes_on : (k : Option IntKind) (a b d : Body) → Goes c os rs told k a b → Goes c os rs told k b d → Goes c os rs told k a d
  goes_on k a b d g h = record { later = later_on c os a.draft b.draft d.draft g.later h.later; sound = λ w s. h.sound w (g.sound (h.later.holds w) s) }

  pub default_before : (k : Option IntKind) (a b : Body) → Before a.draft.nodes b.draft.nodes → a.otherwise ≡ b.otherwise → HasDefault c k a → HasDefault c k b
  default_before None a b s e h = tt
  default_before (Some j) a b s e h = subst (λ n. IsEnd b.draft.nodes c.function n) e (record { node = h.node; there = s a.otherwise h.node h.there; function = h.function; begins = h.begins })

  -- the lists of a body are as they were in a later draft that is sound
  pub body_later : (k : Option IntKind) (b : Body) (t : Draft) → IsLater c os b.draft t → IsSoundBody c os rs told k b → IsSound (table c os) rs c.first_site t → IsReady c t
      → IsSoundBody c os rs told k (with_draft t b)
  body_later k b t g h s r = record {
    draft = s;
    ready = r;
    breaks = ends_before b.draft.nodes t.nodes c.function b.breaks g.nodes h.breaks;
    continues = ends_before b.draft.nodes t.nodes c.function b.continues g.nodes h.continues;
    returns = ends_before b.draft.nodes t.nodes c.function b.returns g.nodes h.returns;
    cases = ends_before b.draft.nodes t.nodes c.function b.cases g.nodes h.cases;
    otherwise = default_before k b (with_draft t b) g.nodes refl h.otherwise;
    gotos = gotos_before b.draft.nodes t.nodes c.function told b.gotos g.nodes h.gotos;
    labels = heads_before b.draft.nodes t.nodes c.function b.labels g.nodes h.labels;
  }

  -- other loose ends
  pub body_turned : (k : Option IntKind) (b : Body) (ends : List ℕ) → AreEnds c b.draft ends → IsSoundBody c os rs told k b → IsSoundBody c os rs told k (with_draft (with_loose ends b.draft) b)
  body_turned k b ends e h = body_later k b (with_loose ends b.draft) (later_turned c os b.draft ends) h
      (record { nodes = h.draft.nodes; edges = h.draft.edges; calls = h.draft.calls; returns = h.draft.returns; sites = h.draft.sites; elements = h.draft.elements; temporaries = h.draft.temporaries }) e

  -- a draft that has grown
  pub body_grown : (k : Option IntKind) (b : Body) (t : Draft) → Grown c os rs b.draft t → Holds c os t → IsSoundBody c os rs told k b → IsSoundBody c os rs told k (with_draft t b)
  body_grown k b t g w h = body_later k b t (later_grown c os rs g) h (sound_grown c os rs g h.ready w h.draft) (ready g h.ready)

  pub goes_grown : (k : Option IntKind) (b : Body) (t : Draft) → Grown c os rs b.draft t → Goes c os rs told k b (with_draft t b)
  goes_grown k b t g = record { later = later_grown c os rs g; sound = λ w h. body_grown k b t g w h }
