-- How a draft that grows keeps what it has: nodes stay under their numbers, ends stay ends, and what
-- stands for the names of a later draft stands for those of an earlier one.
use Rattle.std.proofs.Common.{◌≡◌, ℕ, zero, suc, Bool, true, false, List, [], ◌∷◌, ◌++◌, length, Some, refl}
use Rattle.std.specs.Prelude.{slice_get}
use Rattle.std.proofs.lemmas.Option.{none-some}
use Rattle.std.proofs.lemmas.List.Elements.{All-nil, All-cons, All-weaker}
use Rattle.sp_tree.specs.declared.fault.Place.{Place}
use Rattle.sp_ir.specs.Commands.{Command, start, entry, exit, skip, assign, copy, init, assume, eval, call, return, library, outside}
use Rattle.sp_ir.specs.Regions.{Region}
use Rattle.sp_ir.specs.Programs.{Object}
use Rattle.sp_ir.specs.Formed.{may_begin}
use Rattle.sp_lower_draft.specs.Context.{Context}
use Rattle.sp_lower_draft.specs.Draft.{Draft, next, with_loose, add}
use Rattle.sp_lower_draft.specs.Calls.{with_site, next_site}
use Rattle.sp_lower_expr_laws.specs.Stands.{Holds}
use Rattle.sp_lower_expr_laws.specs.Grown.{IsEnd, AreEnds, IsReady, is_plain, GivesSite, Grown, same, node, called, made, sited, turned, joined}

-- ---- lists

-- what is in the first list under a number is there in the second
abbrev pub Before : {A : Type 0} → List A → List A → Type 0
Before {A = A} xs ys = (i : ℕ) (x : A) → slice_get xs i ≡ Some x → slice_get ys i ≡ Some x

pub before_all : {A : Type 0} (xs ys : List A) → Before xs (xs ++ ys)
before_all [] ys i x e = absurd (none-some x e)
before_all (z ∷ zs) ys zero x e = e
before_all (z ∷ zs) ys (suc i) x e = before_all zs ys i x e

pub pushed_last : {A : Type 0} (xs : List A) (y : A) → slice_get (xs ++ y ∷ []) (length xs) ≡ Some y
pushed_last [] y = refl
pushed_last (z ∷ zs) y = pushed_last zs y

-- ---- commands

false_true : {P : Type 0} → false ≡ true → P
false_true h = cc

pub plain_begins : (x : Command) → is_plain x ≡ true → may_begin x ≡ true
plain_begins start h = h
plain_begins (entry g) h = refl
plain_begins (exit g) h = h
plain_begins skip h = refl
plain_begins (assign l e) h = refl
plain_begins (copy l m) h = refl
plain_begins (init n vs zs) h = refl
plain_begins (assume a p b) h = refl
plain_begins (eval e) h = refl
plain_begins (call f args) h = h
plain_begins (return n to) h = refl
plain_begins (library which to args site) h = refl
plain_begins (outside to args site) h = refl

pub gives_begins : (x : Command) (n : ℕ) (heap : Bool) → GivesSite x n heap → may_begin x ≡ true
gives_begins (library which to args (Some m)) n heap h = refl
gives_begins (outside to args (Some m)) n heap h = refl
gives_begins x n heap h = absurd h

-- ---- growth

-- a new node is an end
pub new_end : (c : Context) (s : Draft) (x : Command) (at : Place) → may_begin x ≡ true → AreEnds c (add c x at s) (length s.nodes ∷ [])
new_end c s x at b = All-cons (IsEnd (add c x at s).nodes c.function) (length s.nodes) []
    (record { node = record { command = x; place = at; function = Some c.function }; there = pushed_last s.nodes _; function = refl; begins = b })
    (All-nil (IsEnd (add c x at s).nodes c.function))

module _ {c : Context} {os : List Object} {rs : List Region} where
  pub nodes_stay : {s t : Draft} → Grown c os rs s t → Before s.nodes t.nodes
  nodes_stay same i x e = e
  nodes_stay (node {t = t} x at g p f) i n e = before_all t.nodes _ i n (nodes_stay g i n e)
  nodes_stay (called {t = t} callee args to at g p f) i n e = before_all _ _ i n (before_all t.nodes _ i n (nodes_stay g i n e))
  nodes_stay (made u g p) i n e = nodes_stay g i n e
  nodes_stay (sited {t = t} of heap x at g p q f) i n e = before_all t.nodes _ i n (nodes_stay g i n e)
  nodes_stay (turned ends g p) i n e = nodes_stay g i n e
  nodes_stay (joined ends k g p h) i n e = nodes_stay g i n e

  pub end_stays : {s t : Draft} → Grown c os rs s t → (f n : ℕ) → IsEnd s.nodes f n → IsEnd t.nodes f n
  end_stays g f n h = record { node = h.node; there = nodes_stay g n h.node h.there; function = h.function; begins = h.begins }

  pub ends_stay : {s t : Draft} → Grown c os rs s t → (ends : List ℕ) → AreEnds c s ends → AreEnds c t ends
  ends_stay {s = s} {t = t} g ends h = All-weaker (IsEnd s.nodes c.function) (IsEnd t.nodes c.function) (λ n. end_stays g c.function n) ends h

  -- its loose ends are ends again
  pub ready : {s t : Draft} → Grown c os rs s t → IsReady c s → IsReady c t
  ready same h = h
  ready (node {t = t} x at g p f) h = new_end c t x at (plain_begins x p)
  ready (called {t = t} callee args to at g p f) h = new_end c (with_loose [] (add c (call callee args) at t)) (return (next t) to) at refl
  ready (made u g p) h = ready g h
  ready (sited {t = t} of heap x at g p q f) h = new_end c (with_site of heap t) x at (gives_begins x (next_site c t) heap q)
  ready (turned ends g p) h = p h
  ready (joined ends k g p j) h = ready g h

  -- ---- one after another

  pub onward : {s t u : Draft} → Grown c os rs s t → Grown c os rs t u → Grown c os rs s u
  onward g same = g
  onward g (node x at h p f) = node x at (onward g h) p f
  onward g (called callee args to at h p f) = called callee args to at (onward g h) p f
  onward g (made u h p) = made u (onward g h) p
  onward g (sited of heap x at h p q f) = sited of heap x at (onward g h) p q f
  onward g (turned ends h p) = turned ends (onward g h) (λ r. p (ready g r))
  onward g (joined ends k h p j) = joined ends k (onward g h) (λ r. p (ready g r)) j

  -- ---- what stands

  pub back : {s t : Draft} → Grown c os rs s t → Holds c os t → Holds c os s
  back same h = h
  back (node x at g p f) h = back g (record { temporaries = h.temporaries; sites = h.sites })
  back (called callee args to at g p f) h = back g (record { temporaries = h.temporaries; sites = h.sites })
  back (made {t = t} u g p) h = back g (record { temporaries = λ i v e. h.temporaries i v (before_all t.temporaries (u ∷ []) i v e); sites = h.sites })
  back (sited {t = t} of heap x at g p q f) h = back g (record { temporaries = h.temporaries; sites = λ i v e. h.sites i v (before_all t.sites _ i v e) })
  back (turned ends g p) h = back g (record { temporaries = h.temporaries; sites = h.sites })
  back (joined ends k g p j) h = back g (record { temporaries = h.temporaries; sites = h.sites })
