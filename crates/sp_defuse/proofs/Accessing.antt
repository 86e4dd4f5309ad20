-- What is found along calls backwards is what functions access.
use Rattle.std.proofs.Common.{◌≡◌, ◌⊎◌, ◌↔◌, inl, inr, ℕ, zero, suc, ◌<◌, Bool, true, ◌&&◌, ◌||◌, List, [], ◌∷◌, length, Option, Some, None, refl, sym, ◌∙◌, subst, arith}
use Rattle.std.specs.Prelude.{slice_get}
use Rattle.sp_ir.specs.Commands.{Node}
use Rattle.sp_ir.specs.Programs.{Lowered}
use Rattle.sp_base_sets.specs.Sets.{has}
use Rattle.sp_base_sets.specs.Reached.{row, Reached, start, onward as further}
use Rattle.sp_graph.specs.Accessed.{AccessSets, accesses}
use Rattle.sp_graph.specs.Calls.{Callees, CallsTo, Leads, direct, onward, IsReached, function_of, function_in}
use Rattle.sp_graph.specs.Supergraph.{InGraph, InFunction}
use Rattle.sp_effect_scene.specs.Analysed.{Analysed}
use Rattle.sp_transfer.specs.Effects.{defined_at, used_at}
use Rattle.sp_transfer.specs.Accesses.{Accesses}
use Rattle.sp_defuse.specs.Accessed.{is_of, AreAccessed}
use Rattle.sp_defuse.proofs.Adding.{first-true, second-true, both-true, any-found, found-any, function-is, of-function}

-- ---- calls

module _ (p : Lowered) (calls : Callees) where
  before : {f mid : ℕ} → CallsTo p calls f mid → (to : ℕ) → Leads p calls mid to → Leads p calls f to
  before c to (direct d) = onward (direct c) d
  before c to (onward {mid = m} r d) = onward (before c m r) d

  after : {f mid : ℕ} → Leads p calls f mid → (to : ℕ) → Leads p calls mid to → Leads p calls f to
  after r to (direct d) = onward r d
  after r to (onward {mid = m} s d) = onward (after r m s) d

  reached-then : (f g : ℕ) → IsReached p calls f → Leads p calls f g → IsReached p calls g
  reached-then f g (inl e) leads = inr (subst (λ m. Leads p calls m g) e leads)
  reached-then f g (inr r) leads = inr (after r g leads)

there-low : {A : Type 0} (xs : List A) (n : ℕ) (x : A) → slice_get xs n ≡ Some x → n < length xs
there-low [] n x h = absurd (none-some h)
  where
    none-some : None ≡ Some x → ⊥
    none-some e = cc
there-low (y ∷ xs) zero x h = omega arith
there-low (y ∷ xs) (suc n) x h = omega (arith, there-low xs n x h)

node-low : (p : Lowered) (n f : ℕ) → function_of p n ≡ Some f → n < length p.nodes
node-low p n f h = by (slice_get p.nodes n) refl h
  where
    none-some : None ≡ Some f → ⊥
    none-some e = cc

    by : (o : Option Node) → slice_get p.nodes n ≡ o → function_in o ≡ Some f → n < length p.nodes
    by None e g = absurd (none-some g)
    by (Some node) e g = there-low p.nodes n node e

module _ (a : Analysed) (sharp : Bool) (ns : List ℕ) (accessed : AccessSets) (exact : (n : ℕ) → (has n ns ≡ true) ↔ InGraph a.program a.told.calls n) (found : AreAccessed a sharp ns accessed) (l : ℕ) where
  -- ---- what is found is accessed

  accessed-by : (f : ℕ) → Reached found.callers (row found.owners l) f → Accesses a sharp f l
  accessed-by f (start h) =
      let one = any-found (λ n. (defined_at a sharp n l || used_at a n l) && is_of a.program f n) ns (sym (found.touched l f) ∙ h) in
      record {
        node = one.0;
        owner = f;
        inside = function-is a.program f one.0 (second-true (defined_at a sharp one.0 l || used_at a one.0 l) (is_of a.program f one.0) one.2);
        led_to = inl refl;
        touches = first-true (defined_at a sharp one.0 l || used_at a one.0 l) (is_of a.program f one.0) one.2;
      }
  accessed-by f (further {mid} r h) =
      let one = any-found (λ n. has mid (row a.told.calls n) && is_of a.program f n) ns (sym (found.called mid f) ∙ h) in
      let call : CallsTo a.program a.told.calls f mid = record {
        node = one.0;
        inside = function-is a.program f one.0 (second-true (has mid (row a.told.calls one.0)) (is_of a.program f one.0) one.2);
        calls_it = first-true (has mid (row a.told.calls one.0)) (is_of a.program f one.0) one.2;
      } in
      let inner = accessed-by mid r in
      record { node = inner.node; owner = inner.owner; inside = inner.inside; led_to = inr (led call inner.owner inner.led_to); touches = inner.touches }
    where
      led : CallsTo a.program a.told.calls f mid → (owner : ℕ) → (owner ≡ mid) ⊎ Leads a.program a.told.calls mid owner → Leads a.program a.told.calls f owner
      led call owner (inl e) = direct (subst (λ g. CallsTo a.program a.told.calls f g) (sym e) call)
      led call owner (inr leads) = before a.program a.told.calls call owner leads

  -- ---- and what is accessed is found

  listed : (n f : ℕ) → function_of a.program n ≡ Some f → IsReached a.program a.told.calls f → has n ns ≡ true
  listed n f inside reached = (exact n).1 (node-low a.program n f inside, subst (InFunction a.program a.told.calls) (sym inside) reached)

  back : (f g : ℕ) → IsReached a.program a.told.calls f → CallsTo a.program a.told.calls f g → Reached found.callers (row found.owners l) g → Reached found.callers (row found.owners l) f
  back f g reached call r = further r (found.called g f ∙ found-any (λ n. has g (row a.told.calls n) && is_of a.program f n) ns call.node (listed call.node f call.inside reached)
      (both-true (has g (row a.told.calls call.node)) (is_of a.program f call.node) call.calls_it (of-function a.program f call.node call.inside)))

  all-back : (f : ℕ) → IsReached a.program a.told.calls f → (g : ℕ) → Leads a.program a.told.calls f g → Reached found.callers (row found.owners l) g → Reached found.callers (row found.owners l) f
  all-back f reached g (direct c) r = back f g reached c r
  all-back f reached g (onward {mid} s c) r = all-back f reached mid s (back mid g (reached-then a.program a.told.calls f mid reached s) c r)

  found-for : (f : ℕ) → IsReached a.program a.told.calls f → Accesses a sharp f l → Reached found.callers (row found.owners l) f
  found-for f reached h = by h.led_to
    where
      own : IsReached a.program a.told.calls h.owner → Reached found.callers (row found.owners l) h.owner
      own r = start (found.touched l h.owner ∙ found-any (λ n. (defined_at a sharp n l || used_at a n l) && is_of a.program h.owner n) ns h.node (listed h.node h.owner h.inside r)
          (both-true (defined_at a sharp h.node l || used_at a h.node l) (is_of a.program h.owner h.node) h.touches (of-function a.program h.owner h.node h.inside)))

      by : (h.owner ≡ f) ⊎ Leads a.program a.told.calls f h.owner → Reached found.callers (row found.owners l) f
      by (inl e) = subst (λ g. Reached found.callers (row found.owners l) g) e (own (subst (IsReached a.program a.told.calls) (sym e) reached))
      by (inr leads) = all-back f reached h.owner leads (own (reached-then a.program a.told.calls f h.owner reached leads))

  pub accessed-is : (f : ℕ) → IsReached a.program a.told.calls f → (accesses accessed f l ≡ true) ↔ Accesses a sharp f l
  accessed-is f reached = (λ h. accessed-by f ((found.found f l).0 h), λ h. (found.found f l).1 (found-for f reached h))
