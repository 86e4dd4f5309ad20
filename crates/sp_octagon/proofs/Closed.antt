-- The closure as a function: where rounds settle it is the closure, else a closed walk is negative.
use Rattle.std.proofs.Common.{◌≡◌, ℕ, zero, suc, ◌+◌, ◌*◌, ◌<◌, ◌≤◌, Bool, true, false, cond, ◌&&◌, ℤ, pos, ◌<ℤ◌, refl, sym, ap, ◌∙◌, subst, arith}
use Rattle.std.specs.Prelude.{int_le, Some, None, MatchBool}
use Rattle.std.proofs.lemmas.Int.{ints}
use Rattle.std.proofs.lemmas.Bool.{false≢true}
use Rattle.sp_lattice.proofs.Snaps.{le_from_int_le}
use Rattle.sp_octagon.specs.declared.octagon.Octagon.{Octagon}
use Rattle.sp_octagon.specs.Entries.{Entries}
use Rattle.sp_octagon.specs.Facts.{IsMatrix}
use Rattle.sp_octagon.specs.Walks.{HasNegativeWalk, IsClosure, closed_entry}
use Rattle.sp_octagon.specs.Points.{Point}
use Rattle.sp_octagon.specs.inner.Rounds.{AfterRounds, Closes}
use Rattle.sp_octagon.specs.Functions.{round, rounds_to, is_natural_diagonal, settles, closed}
use Rattle.sp_octagon.specs.Octagons.{rows, entries, OctagonHolds}
use Rattle.sp_octagon.specs.Made.{every, every-at, with_entries}
use Rattle.sp_octagon.proofs.Rounds.{rounds-first, rounds-step, step_negative, rounds_proper}
use Rattle.sp_octagon.proofs.Closures.{closed-proper, closure-from, closure_unique}
use Rattle.sp_octagon.proofs.PointLaws.{no_point, nearest-held}
use Rattle.sp_octagon.proofs.OrderLaws.{octagon_same}
use Rattle.sp_octagon.proofs.Made.{with_entries-becomes}

record Fails (n : ℕ) (p : ℕ → Bool) : Type 0 where
  at : ℕ
  low : at < n
  fails : p at ≡ false

every_fails : (n : ℕ) (p : ℕ → Bool) → every n p ≡ false → Fails n p
unfolding every
every_fails zero p h = absurd (false≢true (sym h))
every_fails (suc n) p h = by (every n p) refl (p n) refl h (every_fails n p)
  where
    by : (s : Bool) → every n p ≡ s → (t : Bool) → p n ≡ t → (s && t) ≡ false → (every n p ≡ false → Fails n p) → Fails (suc n) p
    by true e true f g rest = absurd (false≢true (sym g))
    by true e false f g rest = record { at = n; low = omega arith; fails = f }
    by false e t f g rest = let r = rest e in record { at = r.at; low = omega (arith, r.low); fails = r.fails }

negative_from_test : (z : ℤ) → int_le (pos 0) z ≡ false → z <ℤ pos 0
negative_from_test z h = grind (arith, ints)

rounds_to-suc : (k : ℕ) (m : Entries) → rounds_to (suc k) m ≡ round k (rounds_to k m)
unfolding rounds_to
rounds_to-suc k m = refl

rounds_to-zero : (m : Entries) → rounds_to zero m ≡ m
unfolding rounds_to
rounds_to-zero m = refl

data Search (count : ℕ) (m : Entries) (k : ℕ) : Type 0 where
  walks : settles count k m ≡ true → AfterRounds count m k (rounds_to k m) → Search count m k
  found : settles count k m ≡ false → HasNegativeWalk count m → Search count m k

search_to : (size : ℕ) (m : Entries) → size ≤ 8 → IsMatrix size m → (k : ℕ) → k ≤ 2 * size → Search (2 * size) m k
unfolding settles
search_to size m few matrix zero h =
    walks refl (subst (AfterRounds (2 * size) m 0) (sym (rounds_to-zero m)) (rounds-first (2 * size) size m (omega arith) matrix))
search_to size m few matrix (suc k) h = by (search_to size m few matrix k (omega arith))
  where
    count : ℕ
    count = 2 * size

    next : settles (2 * size) k m ≡ true → AfterRounds (2 * size) m k (rounds_to k m) → (t : Bool) → is_natural_diagonal (2 * size) (rounds_to (suc k) m) ≡ t → Search (2 * size) m (suc k)
    next e all true diagonal =
        let one : k + 1 ≡ suc k = omega arith in
        let at = subst (λ (d : Entries). is_natural_diagonal (2 * size) d ≡ true) (rounds_to-suc k m) diagonal in
        let all_next = rounds-step (2 * size) m k (rounds_to k m) (round k (rounds_to k m)) (omega arith) (omega arith) all (λ r c hr hc. refl)
        (λ r hr. le_from_int_le (pos 0) (round k (rounds_to k m) r r) (every-at (2 * size) (λ i. int_le (pos 0) (round k (rounds_to k m) i i)) at r hr)) in
        walks (ap (λ b. b && is_natural_diagonal (2 * size) (rounds_to (suc k) m)) e ∙ diagonal)
        (subst (λ (d : Entries). AfterRounds (2 * size) m (suc k) d) (sym (rounds_to-suc k m)) (subst (λ (n : ℕ). AfterRounds (2 * size) m n (round k (rounds_to k m))) one all_next))
    next e all false diagonal =
        let at = subst (λ (d : Entries). is_natural_diagonal (2 * size) d ≡ false) (rounds_to-suc k m) diagonal in
        let f = every_fails (2 * size) (λ i. int_le (pos 0) (round k (rounds_to k m) i i)) at in
        found (ap (λ b. b && is_natural_diagonal (2 * size) (rounds_to (suc k) m)) e ∙ diagonal)
        (step_negative (2 * size) m k (rounds_to k m) (round k (rounds_to k m)) (omega arith) (omega arith) all (λ r c hr hc. refl) f.at f.low (negative_from_test (round k (rounds_to k m) f.at f.at) f.fails))

    by : Search (2 * size) m k → Search (2 * size) m (suc k)
    by (found e n) = found (ap (λ b. b && is_natural_diagonal (2 * size) (rounds_to (suc k) m)) e) n
    by (walks e all) = next e all (is_natural_diagonal (2 * size) (rounds_to (suc k) m)) refl

-- an octagon has a closure, and no closed walk is negative; or one is
pub data Closing (o : Octagon) : Type 0 where
  closes : (d : Entries) → AfterRounds (rows o) (entries o) (rows o) d → (c : Octagon) → closed o ≡ Some c → c.size ≡ o.size → IsClosure (rows o) (entries o) (entries c) → Closing o
  empty : closed o ≡ None → HasNegativeWalk (rows o) (entries o) → Closing o

pub closing : (o : Octagon) → Closing o
unfolding closed
closing o = by (search_to o.size (entries o) o.facts.few o.facts.matrix (2 * o.size) (omega arith))
  where
    by : Search (2 * o.size) (entries o) (2 * o.size) → Closing o
    by (found e n) = empty (ap (λ b. cond b (Some (with_entries o (closed_entry (rounds_to (rows o) (entries o))))) None) e) n
    by (walks e all) =
        let d = rounds_to (rows o) (entries o) in
        let p = closed-proper o.size (entries o) d o.facts.few o.facts.matrix all in
        let b = with_entries-becomes o (closed_entry d) p in
        closes d all (with_entries o (closed_entry d)) (ap (λ b. cond b (Some (with_entries o (closed_entry (rounds_to (rows o) (entries o))))) None) e)
        b.size (closure-from o.size (entries o) d o.facts.few o.facts.matrix all (entries (with_entries o (closed_entry d))) b.entries_are)

-- what the code finds is it
pub closed-is : (o new : Octagon) → (HasNegativeWalk (rows o) (entries o) → ⊥) → new.size ≡ o.size → IsClosure (rows o) (entries o) (entries new) → closed o ≡ Some new
closed-is o new proper size is = by (closing o)
  where
    by : Closing o → closed o ≡ Some new
    by (empty e n) = absurd (proper n)
    by (closes d all c e same closure) =
        e ∙ ap (λ (x : Octagon). Some x) (octagon_same c new (same ∙ sym size) (λ r k hr hk.
        closure_unique o.size (entries o) (entries c) (entries new) closure is r k (omega (arith, same)) (omega (arith, same))))

pub closed-gone : (o : Octagon) → HasNegativeWalk (rows o) (entries o) → closed o ≡ None
closed-gone o n = by (closing o)
  where
    by : Closing o → closed o ≡ None
    by (empty e m) = e
    by (closes d all c e same closure) = absurd (rounds_proper (rows o) (entries o) d (omega (arith, o.facts.few)) all n)

-- ---- what the code answers

pub outcome-closed : (o new : Octagon) (t : Bool) → new.size ≡ o.size → MatchBool t (Closes o.size (entries o) (entries new)) (HasNegativeWalk (2 * o.size) (entries o)) → MatchBool t (closed o ≡ Some new) (closed o ≡ None)
outcome-closed o new true size c =
    closed-is o new (rounds_proper (rows o) (entries o) c.walks (omega (arith, o.facts.few)) c.after) size
    (closure-from o.size (entries o) c.walks o.facts.few o.facts.matrix c.after (entries new) c.entries)
outcome-closed o new false size n = closed-gone o n

pub outcome-exact : (o : Octagon) (e : Entries) (t : Bool) → MatchBool t (Closes o.size (entries o) e) (HasNegativeWalk (2 * o.size) (entries o)) → MatchBool t ((p : Point) × OctagonHolds o p) ((p : Point) → OctagonHolds o p → ⊥)
outcome-exact o e true c =
    nearest-held o.size (entries o) c.walks (λ r k hr hk. o.facts.matrix.coherent r k (omega (arith, o.facts.few)) (omega (arith, o.facts.few))) c.after
outcome-exact o e false n = λ p h. no_point (rows o) (entries o) p n h
