-- The order of octagons of one size: its test, its laws, and that equal entries make equal octagons.
use Rattle.std.proofs.Common.{◌≡◌, ◌≢◌, ◌⊎◌, inl, inr, ℕ, zero, suc, ◌+◌, ◌*◌, ◌/◌, ◌%◌, ◌<◌, ◌≤◌, ◌==◌, max, Bool, true, false, ◌&&◌, List, get_or, ℤ, refl, sym, ap, ◌∙◌, subst, arith}
use Rattle.std.specs.Prelude.{int_le, int_lt}
use Rattle.std.proofs.lemmas.Int.{ints, clamps}
use Rattle.std.proofs.lemmas.Bool.{false≢true}
use Rattle.std.proofs.lemmas.Bool.Decides.{nat_tests}
use Rattle.std.proofs.lemmas.List.{ext_get_or}
use Rattle.sp_lattice.proofs.Snaps.{int_le_true, le_from_int_le}
use Rattle.sp_octagon.specs.declared.octagon.Octagon.{Octagon}
use Rattle.sp_octagon.specs.Entries.{Entries, unbounded}
use Rattle.sp_octagon.specs.Facts.{IsOctagon, IsOctagon-prop}
use Rattle.sp_octagon.specs.Order.{Below, all_below, is_below, joined}
use Rattle.sp_octagon.specs.Octagons.{rows, entries, octagon_le, Becomes}

-- ---- tests of all numbers below n

pub all_below-at : (n : ℕ) (p : ℕ → Bool) → all_below n p ≡ true → (k : ℕ) → k < n → p k ≡ true
all_below-at zero p h k hk = absurd (omega arith)
all_below-at (suc n) p h k hk = by (all_below n p) refl (p n) refl (order k n) (λ e low. all_below-at n p e k low)
  where
    order : (x y : ℕ) → (x < y) ⊎ (y ≤ x)
    order x y = grind arith

    by : (s : Bool) → all_below n p ≡ s → (t : Bool) → p n ≡ t → (k < n) ⊎ (n ≤ k) → (all_below n p ≡ true → k < n → p k ≡ true) → p k ≡ true
    by true e true f (inl low) rest = rest e low
    by true e true f (inr high) rest = let same : k ≡ n = omega arith in ap p same ∙ f
    by true e false f o rest = absurd (false≢true (sym (ap (λ x. all_below n p && x) f ∙ ap (λ x. x && false) e) ∙ h))
    by false e t f o rest = absurd (false≢true (sym (ap (λ x. x && p n) e) ∙ h))

pub all_below-from : (n : ℕ) (p : ℕ → Bool) → ((k : ℕ) → k < n → p k ≡ true) → all_below n p ≡ true
all_below-from zero p h = refl
all_below-from (suc n) p h = ap (λ x. x && p n) (all_below-from n p (λ k hk. h k (omega arith))) ∙ h n (omega arith)

pub all_below-next : (n : ℕ) (p : ℕ → Bool) → all_below n p ≡ true → p n ≡ true → all_below (n + 1) p ≡ true
all_below-next n p h here = all_below-from (n + 1) p (λ k hk. by k (order k n) hk)
  where
    order : (x y : ℕ) → (x < y) ⊎ (y ≤ x)
    order x y = grind arith

    by : (k : ℕ) → (k < n) ⊎ (n ≤ k) → k < n + 1 → p k ≡ true
    by k (inl low) hk = all_below-at n p h k low
    by k (inr high) hk = let same : k ≡ n = omega arith in ap p same ∙ here

pub all_below_fails : (n : ℕ) (p : ℕ → Bool) (k : ℕ) → k < n → p k ≡ false → all_below n p ≡ false
all_below_fails n p k hk f = by (all_below n p) refl
  where
    by : (t : Bool) → all_below n p ≡ t → t ≡ false
    by true e = absurd (false≢true (sym f ∙ all_below-at n p e k hk))
    by false e = refl

-- ---- the test of the order

pub below_from_test : (n : ℕ) (a b : Entries) → is_below n a b ≡ true → Below n a b
below_from_test n a b h r c hr hc =
    le_from_int_le (a r c) (b r c) (all_below-at n (λ k. int_le (a r k) (b r k)) (all_below-at n (λ i. all_below n (λ k. int_le (a i k) (b i k))) h r hr) c hc)

pub test_from_below : (n : ℕ) (a b : Entries) → Below n a b → is_below n a b ≡ true
test_from_below n a b h =
    all_below-from n (λ r. all_below n (λ c. int_le (a r c) (b r c))) (λ r hr. all_below-from n (λ c. int_le (a r c) (b r c)) (λ c hc. int_le_true (a r c) (b r c) (h r c hr hc)))

-- ---- equal entries make equal octagons

octagon_of : (size : ℕ) (bounds : List ℤ) → IsOctagon size bounds → Octagon
octagon_of size bounds is = record { size = size; bounds = bounds; facts = is }

octagon_equal : (s t : ℕ) (xs ys : List ℤ) (p : IsOctagon s xs) (q : IsOctagon t ys) → s ≡ t → xs ≡ ys → octagon_of s xs p ≡ octagon_of t ys q
octagon_equal s t xs ys p q e f =
    subst (λ (u : ℕ). (o : IsOctagon u ys) → octagon_of s xs p ≡ octagon_of u ys o) e
    (subst (λ (zs : List ℤ). (o : IsOctagon s zs) → octagon_of s xs p ≡ octagon_of s zs o) f
    (λ o. ap (octagon_of s xs) (IsOctagon-prop s xs p o))) q

-- outside its rows and columns an octagon has nothing of its own
outside_equal : (a b : Octagon) → a.size ≡ b.size → ((r c : ℕ) → r < rows a → c < rows a → entries a r c ≡ entries b r c) → (r c : ℕ) → r < 16 → c < 16 → entries a r c ≡ entries b r c
outside_equal a b e inside r c hr hc = by (order r (rows a)) (order c (rows a)) (which (r == c) refl)
  where
    order : (x y : ℕ) → (x < y) ⊎ (y ≤ x)
    order x y = grind arith

    which : (t : Bool) → (r == c) ≡ t → (r ≡ c) ⊎ (r ≢ c)
    which true f = inl (same r c f)
      where
        same : (x y : ℕ) → (x == y) ≡ true → x ≡ y
        same x y g = grind (arith, nat_tests)
    which false f = inr (other r c f)
      where
        other : (x y : ℕ) → (x == y) ≡ false → x ≢ y
        other x y g = λ e'. grind (arith, nat_tests)

    far : 2 * a.size ≤ max r c → (r ≡ c) ⊎ (r ≢ c) → entries a r c ≡ entries b r c
    far out (inl s) =
        ap (entries a r) (sym s) ∙ a.facts.matrix.diagonal r hr ∙ sym (b.facts.matrix.diagonal r hr) ∙ ap (entries b r) s
    far out (inr o) = a.facts.matrix.outside r c hr hc out o ∙ sym (b.facts.matrix.outside r c hr hc (omega arith) o)

    by : (r < rows a) ⊎ (rows a ≤ r) → (c < rows a) ⊎ (rows a ≤ c) → (r ≡ c) ⊎ (r ≢ c) → entries a r c ≡ entries b r c
    by (inl p) (inl q) w = inside r c p q
    by (inr p) o w = far (omega arith) w
    by o (inr q) w = far (omega arith) w

pub octagon_same : (a b : Octagon) → a.size ≡ b.size → ((r c : ℕ) → r < rows a → c < rows a → entries a r c ≡ entries b r c) → a ≡ b
unfolding octagon_of
octagon_same a b e inside =
    octagon_equal a.size b.size a.bounds b.bounds a.facts b.facts e
    (ext_get_or unbounded a.bounds b.bounds (a.facts.room ∙ sym b.facts.room) (λ k hk. at k (omega (arith, a.facts.room))))
  where
    at : (k : ℕ) → k < 256 → get_or a.bounds k unbounded ≡ get_or b.bounds k unbounded
    at k hk =
        let parts : 16 * (k / 16) + k % 16 ≡ k = omega arith in
        subst (λ (i : ℕ). get_or a.bounds i unbounded ≡ get_or b.bounds i unbounded) parts (outside_equal a b e inside (k / 16) (k % 16) (omega arith) (omega arith))

-- so a call has one outcome
pub becomes_unique : (old a b : Octagon) (m : Entries) → Becomes old a m → Becomes old b m → a ≡ b
becomes_unique old a b m x y =
    octagon_same a b (x.size ∙ sym y.size) (λ r c hr hc. x.entries_are r c (omega (arith, x.size)) (omega (arith, x.size)) ∙ sym (y.entries_are r c (omega (arith, x.size)) (omega (arith, x.size))))

-- ---- the laws of a lattice

pub octagon_le-refl : (a : Octagon) → octagon_le a a ≡ true
octagon_le-refl a = test_from_below (rows a) (entries a) (entries a) (λ r c hr hc. omega (arith, ints))

pub octagon_le-trans : (a b c : Octagon) → a.size ≡ b.size → octagon_le a b ≡ true → octagon_le b c ≡ true → octagon_le a c ≡ true
octagon_le-trans a b c e h g =
    test_from_below (rows a) (entries a) (entries c) (λ r k hr hk.
    let x = below_from_test (rows a) (entries a) (entries b) h r k hr hk in
    let y = below_from_test (rows b) (entries b) (entries c) g r k (omega (arith, e)) (omega (arith, e)) in
    omega (arith, ints, x, y))

pub octagon_le-antisym : (a b : Octagon) → a.size ≡ b.size → octagon_le a b ≡ true → octagon_le b a ≡ true → a ≡ b
octagon_le-antisym a b e h g =
    octagon_same a b e (λ r k hr hk.
    let x = below_from_test (rows a) (entries a) (entries b) h r k hr hk in
    let y = below_from_test (rows b) (entries b) (entries a) g r k (omega (arith, e)) (omega (arith, e)) in
    omega (arith, ints, x, y))

module _ (old other new : Octagon) (same : old.size ≡ other.size) (is : Becomes old new (joined (entries old) (entries other))) where
  pub joined-left : octagon_le old new ≡ true
  joined-left = test_from_below (rows old) (entries old) (entries new) (λ r k hr hk. omega (arith, ints, clamps, is.entries_are r k hr hk))

  pub joined-right : octagon_le other new ≡ true
  joined-right =
      test_from_below (rows other) (entries other) (entries new) (λ r k hr hk. omega (arith, ints, clamps, is.entries_are r k (omega (arith, same)) (omega (arith, same))))

  pub joined-least : (third : Octagon) → third.size ≡ old.size → octagon_le old third ≡ true → octagon_le other third ≡ true → octagon_le new third ≡ true
  joined-least third e h g =
      test_from_below (rows new) (entries new) (entries third) (λ r k hr hk.
      let hr' : r < rows old = omega (arith, is.size) in
      let hk' : k < rows old = omega (arith, is.size) in
      let x = below_from_test (rows old) (entries old) (entries third) h r k hr' hk' in
      let y = below_from_test (rows other) (entries other) (entries third) g r k (omega (arith, same)) (omega (arith, same)) in
      omega (arith, ints, clamps, x, y, is.entries_are r k hr' hk'))

-- ---- what the code's tests say

pub le_fails : (u v : ℤ) → int_lt v u ≡ true → int_le u v ≡ false
le_fails u v h = grind (arith, ints)

pub le_holds : (u v : ℤ) → int_lt v u ≡ false → int_le u v ≡ true
le_holds u v h = grind (arith, ints)
