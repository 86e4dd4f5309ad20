-- Octagons are compared and joined place by place as they are kept; and the octagon without bounds.
use Rattle.std.proofs.Common.{◌≡◌, ◌⊎◌, inl, inr, ℕ, zero, suc, ◌+◌, ◌-◌, ◌*◌, ◌<◌, ◌≤◌, Bool, true, false, List, length, get_or, ℤ, pos, ◌≤ℤ◌, refl, sym, ap, ◌∙◌, subst, arith}
use Rattle.std.specs.Prelude.{int_le, int_lt, not, slice_set, ◌&&◌}
use Rattle.std.specs.Int.{int_max}
use Rattle.std.proofs.lemmas.Int.{ints, clamps}
use Rattle.std.proofs.lemmas.Bool.{false≢true}
use Rattle.std.proofs.lemmas.List.{ext_get_or, get_or_default, get_or-set_same, get_or-set_other}
use Rattle.sp_lattice.proofs.Snaps.{int_le_true, le_from_int_le}
use Rattle.sp_octagon.specs.declared.octagon.Octagon.{Octagon}
use Rattle.sp_octagon.specs.Entries.{Entries, unbounded, negative, entries_of}
use Rattle.sp_octagon.specs.Facts.{IsMatrix}
use Rattle.sp_octagon.specs.Changes.{no_bounds}
use Rattle.sp_octagon.specs.Order.{all_below, is_below}
use Rattle.sp_octagon.specs.Order as order
use Rattle.sp_octagon.specs.Octagons.{rows, entries, octagon_le, Becomes}
use Rattle.sp_octagon.specs.Functions.{joined}
use Rattle.sp_octagon.specs.Made.{bounds_of, is_octagon}
use Rattle.sp_octagon.specs.Kept.{width, start, half_to, half_of, boundless, whole, IsKept, list_le, IsGreater}
use Rattle.sp_octagon.proofs.Numbers.{negative-lt}
use Rattle.sp_octagon.proofs.OrderLaws.{all_below-at, all_below-from, all_below_fails, below_from_test, test_from_below, le_fails, le_holds}
use Rattle.sp_octagon.proofs.ChangeLaws.{joined-proper}
use Rattle.sp_octagon.proofs.Made.{bounds_of-at, bounds_of-length, test_from_octagon, with_entries-becomes}
use Rattle.sp_octagon.proofs.Halves.{start-zero, start-next, kept-room, kept-value, kept-length, half_to-length, whole_by-is, whole-half, half-kept, octagon-equal}

side : (a b : ℕ) → (a < b) ⊎ (b ≤ a)
side a b = grind arith

same_test : (s t : Bool) → (s ≡ true → t ≡ true) → (t ≡ true → s ≡ true) → s ≡ t
same_test true t f g = sym (f refl)
same_test false true f g = g refl
same_test false false f g = refl

-- ---- each place is one of a row and a column

pub record Place (n k : ℕ) : Type 0 where
  pub row : ℕ
  pub column : ℕ
  pub low : row < n
  pub kept : column < width row
  pub is : k ≡ start row + column

pub place-of : (n k : ℕ) → k < start n → Place n k
place-of zero k h = absurd (omega (arith, start-zero))
place-of (suc n) k h = by (side k (start n)) (place-of n k)
  where
    by : (k < start n) ⊎ (start n ≤ k) → (k < start n → Place n k) → Place (suc n) k
    by (inl low) below = let at = below low in record { row = at.row; column = at.column; low = omega (arith, at.low); kept = at.kept; is = at.is }
    by (inr high) below = record {
      row = n;
      column = k - start n;
      low = omega arith;
      kept = omega (arith, start-next n, next);
      is = omega arith;
    }
      where
        next : start (suc n) ≡ start (n + 1)
        next = ap start one
          where
            one : suc n ≡ n + 1
            one = omega arith

-- ---- the order

module _ (a b : Octagon) (same : a.size ≡ b.size) where
  rows_same : rows a ≡ rows b
  rows_same = omega (arith, same)

  entry-le : list_le (half_of a) (half_of b) ≡ true → (r c : ℕ) → r < rows a → c < width r → int_le (entries a r c) (entries b r c) ≡ true
  entry-le h r c hr hc =
      ap (λ z. int_le z (entries b r c)) (sym (kept-value a (half_of a) r c unbounded refl hr hc))
      ∙ ap (int_le (get_or (half_of a) (start r + c) unbounded)) (sym (kept-value b (half_of b) r c unbounded refl (omega (arith, rows_same)) hc))
      ∙ all_below-at (length (half_of a)) (λ k. int_le (get_or (half_of a) k unbounded) (get_or (half_of b) k unbounded)) h (start r + c) (kept-room a (half_of a) r c refl hr hc)

  octagon_le-from : list_le (half_of a) (half_of b) ≡ true → octagon_le a b ≡ true
  octagon_le-from h = test_from_below (rows a) (entries a) (entries b) (λ r c hr hc. by r c hr hc (side c (width r)))
    where
      by : (r c : ℕ) → r < rows a → c < rows a → (c < width r) ⊎ (width r ≤ c) → entries a r c ≤ℤ entries b r c
      by r c hr hc (inl near) = le_from_int_le (entries a r c) (entries b r c) (entry-le h r c hr near)
      by r c hr hc (inr far) =
          let low : r < 16 = omega (arith, a.facts.few) in
          let low' : c < 16 = omega (arith, a.facts.few) in
          let below = le_from_int_le (entries a (negative c) (negative r)) (entries b (negative c) (negative r)) (entry-le h (negative c) (negative r) (negative-lt c a.size hc) (omega (arith, far))) in
          subst (λ (z : ℤ). entries a r c ≤ℤ z) (b.facts.matrix.coherent r c low low') (subst (λ (z : ℤ). z ≤ℤ entries b (negative c) (negative r)) (a.facts.matrix.coherent r c low low') below)

  list_le-from : octagon_le a b ≡ true → list_le (half_of a) (half_of b) ≡ true
  list_le-from h = all_below-from (length (half_of a)) (λ k. int_le (get_or (half_of a) k unbounded) (get_or (half_of b) k unbounded)) (λ k hk. at k (place-of (rows a) k (omega (arith, hk, half_to-length (rows a) (entries a)))))
    where
      at : (k : ℕ) → Place (rows a) k → int_le (get_or (half_of a) k unbounded) (get_or (half_of b) k unbounded) ≡ true
      at k p =
          let left : get_or (half_of a) k unbounded ≡ entries a p.row p.column = ap (λ i. get_or (half_of a) i unbounded) p.is ∙ kept-value a (half_of a) p.row p.column unbounded refl p.low p.kept in
          let right : get_or (half_of b) k unbounded ≡ entries b p.row p.column = ap (λ i. get_or (half_of b) i unbounded) p.is ∙ kept-value b (half_of b) p.row p.column unbounded refl (omega (arith, p.low, rows_same)) p.kept in
          rw (left, right) (int_le_true (entries a p.row p.column) (entries b p.row p.column)
          (below_from_test (rows a) (entries a) (entries b) h p.row p.column p.low (omega (arith, p.low, p.kept))))

  pub list_le-half : list_le (half_of a) (half_of b) ≡ octagon_le a b
  list_le-half = same_test (list_le (half_of a) (half_of b)) (octagon_le a b) octagon_le-from list_le-from

  -- ---- the join

  joined-becomes : Becomes a (joined a b) (order.joined (entries a) (entries b))
  joined-becomes =
      with_entries-becomes a (order.joined (entries a) (entries b))
      (joined-proper a.size (entries a) (entries b) a.facts.few a.facts.matrix (subst (λ (n : ℕ). IsMatrix n (entries b)) (sym same) b.facts.matrix))

  pub greater-half : (new : List ℤ) → IsGreater (half_of a) (half_of b) new → new ≡ half_of (joined a b)
  greater-half new h = ext_get_or unbounded new (half_of (joined a b)) room (λ k hk. at k (place-of (rows a) k (omega (arith, hk, h.room, half_to-length (rows a) (entries a)))))
    where
      size : (joined a b).size ≡ a.size
      size = joined-becomes.size

      room : length new ≡ length (half_of (joined a b))
      room = h.room ∙ half_to-length (rows a) (entries a) ∙ ap (λ n. start (2 * n)) (sym size) ∙ sym (half_to-length (rows (joined a b)) (entries (joined a b)))

      at : (k : ℕ) → Place (rows a) k → get_or new k unbounded ≡ get_or (half_of (joined a b)) k unbounded
      at k p =
          let left : get_or (half_of a) k unbounded ≡ entries a p.row p.column = ap (λ i. get_or (half_of a) i unbounded) p.is ∙ kept-value a (half_of a) p.row p.column unbounded refl p.low p.kept in
          let right : get_or (half_of b) k unbounded ≡ entries b p.row p.column = ap (λ i. get_or (half_of b) i unbounded) p.is ∙ kept-value b (half_of b) p.row p.column unbounded refl (omega (arith, p.low, rows_same)) p.kept in
          let both : get_or (half_of (joined a b)) k unbounded ≡ entries (joined a b) p.row p.column = ap (λ i. get_or (half_of (joined a b)) i unbounded) p.is ∙ kept-value (joined a b) (half_of (joined a b)) p.row p.column unbounded refl (omega (arith, p.low, size)) p.kept in
          let here : k < length (half_of a) = omega (arith, p.is, kept-room a (half_of a) p.row p.column refl p.low p.kept) in
          h.greater k here ∙ ap (λ z. int_max z (get_or (half_of b) k unbounded)) left ∙ ap (int_max (entries a p.row p.column)) right
          ∙ sym (joined-becomes.entries_are p.row p.column p.low (omega (arith, p.low, p.kept))) ∙ sym both

  pub joined-size : (joined a b).size ≡ a.size
  joined-size = joined-becomes.size

-- ---- what is kept, in the code's words

pub sizes-same : (a b : Octagon) (xs ys : List ℤ) → half_of a ≡ xs → half_of b ≡ ys → a.size ≡ b.size → length xs ≡ length ys
sizes-same a b xs ys e f same = kept-length a xs e ∙ ap (λ n. 2 * n * (n + 1)) same ∙ sym (kept-length b ys f)

pub list_le-kept : (a b : Octagon) (xs ys : List ℤ) → half_of a ≡ xs → half_of b ≡ ys → a.size ≡ b.size → list_le xs ys ≡ octagon_le a b
list_le-kept a b xs ys e f same = ap (λ zs. list_le zs ys) (sym e) ∙ ap (list_le (half_of a)) (sym f) ∙ list_le-half a b same

pub greater-kept : (a b : Octagon) (xs ys new : List ℤ) → half_of a ≡ xs → half_of b ≡ ys → a.size ≡ b.size → IsGreater xs ys new → new ≡ half_of (joined a b)
greater-kept a b xs ys new e f same h =
    greater-half a b same new
    (subst (λ (zs : List ℤ). IsGreater zs (half_of b) new) (sym e) (subst (λ (zs : List ℤ). IsGreater xs zs new) (sym f) h))

-- ---- how far a pass that raises bounds has come

pub record Raised (old others : List ℤ) (place : ℕ) (new : List ℤ) (grew : Bool) : Type 0 where
  pub done : (k : ℕ) → k < place → get_or new k unbounded ≡ int_max (get_or old k unbounded) (get_or others k unbounded)
  pub rest : (k : ℕ) → place ≤ k → get_or new k unbounded ≡ get_or old k unbounded
  pub told : grew ≡ not (all_below place (λ k. int_le (get_or others k unbounded) (get_or old k unbounded)))

pub raised-none : (old others : List ℤ) → Raised old others 0 old false
raised-none old others = record { done = λ k hk. absurd (omega arith); rest = λ k hk. refl; told = refl }

greatest : (x y z : ℤ) → int_lt x y ≡ true → z ≡ x → y ≡ int_max z y
greatest x y z h e = grind (arith, ints, clamps)

stays : (x y z : ℤ) → int_lt x y ≡ false → z ≡ x → x ≡ int_max z y
stays x y z h e = grind (arith, ints, clamps)

module _ (old others bounds : List ℤ) (place : ℕ) (grew : Bool) (low : place < length others) (room : length bounds ≡ length others) (h : Raised old others place bounds grew) where
  read_old : get_or old place unbounded ≡ get_or bounds place (pos 0)
  read_old = sym (h.rest place (omega arith)) ∙ get_or_default bounds place unbounded (pos 0) (omega (arith, low, room))

  read_other : get_or others place (pos 0) ≡ get_or others place unbounded
  read_other = get_or_default others place (pos 0) unbounded low

  pub raised-more : int_lt (get_or bounds place (pos 0)) (get_or others place (pos 0)) ≡ true
      → Raised old others (place + 1) (slice_set bounds place (get_or others place (pos 0))) true
  raised-more less = record { done = λ k hk. done k (side k place) hk; rest = rest; told = ap not (sym fails) }
    where
      done : (k : ℕ) → (k < place) ⊎ (place ≤ k) → k < place + 1 → get_or (slice_set bounds place (get_or others place (pos 0))) k unbounded ≡ int_max (get_or old k unbounded) (get_or others k unbounded)
      done k (inl near) hk = get_or-set_other bounds place k (get_or others place (pos 0)) unbounded (λ e. absurd (omega (arith, e, near))) ∙ h.done k near
      done k (inr far) hk =
          let same : k ≡ place = omega arith in
          subst (λ (i : ℕ). get_or (slice_set bounds place (get_or others place (pos 0))) i unbounded ≡ int_max (get_or old i unbounded) (get_or others i unbounded)) (sym same)
          (get_or-set_same bounds place (get_or others place (pos 0)) unbounded (omega (arith, low, room))
          ∙ greatest (get_or bounds place (pos 0)) (get_or others place (pos 0)) (get_or old place unbounded) less read_old
          ∙ ap (int_max (get_or old place unbounded)) read_other)

      rest : (k : ℕ) → place + 1 ≤ k → get_or (slice_set bounds place (get_or others place (pos 0))) k unbounded ≡ get_or old k unbounded
      rest k hk = get_or-set_other bounds place k (get_or others place (pos 0)) unbounded (λ e. absurd (omega (arith, e, hk))) ∙ h.rest k (omega arith)

      fails : all_below (place + 1) (λ k. int_le (get_or others k unbounded) (get_or old k unbounded)) ≡ false
      fails = all_below_fails (place + 1) (λ k. int_le (get_or others k unbounded) (get_or old k unbounded)) place (omega arith)
          (ap (λ z. int_le z (get_or old place unbounded)) (sym read_other) ∙ ap (int_le (get_or others place (pos 0))) read_old
          ∙ le_fails (get_or others place (pos 0)) (get_or bounds place (pos 0)) less)

  pub raised-same : int_lt (get_or bounds place (pos 0)) (get_or others place (pos 0)) ≡ false → Raised old others (place + 1) bounds grew
  raised-same more = record { done = λ k hk. done k (side k place) hk; rest = λ k hk. h.rest k (omega arith); told = h.told ∙ ap not next }
    where
      done : (k : ℕ) → (k < place) ⊎ (place ≤ k) → k < place + 1 → get_or bounds k unbounded ≡ int_max (get_or old k unbounded) (get_or others k unbounded)
      done k (inl near) hk = h.done k near
      done k (inr far) hk =
          let same : k ≡ place = omega arith in
          subst (λ (i : ℕ). get_or bounds i unbounded ≡ int_max (get_or old i unbounded) (get_or others i unbounded)) (sym same)
          (get_or_default bounds place unbounded (pos 0) (omega (arith, low, room))
          ∙ stays (get_or bounds place (pos 0)) (get_or others place (pos 0)) (get_or old place unbounded) more read_old
          ∙ ap (int_max (get_or old place unbounded)) read_other)

      here : int_le (get_or others place unbounded) (get_or old place unbounded) ≡ true
      here = ap (λ z. int_le z (get_or old place unbounded)) (sym read_other) ∙ ap (int_le (get_or others place (pos 0))) read_old
          ∙ le_holds (get_or others place (pos 0)) (get_or bounds place (pos 0)) more

      and_true : (x y : Bool) → y ≡ true → x ≡ (x && y)
      and_true true true e = refl
      and_true false y e = refl
      and_true true false e = absurd (false≢true e)

      one : suc place ≡ place + 1
      one = omega arith

      next : all_below place (λ k. int_le (get_or others k unbounded) (get_or old k unbounded)) ≡ all_below (place + 1) (λ k. int_le (get_or others k unbounded) (get_or old k unbounded))
      next = and_true (all_below place (λ k. int_le (get_or others k unbounded) (get_or old k unbounded))) (int_le (get_or others place unbounded) (get_or old place unbounded)) here
          ∙ ap (λ n. all_below n (λ k. int_le (get_or others k unbounded) (get_or old k unbounded))) one

-- ---- no bounds

pub boundless-is : (o : Octagon) (n : ℕ) → o.size ≡ n → ((r c : ℕ) → r < 16 → c < 16 → entries o r c ≡ no_bounds r c) → o ≡ boundless n
unfolding boundless
boundless-is o n size none =
    subst (λ (k : ℕ). o ≡ boundless k) size
    (sym (whole_by-is o (bounds_of no_bounds) (is_octagon o.size (bounds_of no_bounds)) refl (test_from_octagon o.size (bounds_of no_bounds) (octagon-equal o (bounds_of no_bounds) (bounds_of-length no_bounds) at)) at))
  where
    at : (r c : ℕ) → r < 16 → c < 16 → entries_of (bounds_of no_bounds) r c ≡ entries o r c
    at r c hr hc = bounds_of-at no_bounds r c hr hc ∙ sym (none r c hr hc)
