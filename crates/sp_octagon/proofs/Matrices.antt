-- When a list of entries is again an octagon's, and writes to a pair of entries.
use Rattle.std.proofs.Common.{◌≡◌, ◌≢◌, ◌⊎◌, inl, inr, ℕ, ◌+◌, ◌*◌, ◌<◌, ◌≤◌, max, ◌==◌, Bool, true, false, cond, ◌&&◌, ◌||◌, List, length, ℤ, pos, ◌≤ℤ◌, refl, sym, ap, ◌∙◌, subst, arith}
use Rattle.std.specs.Prelude.{slice_set}
use Rattle.std.specs.Int.{int_min}
use Rattle.std.proofs.lemmas.Int.{ints, clamps}
use Rattle.std.proofs.lemmas.Bool.Decides.{nat_tests}
use Rattle.std.proofs.lemmas.List.{length-set}
use Rattle.sp_octagon.specs.Entries.{Entries, least_bound, greatest_bound, negative, entries_of}
use Rattle.sp_octagon.specs.Facts.{IsInRange, IsMatrix, IsOctagon}
use Rattle.sp_octagon.specs.Changes.{is_pair, with_pair}
use Rattle.sp_octagon.proofs.Numbers.{which, negative-lt}
use Rattle.sp_octagon.proofs.Closures.{IsProper}
use Rattle.sp_octagon.proofs.Passing.{entry_written, entry_kept}

-- changed inside its own rows and columns to proper entries, and nowhere else
pub matrix-from : (size : ℕ) (old new f : Entries) → size ≤ 8 → IsMatrix size old → IsProper (2 * size) f → ((r c : ℕ) → r < 2 * size → c < 2 * size → new r c ≡ f r c) → ((r c : ℕ) → r < 16 → c < 16 → 2 * size ≤ max r c → new r c ≡ old r c) → IsMatrix size new
matrix-from size old new f few matrix proper inside outside = record {
  diagonal = λ r hr. diagonal r hr (order r (2 * size));
  coherent = λ r c hr hc. coherent r c hr hc (order r (2 * size)) (order c (2 * size));
  in_range = λ r c hr hc. in_range r c hr hc (order r (2 * size)) (order c (2 * size));
  outside = λ r c hr hc far other. outside r c hr hc far ∙ matrix.outside r c hr hc far other;
}
  where
    order : (a b : ℕ) → (a < b) ⊎ (b ≤ a)
    order a b = grind arith

    diagonal : (r : ℕ) → r < 16 → (r < 2 * size) ⊎ (2 * size ≤ r) → new r r ≡ pos 0
    diagonal r hr (inl low) = inside r r low low ∙ proper.diagonal r low
    diagonal r hr (inr high) = outside r r hr hr (omega arith) ∙ matrix.diagonal r hr

    coherent : (r c : ℕ) → r < 16 → c < 16 → (r < 2 * size) ⊎ (2 * size ≤ r) → (c < 2 * size) ⊎ (2 * size ≤ c) → new (negative c) (negative r) ≡ new r c
    coherent r c hr hc (inl low) (inl low') =
        inside (negative c) (negative r) (negative-lt c size low') (negative-lt r size low) ∙ proper.coherent r c low low' ∙ sym (inside r c low low')
    coherent r c hr hc (inr high) o =
        outside (negative c) (negative r) (omega arith) (omega arith) (omega arith) ∙ matrix.coherent r c hr hc ∙ sym (outside r c hr hc (omega arith))
    coherent r c hr hc o (inr high) =
        outside (negative c) (negative r) (omega arith) (omega arith) (omega arith) ∙ matrix.coherent r c hr hc ∙ sym (outside r c hr hc (omega arith))

    in_range : (r c : ℕ) → r < 16 → c < 16 → (r < 2 * size) ⊎ (2 * size ≤ r) → (c < 2 * size) ⊎ (2 * size ≤ c) → IsInRange (new r c)
    in_range r c hr hc (inl low) (inl low') = subst IsInRange (sym (inside r c low low')) (proper.in_range r c low low')
    in_range r c hr hc (inr high) o = subst IsInRange (sym (outside r c hr hc (omega arith))) (matrix.in_range r c hr hc)
    in_range r c hr hc o (inr high) = subst IsInRange (sym (outside r c hr hc (omega arith))) (matrix.in_range r c hr hc)

pub octagon-from : (size : ℕ) (old new : List ℤ) (f : Entries) → IsOctagon size old → length new ≡ 256 → IsProper (2 * size) f → ((r c : ℕ) → r < 2 * size → c < 2 * size → entries_of new r c ≡ f r c) → ((r c : ℕ) → r < 16 → c < 16 → 2 * size ≤ max r c → entries_of new r c ≡ entries_of old r c) → IsOctagon size new
octagon-from size old new f is room proper inside outside = record {
  some = is.some;
  few = is.few;
  room = room;
  matrix = matrix-from size (entries_of old) (entries_of new) f is.few is.matrix proper inside outside;
}

-- ---- pairs

pub data PairCases (r c i j : ℕ) : Type 0 where
  itself : i ≡ r → j ≡ c → is_pair r c i j ≡ true → PairCases r c i j
  its_equal : i ≡ negative c → j ≡ negative r → is_pair r c i j ≡ true → PairCases r c i j
  apart : (i ≡ r → j ≡ c → ⊥) → (i ≡ negative c → j ≡ negative r → ⊥) → is_pair r c i j ≡ false → PairCases r c i j

same_nat : (a b : ℕ) → (a == b) ≡ true → a ≡ b
same_nat a b h = grind (arith, nat_tests)

other_nat : (a b : ℕ) → (a == b) ≡ false → a ≡ b → ⊥
other_nat a b h e = grind (arith, nat_tests)

pub pair_cases : (r c i j : ℕ) → PairCases r c i j
pair_cases r c i j = by (i == r) refl (j == c) refl (i == negative c) refl (j == negative r) refl
  where
    mirrored : (s : Bool) → s ≡ false → (v : Bool) → (i == negative c) ≡ v → (w : Bool) → (j == negative r) ≡ w → (i ≡ r → j ≡ c → ⊥) → (is_pair r c i j ≡ (s || v && w)) → PairCases r c i j
    mirrored s off true e true f ne is = its_equal (same_nat i (negative c) e) (same_nat j (negative r) f) (is ∙ ap (λ x. x || true) off)
    mirrored s off true e false f ne is = apart ne (λ x y. other_nat j (negative r) f y) (is ∙ ap (λ x. x || false) off)
    mirrored s off false e w f ne is = apart ne (λ x y. other_nat i (negative c) e x) (is ∙ ap (λ x. x || false) off)

    by : (s : Bool) → (i == r) ≡ s → (t : Bool) → (j == c) ≡ t → (v : Bool) → (i == negative c) ≡ v → (w : Bool) → (j == negative r) ≡ w → PairCases r c i j
    by true a true b v e w f = itself (same_nat i r a) (same_nat j c b) (ap (λ x. x && (j == c) || (i == negative c) && (j == negative r)) a ∙ ap (λ x. x || (i == negative c) && (j == negative r)) b)
    by true a false b v e w f =
        mirrored ((i == r) && (j == c)) (ap (λ x. x && (j == c)) a ∙ b) v e w f (λ x y. other_nat j c b y) (ap (λ x. (i == r) && (j == c) || x && (j == negative r)) e ∙ ap (λ x. (i == r) && (j == c) || v && x) f)
    by false a t b v e w f =
        mirrored ((i == r) && (j == c)) (ap (λ x. x && (j == c)) a) v e w f (λ x y. other_nat i r a x) (ap (λ x. (i == r) && (j == c) || x && (j == negative r)) e ∙ ap (λ x. (i == r) && (j == c) || v && x) f)

-- the two writes of a pair
pub pair_written : (bounds : List ℤ) (r c i j : ℕ) (v : ℤ) → length bounds ≡ 256 → r < 16 → c < 16 → i < 16 → j < 16 → entries_of (slice_set (slice_set bounds (16 * r + c) v) (16 * negative c + negative r) v) i j ≡ with_pair (entries_of bounds) r c v i j
pair_written bounds r c i j v room hr hc hi hj = by (pair_cases r c i j)
  where
    once : List ℤ
    once = slice_set bounds (16 * r + c) v

    twice : List ℤ
    twice = slice_set (slice_set bounds (16 * r + c) v) (16 * negative c + negative r) v

    room_once : length (slice_set bounds (16 * r + c) v) ≡ 256
    room_once = length-set bounds (16 * r + c) v ∙ room

    at_equal : (a b : ℕ) → a ≡ negative c → b ≡ negative r → entries_of (slice_set (slice_set bounds (16 * r + c) v) (16 * negative c + negative r) v) a b ≡ v
    at_equal a b e f =
        ap (λ x. entries_of (slice_set (slice_set bounds (16 * r + c) v) (16 * negative c + negative r) v) x b) e
        ∙ ap (λ x. entries_of (slice_set (slice_set bounds (16 * r + c) v) (16 * negative c + negative r) v) (negative c) x) f
        ∙ entry_written (slice_set bounds (16 * r + c) v) (negative c) (negative r) v room_once (omega arith) (omega arith)

    order : (x y : ℕ) → (x ≡ y) ⊎ (x ≢ y)
    order x y = near (which (x == y))
      where
        near : ((x == y) ≡ true) ⊎ ((x == y) ≡ false) → (x ≡ y) ⊎ (x ≢ y)
        near (inl t) = inl (same_nat x y t)
        near (inr f) = inr (other_nat x y f)

    at_self : (a b : ℕ) → a ≡ r → b ≡ c → entries_of (slice_set (slice_set bounds (16 * r + c) v) (16 * negative c + negative r) v) a b ≡ v
    at_self a b e f = self (order r (negative c)) (order c (negative r))
      where
        moved : entries_of (slice_set (slice_set bounds (16 * r + c) v) (16 * negative c + negative r) v) a b ≡ entries_of (slice_set (slice_set bounds (16 * r + c) v) (16 * negative c + negative r) v) r c
        moved = ap (λ x. entries_of (slice_set (slice_set bounds (16 * r + c) v) (16 * negative c + negative r) v) x b) e ∙ ap (λ x. entries_of (slice_set (slice_set bounds (16 * r + c) v) (16 * negative c + negative r) v) r x) f

        first : entries_of (slice_set bounds (16 * r + c) v) r c ≡ v
        first = entry_written bounds r c v room hr hc

        self : (r ≡ negative c) ⊎ (r ≢ negative c) → (c ≡ negative r) ⊎ (c ≢ negative r) → entries_of (slice_set (slice_set bounds (16 * r + c) v) (16 * negative c + negative r) v) a b ≡ v
        self (inl x) (inl y) = moved ∙ at_equal r c x y
        self (inr x) o = moved ∙ entry_kept (slice_set bounds (16 * r + c) v) (negative c) (negative r) r c v (omega arith) hc (λ p q. x p) ∙ first
        self o (inr y) = moved ∙ entry_kept (slice_set bounds (16 * r + c) v) (negative c) (negative r) r c v (omega arith) hc (λ p q. y q) ∙ first

    by : PairCases r c i j → entries_of (slice_set (slice_set bounds (16 * r + c) v) (16 * negative c + negative r) v) i j ≡ with_pair (entries_of bounds) r c v i j
    by (itself e f t) = at_self i j e f ∙ sym (ap (λ b. cond b v (entries_of bounds i j)) t)
    by (its_equal e f t) = at_equal i j e f ∙ sym (ap (λ b. cond b v (entries_of bounds i j)) t)
    by (apart ne ne' t) =
        entry_kept (slice_set bounds (16 * r + c) v) (negative c) (negative r) i j v (omega arith) hj ne'
        ∙ entry_kept bounds r c i j v hc hj ne
        ∙ sym (ap (λ b. cond b v (entries_of bounds i j)) t)

-- a pair is a pair of the other one
pub pair_mirrored : (r c i j : ℕ) → is_pair r c (negative j) (negative i) ≡ is_pair r c i j
pair_mirrored r c i j = by (pair_cases r c i j) (pair_cases r c (negative j) (negative i))
  where
    by : PairCases r c i j → PairCases r c (negative j) (negative i) → is_pair r c (negative j) (negative i) ≡ is_pair r c i j
    by (itself e f t) (apart ne ne' t') = absurd (ne' (omega arith) (omega arith))
    by (its_equal e f t) (apart ne ne' t') = absurd (ne (omega arith) (omega arith))
    by (apart ne ne' t) (itself e f t') = absurd (ne' (omega arith) (omega arith))
    by (apart ne ne' t) (its_equal e f t') = absurd (ne (omega arith) (omega arith))
    by (itself e f t) (itself e' f' t') = t' ∙ sym t
    by (itself e f t) (its_equal e' f' t') = t' ∙ sym t
    by (its_equal e f t) (itself e' f' t') = t' ∙ sym t
    by (its_equal e f t) (its_equal e' f' t') = t' ∙ sym t
    by (apart ne ne' t) (apart ne2 ne2' t') = t' ∙ sym t

-- a change of a pair off the diagonal, made by any function of the old entry
abbrev pub changed_pair : Entries → ℕ → ℕ → (ℤ → ℤ) → Entries
changed_pair m r c g i j = cond (is_pair r c i j) (g (m i j)) (m i j)

module _ (size r c : ℕ) (m : Entries) (g : ℤ → ℤ) (few : size ≤ 8) (matrix : IsMatrix size m) (hr : r < 2 * size) (hc : c < 2 * size) (different : r ≢ c) where
  pub changed_pair-proper : ((z : ℤ) → IsInRange z → IsInRange (g z)) → IsProper (2 * size) (changed_pair m r c g)
  changed_pair-proper keeps = record {
    diagonal = λ i hi. diagonal i hi (pair_cases r c i i);
    coherent = λ i j hi hj.
        ap (λ b. cond b (g (m (negative j) (negative i))) (m (negative j) (negative i))) (pair_mirrored r c i j)
        ∙ ap (λ z. cond (is_pair r c i j) (g z) z) (matrix.coherent i j (omega arith) (omega arith));
    in_range = λ i j hi hj. in_range i j hi hj (is_pair r c i j);
  }
    where
      diagonal : (i : ℕ) → i < 2 * size → PairCases r c i i → cond (is_pair r c i i) (g (m i i)) (m i i) ≡ pos 0
      diagonal i hi (itself e f t) = absurd (different (sym e ∙ f))
      diagonal i hi (its_equal e f t) = absurd (different (omega arith))
      diagonal i hi (apart ne ne' t) = rw t (matrix.diagonal i (omega arith))

      in_range : (i j : ℕ) → i < 2 * size → j < 2 * size → (b : Bool) → IsInRange (cond b (g (m i j)) (m i j))
      in_range i j hi hj true = keeps (m i j) (matrix.in_range i j (omega arith) (omega arith))
      in_range i j hi hj false = matrix.in_range i j (omega arith) (omega arith)

  -- it changes nothing outside
  pub pair_inside : (i j : ℕ) → 2 * size ≤ max i j → is_pair r c i j ≡ false
  pair_inside i j far = by (pair_cases r c i j)
    where
      by : PairCases r c i j → is_pair r c i j ≡ false
      by (itself e f t) = absurd (omega arith)
      by (its_equal e f t) = absurd (omega arith)
      by (apart ne ne' t) = t

-- so an octagon stays one
pub pair-octagon : (size r c : ℕ) (old new : List ℤ) (g : ℤ → ℤ) → IsOctagon size old → length new ≡ 256 → r < 2 * size → c < 2 * size → r ≢ c → ((z : ℤ) → IsInRange z → IsInRange (g z)) → ((i j : ℕ) → i < 16 → j < 16 → entries_of new i j ≡ changed_pair (entries_of old) r c g i j) → IsOctagon size new
pair-octagon size r c old new g is room hr hc different keeps changed =
    octagon-from size old new (changed_pair (entries_of old) r c g) is room
    (changed_pair-proper size r c (entries_of old) g is.few is.matrix hr hc different keeps)
    (λ i j hi hj. changed i j (omega (arith, is.few)) (omega (arith, is.few)))
    (λ i j hi hj far. changed i j hi hj ∙ ap (λ b. cond b (g (entries_of old i j)) (entries_of old i j)) (pair_inside size r c (entries_of old) g is.few is.matrix hr hc different i j far))

pub bound-in_range : (v : ℤ) → least_bound ≤ℤ v → v ≤ℤ greatest_bound → IsInRange v
bound-in_range v low high = record { low = low; high = λ b. high; most = omega (arith, ints, high) }

pub min-in_range : (v z : ℤ) → least_bound ≤ℤ v → v ≤ℤ greatest_bound → IsInRange z → IsInRange (int_min v z)
min-in_range v z low high h = record {
  low = omega (arith, ints, clamps, h.low, low);
  high = λ b. omega (arith, ints, clamps, high);
  most = omega (arith, ints, clamps, high);
}

-- a pass over its own rows and columns, as the code makes it
pub pass-octagon : (size count : ℕ) (old new : List ℤ) (f : Entries) → IsOctagon size old → length new ≡ 256 → IsProper (2 * size) f → count ≡ 2 * size → ((r c : ℕ) → r < count → c < count → entries_of new r c ≡ f r c) → ((r c : ℕ) → r < 16 → c < 16 → count ≤ max r c → entries_of new r c ≡ entries_of old r c) → IsOctagon size new
pass-octagon size count old new f is room proper same inside outside =
    octagon-from size old new f is room proper
    (λ r c hr hc. inside r c (omega (arith, same)) (omega (arith, same)))
    (λ r c hr hc far. outside r c hr hc (omega (arith, same)))
