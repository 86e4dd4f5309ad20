-- An octagon with given entries: where these are proper it has them, and so each function on octagons does.
use Rattle.std.proofs.Common.{◌≡◌, ◌≢◌, ◌⊎◌, inl, inr, ℕ, zero, suc, ◌+◌, ◌*◌, ◌/◌, ◌%◌, ◌<◌, ◌≤◌, max, ◌==◌, ◌||◌, Bool, true, false, cond, ◌&&◌, List, [], ◌∷◌, length, get_or, ℤ, pos, ◌≤ℤ◌, ◌<ℤ◌, refl, ap, ◌∙◌, arith}
use Rattle.std.specs.Prelude.{nat_lt, nat_le, int_le}
use Rattle.std.specs.Ordering.{int_eq}
use Rattle.std.proofs.lemmas.Int.{ints}
use Rattle.std.proofs.lemmas.Bool.{false≢true}
use Rattle.std.proofs.lemmas.Bool.Decides.{nat_tests, Decides-int_eq}
use Rattle.sp_lattice.proofs.Snaps.{int_le_true}
use Rattle.sp_octagon.specs.declared.octagon.Octagon.{Octagon}
use Rattle.sp_octagon.specs.Entries.{Entries, unbounded, least_bound, greatest_bound, negative, entries_of}
use Rattle.sp_octagon.specs.Facts.{IsInRange, IsMatrix, IsOctagon}
use Rattle.sp_octagon.specs.Octagons.{rows, entries, Becomes}
use Rattle.sp_octagon.specs.Made.{listed, bounds_of, inside, every, in_range, entry_fits, row_fits, is_octagon, made_by, with_entries}
use Rattle.sp_octagon.proofs.Numbers.{below_or_not}
use Rattle.sp_octagon.proofs.Closures.{IsProper}
use Rattle.sp_octagon.proofs.Matrices.{matrix-from}
use Rattle.sp_octagon.proofs.OrderLaws.{becomes_unique}

-- ---- entries as a list

pub listed-zero : (f : ℕ → ℤ) → listed 0 f ≡ []
unfolding listed
listed-zero f = refl

pub listed-suc : (n : ℕ) (f : ℕ → ℤ) → listed (suc n) f ≡ f 0 ∷ listed n (λ k. f (suc k))
unfolding listed
listed-suc n f = refl

pub listed-length : (n : ℕ) (f : ℕ → ℤ) → length (listed n f) ≡ n
listed-length zero f = ap length (listed-zero f)
listed-length (suc n) f = ap length (listed-suc n f) ∙ ap suc (listed-length n (λ k. f (suc k)))

pub listed-at : (n : ℕ) (f : ℕ → ℤ) (k : ℕ) (d : ℤ) → k < n → get_or (listed n f) k d ≡ f k
listed-at zero f k d h = absurd (omega arith)
listed-at (suc n) f zero d h = ap (λ xs. get_or xs 0 d) (listed-suc n f)
listed-at (suc n) f (suc k) d h = ap (λ xs. get_or xs (suc k) d) (listed-suc n f) ∙ listed-at n (λ i. f (suc i)) k d (omega arith)

pub bounds_of-at : (m : Entries) (r c : ℕ) → r < 16 → c < 16 → entries_of (bounds_of m) r c ≡ m r c
unfolding bounds_of
bounds_of-at m r c hr hc =
    let row : (16 * r + c) / 16 ≡ r = omega arith in
    let column : (16 * r + c) % 16 ≡ c = omega arith in
    listed-at 256 (λ k. m (k / 16) (k % 16)) (16 * r + c) unbounded (omega arith)
    ∙ ap (λ i. m i ((16 * r + c) % 16)) row ∙ ap (m r) column

pub bounds_of-length : (m : Entries) → length (bounds_of m) ≡ 256
unfolding bounds_of
bounds_of-length m = listed-length 256 (λ k. m (k / 16) (k % 16))

inside-in : (count : ℕ) (old f : Entries) (r c : ℕ) → r < count → c < count → inside count old f r c ≡ f r c
unfolding inside
inside-in count old f r c hr hc =
    let row : nat_lt r count ≡ true = grind (arith, nat_tests) in
    let column : nat_lt c count ≡ true = grind (arith, nat_tests) in
    rw (row, column) refl

inside-out : (count : ℕ) (old f : Entries) (r c : ℕ) → count ≤ max r c → inside count old f r c ≡ old r c
unfolding inside
inside-out count old f r c far = by (nat_lt r count) refl (nat_lt c count) refl
  where
    low : (x : ℕ) → nat_lt x count ≡ true → x < count
    low x h = grind (arith, nat_tests)

    by : (s : Bool) → nat_lt r count ≡ s → (t : Bool) → nat_lt c count ≡ t → cond (nat_lt r count && nat_lt c count) (f r c) (old r c) ≡ old r c
    by true e true g = let p = low r e in let q = low c g in absurd (omega arith)
    by true e false g = rw (e, g) refl
    by false e t g = rw e refl

-- ---- what is an octagon's passes the test

both : (a b : Bool) → a ≡ true → b ≡ true → (a && b) ≡ true
both true b h g = g
both false b h g = h

every-from : (n : ℕ) (p : ℕ → Bool) → ((k : ℕ) → k < n → p k ≡ true) → every n p ≡ true
unfolding every
every-from zero p h = refl
every-from (suc n) p h = both (every n p) (p n) (every-from n p (λ k hk. h k (omega arith))) (h n (omega arith))

test_from_range : (z : ℤ) → IsInRange z → in_range z ≡ true
test_from_range z h = both (int_le least_bound z) (int_le z greatest_bound || int_eq z unbounded) (int_le_true least_bound z h.low) (by (below_or_not z unbounded))
  where
    or_right : (a b : Bool) → b ≡ true → (a || b) ≡ true
    or_right true b e = refl
    or_right false b e = e

    or_left : (a b : Bool) → a ≡ true → (a || b) ≡ true
    or_left true b e = refl
    or_left false b e = absurd (false≢true e)

    by : (z <ℤ unbounded) ⊎ (unbounded ≤ℤ z) → (int_le z greatest_bound || int_eq z unbounded) ≡ true
    by (inl b) = or_left (int_le z greatest_bound) (int_eq z unbounded) (int_le_true z greatest_bound (h.high b))
    by (inr n) = or_right (int_le z greatest_bound) (int_eq z unbounded) ((Decides-int_eq z unbounded).1 (omega (arith, ints, n, h.most)))

entry_test : (size : ℕ) (m : Entries) → IsMatrix size m → (r c : ℕ) → r < 16 → c < 16 → entry_fits size m r c ≡ true
entry_test size m h r c hr hc =
    both (int_eq (m (negative c) (negative r)) (m r c) && in_range (m r c)) (nat_lt (max r c) (2 * size) || r == c || int_eq (m r c) unbounded)
    (both (int_eq (m (negative c) (negative r)) (m r c)) (in_range (m r c)) ((Decides-int_eq (m (negative c) (negative r)) (m r c)).1 (h.coherent r c hr hc)) (test_from_range (m r c) (h.in_range r c hr hc)))
    (by (nat_lt (max r c) (2 * size)) refl (r == c) refl)
  where
    far : (a b : ℕ) → nat_lt a b ≡ false → b ≤ a
    far a b e = grind (arith, nat_tests)

    other : (a b : ℕ) → (a == b) ≡ false → a ≢ b
    other a b e = λ f. grind (arith, nat_tests)

    by : (s : Bool) → nat_lt (max r c) (2 * size) ≡ s → (t : Bool) → (r == c) ≡ t → (s || t || int_eq (m r c) unbounded) ≡ true
    by true e t f = refl
    by false e true f = refl
    by false e false f = (Decides-int_eq (m r c) unbounded).1 (h.outside r c hr hc (far (max r c) (2 * size) e) (other r c f))

pub test_from_octagon : (size : ℕ) (bounds : List ℤ) → IsOctagon size bounds → is_octagon size bounds ≡ true
test_from_octagon size bounds h =
    both (nat_le 2 size && nat_le size 8 && length bounds == 256) (every 16 (row_fits size (entries_of bounds)))
    (both (nat_le 2 size && nat_le size 8) (length bounds == 256) (both (nat_le 2 size) (nat_le size 8) (le 2 size h.some) (le size 8 h.few)) (same (length bounds) 256 h.room))
    (every-from 16 (row_fits size (entries_of bounds)) (λ r hr.
    both (int_eq (entries_of bounds r r) (pos 0)) (every 16 (entry_fits size (entries_of bounds) r)) ((Decides-int_eq (entries_of bounds r r) (pos 0)).1 (h.matrix.diagonal r hr))
    (every-from 16 (entry_fits size (entries_of bounds) r) (λ c hc. entry_test size (entries_of bounds) h.matrix r c hr hc))))
  where
    le : (a b : ℕ) → a ≤ b → nat_le a b ≡ true
    le a b e = grind (arith, nat_tests)

    same : (a b : ℕ) → a ≡ b → (a == b) ≡ true
    same a b e = grind (arith, nat_tests)

-- ---- an octagon with proper entries

made-octagon : (o : Octagon) (f : Entries) → IsProper (rows o) f → IsOctagon o.size (bounds_of (inside (rows o) (entries o) f))
made-octagon o f proper = record {
  some = o.facts.some;
  few = o.facts.few;
  room = bounds_of-length (inside (rows o) (entries o) f);
  matrix = matrix-from o.size (entries o) (entries_of (bounds_of (inside (rows o) (entries o) f))) f o.facts.few o.facts.matrix proper
      (λ r c hr hc. bounds_of-at (inside (rows o) (entries o) f) r c (omega (arith, o.facts.few)) (omega (arith, o.facts.few)) ∙ inside-in (rows o) (entries o) f r c hr hc)
      (λ r c hr hc far. bounds_of-at (inside (rows o) (entries o) f) r c hr hc ∙ inside-out (rows o) (entries o) f r c far);
}

record Made (o : Octagon) (bounds : List ℤ) (new : Octagon) : Type 0 where
  size : new.size ≡ o.size
  is : new.bounds ≡ bounds

made_by-is : (o : Octagon) (bounds : List ℤ) (t : Bool) (h : is_octagon o.size bounds ≡ t) → t ≡ true → Made o bounds (made_by o bounds t h)
unfolding made_by
made_by-is o bounds true h e = record { size = refl; is = refl }
made_by-is o bounds false h e = absurd (false≢true e)

pub with_entries-becomes : (o : Octagon) (f : Entries) → IsProper (rows o) f → Becomes o (with_entries o f) f
unfolding with_entries
with_entries-becomes o f proper =
    let bounds = bounds_of (inside (rows o) (entries o) f) in
    let made = made_by-is o bounds (is_octagon o.size bounds) refl (test_from_octagon o.size bounds (made-octagon o f proper)) in
    record {
      size = made.size;
      entries_are = λ r c hr hc. ap (λ xs. entries_of xs r c) made.is
          ∙ bounds_of-at (inside (rows o) (entries o) f) r c (omega (arith, o.facts.few)) (omega (arith, o.facts.few)) ∙ inside-in (rows o) (entries o) f r c hr hc;
    }

-- what a call gives is it
pub becomes_made : (o new : Octagon) (f : Entries) → IsProper (rows o) f → Becomes o new f → new ≡ with_entries o f
becomes_made o new f proper is = becomes_unique o new (with_entries o f) f is (with_entries-becomes o f proper)
