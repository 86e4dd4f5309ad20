-- Octagons made from entries. A list of bounds becomes an octagon where it passes the test of
-- what every octagon keeps, so that the functions of octagons need no premise.
use Rattle.std.specs.Prelude.{◌≡◌, ℕ, zero, suc, ◌*◌, ◌/◌, ◌%◌, ◌<◌, ◌≤◌, max, ◌==◌, Bool, true, false, ◌&&◌, ◌||◌, if◌then◌else◌, nat_lt, nat_le, List, [], ◌∷◌, length, ℤ, pos, ◌≤ℤ◌, int_le}
use Rattle.std.specs.Ordering.{int_eq}
use Rattle.std.proofs.Common.{refl, ap, ◌∙◌, ◌⊎◌, inl, inr, ◌≢◌, arith}
use Rattle.std.proofs.lemmas.Int.{ints}
use Rattle.std.proofs.lemmas.Bool.{false≢true}
use Rattle.std.proofs.lemmas.Bool.Decides.{nat_tests}
use Rattle.sp_lattice.proofs.Snaps.{same_int, le_from_int_le}
use Rattle.sp_octagon.specs.declared.octagon.Octagon.{Octagon}
use Rattle.sp_octagon.specs.Entries.{Entries, unbounded, least_bound, greatest_bound, negative, entries_of}
use Rattle.sp_octagon.specs.Facts.{IsInRange, IsMatrix, IsOctagon}
use Rattle.sp_octagon.specs.Octagons.{rows, entries}

-- ---- entries as a list of 16 rows of 16

-- f 0 to f (n - 1)
unfoldable pub listed : ℕ → (ℕ → ℤ) → List ℤ
listed zero f = []
listed (suc n) f = f 0 ∷ listed n (λ k. f (suc k))

unfoldable pub bounds_of : Entries → List ℤ
bounds_of m = listed 256 (λ k. m (k / 16) (k % 16))

-- f in the first `count` rows and columns, and old elsewhere
unfoldable pub inside : ℕ → Entries → Entries → Entries
inside count old f r c = if nat_lt r count && nat_lt c count then f r c else old r c

-- ---- the test of what every octagon keeps

-- p holds of every number below n
unfoldable pub every : ℕ → (ℕ → Bool) → Bool
every zero p = true
every (suc n) p = every n p && p n

abbrev pub in_range : ℤ → Bool
in_range z = int_le least_bound z && (int_le z greatest_bound || int_eq z unbounded)

abbrev pub entry_fits : ℕ → Entries → ℕ → ℕ → Bool
entry_fits size m r c =
    int_eq (m (negative c) (negative r)) (m r c) && in_range (m r c)
    && (nat_lt (max r c) (2 * size) || r == c || int_eq (m r c) unbounded)

abbrev pub row_fits : ℕ → Entries → ℕ → Bool
row_fits size m r = int_eq (m r r) (pos 0) && every 16 (entry_fits size m r)

abbrev pub is_octagon : ℕ → List ℤ → Bool
is_octagon size bounds =
    nat_le 2 size && nat_le size 8 && length bounds == 256
    && every 16 (row_fits size (entries_of bounds))

-- ---- a list that passes it makes an octagon

parts : (a b : Bool) → (a && b) ≡ true → (a ≡ true) × (b ≡ true)
parts true b h = (refl, h)
parts false b h = absurd (false≢true h)

either : (a b : Bool) → (a || b) ≡ true → (a ≡ true) ⊎ (b ≡ true)
either true b h = inl refl
either false b h = inr h

pub every-at : (n : ℕ) (p : ℕ → Bool) → every n p ≡ true → (k : ℕ) → k < n → p k ≡ true
unfolding every
every-at zero p h k hk = absurd (omega arith)
every-at (suc n) p h k hk = by (order k n) (parts (every n p) (p n) h) (every-at n p)
  where
    order : (x y : ℕ) → (x < y) ⊎ (y ≤ x)
    order x y = grind arith

    by : (k < n) ⊎ (n ≤ k) → (every n p ≡ true) × (p n ≡ true) → (every n p ≡ true → (i : ℕ) → i < n → p i ≡ true) → p k ≡ true
    by (inl low) t below = below t.0 k low
    by (inr high) t below = let same : k ≡ n = omega arith in ap p same ∙ t.1

range_from_test : (z : ℤ) → in_range z ≡ true → IsInRange z
range_from_test z h = by (parts (int_le least_bound z) (int_le z greatest_bound || int_eq z unbounded) h)
  where
    by : (int_le least_bound z ≡ true) × ((int_le z greatest_bound || int_eq z unbounded) ≡ true) → IsInRange z
    by t = at (le_from_int_le least_bound z t.0) (either (int_le z greatest_bound) (int_eq z unbounded) t.1)
      where
        at : least_bound ≤ℤ z → (int_le z greatest_bound ≡ true) ⊎ (int_eq z unbounded ≡ true) → IsInRange z
        at low (inl small) =
            let high = le_from_int_le z greatest_bound small in
            record { low = low; high = λ b. high; most = omega (arith, ints, high) }
        at low (inr none) =
            let same = same_int z unbounded none in
            record { low = low; high = λ b. absurd (omega (arith, ints, same, b)); most = omega (arith, ints, same) }

matrix_from_test : (size : ℕ) (m : Entries) → every 16 (row_fits size m) ≡ true → IsMatrix size m
matrix_from_test size m h = record {
  diagonal = λ r hr. same_int (m r r) (pos 0) (row r hr).0;
  coherent = λ r c hr hc. same_int (m (negative c) (negative r)) (m r c) (cell r c hr hc).0;
  in_range = λ r c hr hc. range_from_test (m r c) (parts (in_range (m r c)) (far r c) (cell r c hr hc).1).0;
  outside = λ r c hr hc past other. none r c past other (parts (in_range (m r c)) (far r c) (cell r c hr hc).1).1;
}
  where
    far : ℕ → ℕ → Bool
    far r c = nat_lt (max r c) (2 * size) || r == c || int_eq (m r c) unbounded

    row : (r : ℕ) → r < 16 → (int_eq (m r r) (pos 0) ≡ true) × (every 16 (entry_fits size m r) ≡ true)
    row r hr = parts (int_eq (m r r) (pos 0)) (every 16 (entry_fits size m r)) (every-at 16 (row_fits size m) h r hr)

    cell : (r c : ℕ) → r < 16 → c < 16 → (int_eq (m (negative c) (negative r)) (m r c) ≡ true) × ((in_range (m r c) && far r c) ≡ true)
    cell r c hr hc = let at = every-at 16 (entry_fits size m r) (row r hr).1 c hc in
        regroup (int_eq (m (negative c) (negative r)) (m r c)) (in_range (m r c)) (far r c) at
      where
        regroup : (x y z : Bool) → ((x && y) && z) ≡ true → (x ≡ true) × ((y && z) ≡ true)
        regroup true true z e = (refl, e)
        regroup true false z e = absurd (false≢true e)
        regroup false y z e = absurd (false≢true e)

    none : (r c : ℕ) → 2 * size ≤ max r c → r ≢ c → far r c ≡ true → m r c ≡ unbounded
    none r c past other t = by (either (nat_lt (max r c) (2 * size) || r == c) (int_eq (m r c) unbounded) t)
      where
        not_here : (a b : ℕ) → b ≤ a → nat_lt a b ≡ true → ⊥
        not_here a b le e = grind (arith, nat_tests)

        same : (a b : ℕ) → (a == b) ≡ true → a ≡ b
        same a b e = grind (arith, nat_tests)

        first : (nat_lt (max r c) (2 * size) ≡ true) ⊎ ((r == c) ≡ true) → m r c ≡ unbounded
        first (inl e) = absurd (not_here (max r c) (2 * size) past e)
        first (inr e) = absurd (other (same r c e))

        by : ((nat_lt (max r c) (2 * size) || r == c) ≡ true) ⊎ (int_eq (m r c) unbounded ≡ true) → m r c ≡ unbounded
        by (inl e) = first (either (nat_lt (max r c) (2 * size)) (r == c) e)
        by (inr e) = same_int (m r c) unbounded e

pub octagon_from_test : (size : ℕ) (bounds : List ℤ) → is_octagon size bounds ≡ true → IsOctagon size bounds
octagon_from_test size bounds h =
    let last = parts (nat_le 2 size && nat_le size 8 && length bounds == 256) (every 16 (row_fits size (entries_of bounds))) h in
    let room = parts (nat_le 2 size && nat_le size 8) (length bounds == 256) last.0 in
    let sizes = parts (nat_le 2 size) (nat_le size 8) room.0 in
    record { some = le 2 size sizes.0; few = le size 8 sizes.1; room = same (length bounds) 256 room.1; matrix = matrix_from_test size (entries_of bounds) last.1 }
  where
    le : (a b : ℕ) → nat_le a b ≡ true → a ≤ b
    le a b e = grind (arith, nat_tests)

    same : (a b : ℕ) → (a == b) ≡ true → a ≡ b
    same a b e = grind (arith, nat_tests)

unfoldable pub made_by : (o : Octagon) (bounds : List ℤ) (t : Bool) → is_octagon o.size bounds ≡ t → Octagon
made_by o bounds true h = record { size = o.size; bounds = bounds; facts = octagon_from_test o.size bounds h }
made_by o bounds false h = o

-- the octagon of o's size that has the entries f in its rows and columns; o itself where there is
-- none
unfoldable pub with_entries : Octagon → Entries → Octagon
with_entries o f =
    let bounds = bounds_of (inside (rows o) (entries o) f) in
    made_by o bounds (is_octagon o.size bounds) refl
