-- Snapped entries are held, the join of held ones is, and of two held octagons the greater has the greater rank.
use Rattle.std.proofs.Common.{◌≡◌, ◌≢◌, ◌⊎◌, inl, inr, ℕ, zero, suc, ◌+◌, ◌*◌, ◌<◌, ◌≤◌, ◌==◌, Bool, true, false, cond, ◌&&◌, List, length, Contains, ℤ, pos, ◌+ℤ◌, ◌≤ℤ◌, ◌<ℤ◌, refl, sym, ap, ◌∙◌, subst, arith}
use Rattle.std.specs.Prelude.{int_lt, int_le}
use Rattle.std.specs.Int.{int_max}
use Rattle.std.proofs.Math.Nat.{mul-le-mul_right}
use Rattle.std.proofs.lemmas.Int.{ints, clamps}
use Rattle.std.proofs.lemmas.Bool.{false≢true}
use Rattle.std.proofs.lemmas.Bool.Decides.{nat_tests}
use Rattle.sp_lattice.specs.Ladder.{lowest, highest, snapped_up, IsLadder, points_below}
use Rattle.sp_lattice.specs.Bound.{sum_below}
use Rattle.sp_lattice.proofs.Snaps.{int_lt_true, int_lt_false, snapped_up_is, snapped_up_point, point_bounded}
use Rattle.sp_lattice.proofs.Counts.{points_below-le, points_below-lt, points_below-lt-length, points_below-le-length}
use Rattle.sp_octagon.specs.Entries.{Entries, unbounded, IsBound, half, doubled, negative}
use Rattle.sp_octagon.specs.Order.{Below, all_below, is_below, joined}
use Rattle.sp_octagon.specs.Changes.{snapped_bound, snapped_entries}
use Rattle.sp_octagon.specs.Held.{IsHeldBound, IsHeldDouble, IsHeld, bound_rank, double_rank, entry_rank, rank_of}
use Rattle.sp_octagon.proofs.Numbers.{below_or_not, half-is, half-le, half-double, negative_other}
use Rattle.sp_octagon.proofs.ChangeLaws.{SnapCases, past, onto, snap_cases, DoubleCases, none, twice, double_cases}

-- ---- snapped entries

snapped_bound-held : (points : List ℤ) (z : ℤ) → IsLadder points → IsHeldBound points (snapped_bound points z)
snapped_bound-held points z ladder = by (snap_cases points z ladder)
  where
    by : SnapCases points z → IsHeldBound points (snapped_bound points z)
    by (past h e) = inl e
    by (onto h e b) =
        let s = snapped_up_is points (int_max lowest z) ladder (omega (arith, ints, clamps), omega (arith, ints, clamps, h)) in
        inr (subst (λ (v : ℤ). Contains points v) (sym e) s.point)

doubled-held : (points : List ℤ) (z : ℤ) → IsLadder points → IsHeldDouble points (doubled (snapped_bound points z))
doubled-held points z ladder = by (snapped_bound-held points z ladder) (double_cases points z ladder)
  where
    by : IsHeldBound points (snapped_bound points z) → DoubleCases points z → IsHeldDouble points (doubled (snapped_bound points z))
    by h (none s e) = inl e
    by (inl e) (twice h f b) = absurd (omega (arith, ints, e, h))
    by (inr at) (twice h f b) = inr (snapped_bound points z, at, f)

eq_false : (r c : ℕ) → r ≢ c → (r == c) ≡ false
eq_false r c h = grind (arith, nat_tests)

eq_true : (r c : ℕ) → r ≡ c → (r == c) ≡ true
eq_true r c h = grind (arith, nat_tests)

pub snapped-held : (points : List ℤ) (count : ℕ) (m new : Entries) → IsLadder points → ((r c : ℕ) → r < count → c < count → new r c ≡ snapped_entries points m r c) → ((r : ℕ) → r < count → negative r < count) → IsHeld points count new
snapped-held points count m new ladder is closed = record {
  unary = λ r hr. subst (λ (v : ℤ). IsHeldDouble points v) (sym (is r (negative r) hr (closed r hr) ∙ unary r)) (doubled-held points (half (m r (negative r))) ladder);
  binary = λ r c hr hc other apart. subst (λ (v : ℤ). IsHeldBound points v) (sym (is r c hr hc ∙ binary r c other apart)) (snapped_bound-held points (m r c) ladder);
}
  where
    unary : (r : ℕ) → snapped_entries points m r (negative r) ≡ doubled (snapped_bound points (half (m r (negative r))))
    unary r = rw (eq_false r (negative r) (negative_other r), eq_true (negative r) (negative r) refl) refl

    binary : (r c : ℕ) → r ≢ c → c ≢ negative r → snapped_entries points m r c ≡ snapped_bound points (m r c)
    binary r c other apart = rw (eq_false r c other, eq_false c (negative r) apart) refl

-- what is held stays as it is
pub snapped-same : (points : List ℤ) (count : ℕ) (m : Entries) → IsLadder points → IsHeld points count m → (r c : ℕ) → r < count → c < count → snapped_entries points m r c ≡ m r c
snapped-same points count m ladder h r c hr hc = by (r == c) refl (c == negative r) refl
  where
    same : (i j : ℕ) → (i == j) ≡ true → i ≡ j
    same i j e = grind (arith, nat_tests)

    other : (i j : ℕ) → (i == j) ≡ false → i ≢ j
    other i j e = λ f. grind (arith, nat_tests)

    point : (p : ℤ) → Contains points p → snapped_bound points p ≡ p
    point p at =
        let b = point_bounded points p ladder at in
        let one : int_max lowest p ≡ p = omega (arith, ints, clamps, b.0) in
        let low : int_lt highest p ≡ false = int_lt_false highest p b.1 in
        ap (λ t. cond t unbounded (snapped_up points (int_max lowest p))) low ∙ ap (snapped_up points) one ∙ snapped_up_point points p ladder at

    bound : (z : ℤ) → IsHeldBound points z → snapped_bound points z ≡ z
    bound z (inl e) = rw e refl
    bound z (inr at) = point z at

    double : (z : ℤ) → IsHeldDouble points z → doubled (snapped_bound points (half z)) ≡ z
    double z (inl e) = rw e refl
    double z (inr (p, at, e)) =
        let b = point_bounded points p ladder at in
        let is : snapped_bound points (half z) ≡ p = ap (λ v. snapped_bound points (half v)) e ∙ ap (snapped_bound points) (half-double p) ∙ point p at in
        ap doubled is ∙ ap (λ t. cond t (p +ℤ p) unbounded) (int_lt_true p unbounded (omega (arith, ints, b.1))) ∙ sym e

    by : (s : Bool) → (r == c) ≡ s → (t : Bool) → (c == negative r) ≡ t → snapped_entries points m r c ≡ m r c
    by true e t f = rw e refl
    by false e true f =
        let p = same c (negative r) f in
        let held = subst (λ (k : ℕ). IsHeldDouble points (m r k)) (sym p) (h.unary r hr) in
        ap (λ s. cond s (m r c) (cond (c == negative r) (doubled (snapped_bound points (half (m r c)))) (snapped_bound points (m r c)))) e
        ∙ ap (λ t. cond t (doubled (snapped_bound points (half (m r c)))) (snapped_bound points (m r c))) f ∙ double (m r c) held
    by false e false f =
        ap (λ s. cond s (m r c) (cond (c == negative r) (doubled (snapped_bound points (half (m r c)))) (snapped_bound points (m r c)))) e
        ∙ ap (λ t. cond t (doubled (snapped_bound points (half (m r c)))) (snapped_bound points (m r c))) f
        ∙ bound (m r c) (h.binary r c hr hc (other r c e) (other c (negative r) f))

-- equal entries are held alike
pub held_equal : (points : List ℤ) (count : ℕ) (m new : Entries) → ((r c : ℕ) → r < count → c < count → new r c ≡ m r c) → ((r : ℕ) → r < count → negative r < count) → IsHeld points count m → IsHeld points count new
held_equal points count m new is closed h = record {
  unary = λ r hr. subst (λ (v : ℤ). IsHeldDouble points v) (sym (is r (negative r) hr (closed r hr))) (h.unary r hr);
  binary = λ r c hr hc other apart. subst (λ (v : ℤ). IsHeldBound points v) (sym (is r c hr hc)) (h.binary r c hr hc other apart);
}

-- ---- the join of held ones

pub joined-held : (points : List ℤ) (count : ℕ) (a b : Entries) → IsHeld points count a → IsHeld points count b → IsHeld points count (joined a b)
joined-held points count a b x y = record {
  unary = λ r hr. one (λ (v : ℤ). IsHeldDouble points v) (a r (negative r)) (b r (negative r)) (x.unary r hr) (y.unary r hr);
  binary = λ r c hr hc other apart. one (λ (v : ℤ). IsHeldBound points v) (a r c) (b r c) (x.binary r c hr hc other apart) (y.binary r c hr hc other apart);
}
  where
    one : (P : ℤ → Type 0) (v w : ℤ) → P v → P w → P (int_max v w)
    one P v w hv hw = by (int_lt w v)
      where
        by : (t : Bool) → P (cond t v w)
        by true = hv
        by false = hw

-- ---- ranks

bound_rank-is : (points : List ℤ) (z : ℤ) → IsBound z → bound_rank points z ≡ points_below points z
bound_rank-is points z h = rw (int_lt_true z unbounded h) refl

bound_rank-none : (points : List ℤ) (z : ℤ) → unbounded ≤ℤ z → bound_rank points z ≡ length points
bound_rank-none points z h = rw (int_lt_false z unbounded h) refl

bound_rank-le : (points : List ℤ) (y z : ℤ) → y ≤ℤ z → bound_rank points y ≤ bound_rank points z
bound_rank-le points y z le = by (below_or_not y unbounded) (below_or_not z unbounded)
  where
    by : (y <ℤ unbounded) ⊎ (unbounded ≤ℤ y) → (z <ℤ unbounded) ⊎ (unbounded ≤ℤ z) → bound_rank points y ≤ bound_rank points z
    by (inl h) (inl g) = omega (arith, bound_rank-is points y h, bound_rank-is points z g, points_below-le points y z le)
    by (inl h) (inr g) = omega (arith, bound_rank-is points y h, bound_rank-none points z g, points_below-le-length points y)
    by (inr h) (inl g) = absurd (omega (arith, ints, h, g, le))
    by (inr h) (inr g) = omega (arith, bound_rank-none points y h, bound_rank-none points z g)

bound_rank-lt : (points : List ℤ) (y z : ℤ) → IsHeldBound points y → y ≤ℤ unbounded → z ≤ℤ unbounded → y <ℤ z → bound_rank points y < bound_rank points z
bound_rank-lt points y z (inl e) most most' less = absurd (omega (arith, ints, e, most', less))
bound_rank-lt points y z (inr at) most most' less = by (below_or_not z unbounded)
  where
    h : IsBound y
    h = omega (arith, ints, less, most')

    by : (z <ℤ unbounded) ⊎ (unbounded ≤ℤ z) → bound_rank points y < bound_rank points z
    by (inl g) = omega (arith, bound_rank-is points y h, bound_rank-is points z g, points_below-lt points y z at less)
    by (inr g) = omega (arith, bound_rank-is points y h, bound_rank-none points z g, points_below-lt-length points y at)

double_rank-is : (points : List ℤ) (z : ℤ) → IsBound z → double_rank points z ≡ points_below points (half (z +ℤ pos 1))
double_rank-is points z h = rw (int_lt_true z unbounded h) refl

double_rank-none : (points : List ℤ) (z : ℤ) → unbounded ≤ℤ z → double_rank points z ≡ length points
double_rank-none points z h = rw (int_lt_false z unbounded h) refl

double_rank-le : (points : List ℤ) (y z : ℤ) → y ≤ℤ z → double_rank points y ≤ double_rank points z
double_rank-le points y z le = by (below_or_not y unbounded) (below_or_not z unbounded)
  where
    by : (y <ℤ unbounded) ⊎ (unbounded ≤ℤ y) → (z <ℤ unbounded) ⊎ (unbounded ≤ℤ z) → double_rank points y ≤ double_rank points z
    by (inl h) (inl g) = omega (arith, double_rank-is points y h, double_rank-is points z g, points_below-le points (half (y +ℤ pos 1)) (half (z +ℤ pos 1)) (half-le (y +ℤ pos 1) (z +ℤ pos 1) (omega (arith, ints, le))))
    by (inl h) (inr g) = omega (arith, double_rank-is points y h, double_rank-none points z g, points_below-le-length points (half (y +ℤ pos 1)))
    by (inr h) (inl g) = absurd (omega (arith, ints, h, g, le))
    by (inr h) (inr g) = omega (arith, double_rank-none points y h, double_rank-none points z g)

double_rank-lt : (points : List ℤ) (y z : ℤ) → IsHeldDouble points y → IsHeldDouble points z → y ≤ℤ unbounded → z ≤ℤ unbounded → y <ℤ z → double_rank points y < double_rank points z
double_rank-lt points y z (inl e) o most most' less = absurd (omega (arith, ints, e, most', less))
double_rank-lt points y z (inr (p, at, e)) o most most' less = by (below_or_not z unbounded) o
  where
    h : IsBound y
    h = omega (arith, ints, less, most')

    same : half (y +ℤ pos 1) ≡ p
    same = omega (arith, ints, e, half-is (y +ℤ pos 1))

    at_half : Contains points (half (y +ℤ pos 1))
    at_half = subst (λ (v : ℤ). Contains points v) (sym same) at

    by : (z <ℤ unbounded) ⊎ (unbounded ≤ℤ z) → IsHeldDouble points z → double_rank points y < double_rank points z
    by (inl g) (inl f) = absurd (omega (arith, ints, g, f))
    by (inl g) (inr (q, at', f)) =
        let same' : half (z +ℤ pos 1) ≡ q = omega (arith, ints, f, half-is (z +ℤ pos 1)) in
        let less' : half (y +ℤ pos 1) <ℤ half (z +ℤ pos 1) = omega (arith, ints, same, same', e, f, less) in
        omega (arith, double_rank-is points y h, double_rank-is points z g, points_below-lt points (half (y +ℤ pos 1)) (half (z +ℤ pos 1)) at_half less')
    by (inr g) o' = omega (arith, double_rank-is points y h, double_rank-none points z g, points_below-lt-length points (half (y +ℤ pos 1)) at_half)

-- of entries one below the other
entry_rank-le : (points : List ℤ) (a b : Entries) (r c : ℕ) → a r c ≤ℤ b r c → entry_rank points a r c ≤ entry_rank points b r c
entry_rank-le points a b r c le = by (r == c) (c == negative r)
  where
    by : (s t : Bool) → cond s 0 (cond t (double_rank points (a r c)) (bound_rank points (a r c))) ≤ cond s 0 (cond t (double_rank points (b r c)) (bound_rank points (b r c)))
    by true t = omega arith
    by false true = double_rank-le points (a r c) (b r c) le
    by false false = bound_rank-le points (a r c) (b r c) le

-- ---- sums

sum-le : (n : ℕ) (f g : ℕ → ℕ) → ((i : ℕ) → i < n → f i ≤ g i) → sum_below n f ≤ sum_below n g
sum-le zero f g h = omega arith
sum-le (suc n) f g h = omega (arith, sum-le n f g (λ i hi. h i (omega arith)), h n (omega arith))

sum-lt : (n : ℕ) (f g : ℕ → ℕ) → ((i : ℕ) → i < n → f i ≤ g i) → (k : ℕ) → k < n → f k < g k → sum_below n f < sum_below n g
sum-lt zero f g h k hk less = absurd (omega arith)
sum-lt (suc n) f g h k hk less = by (order k n) (λ low. sum-lt n f g (λ i hi. h i (omega arith)) k low less)
  where
    order : (x y : ℕ) → (x < y) ⊎ (y ≤ x)
    order x y = grind arith

    rest : sum_below n f ≤ sum_below n g
    rest = sum-le n f g (λ i hi. h i (omega arith))

    by : (k < n) ⊎ (n ≤ k) → (k < n → sum_below n f < sum_below n g) → sum_below (suc n) f < sum_below (suc n) g
    by (inl low) more = omega (arith, more low, h n (omega arith))
    by (inr high) more = let e : k ≡ n = omega arith in let last : f n < g n = subst (λ (i : ℕ). f i < g i) e less in omega (arith, rest, last)

-- a test that fails below n fails somewhere
pub record Fails (n : ℕ) (p : ℕ → Bool) : Type 0 where
  pub at : ℕ
  pub below : at < n
  pub fails : p at ≡ false

pub find_failing : (n : ℕ) (p : ℕ → Bool) → all_below n p ≡ false → Fails n p
find_failing zero p h = absurd (false≢true (sym h))
find_failing (suc n) p h = by (all_below n p) refl (find_failing n p)
  where
    by : (t : Bool) → all_below n p ≡ t → (all_below n p ≡ false → Fails n p) → Fails (suc n) p
    by true e rest = record { at = n; below = omega arith; fails = sym (ap (λ t. t && p n) e) ∙ h }
    by false e rest = let f = rest e in record { at = f.at; below = omega (arith, f.below); fails = f.fails }

-- ---- of two held ones the strictly greater has the greater rank

module _ (points : List ℤ) (count : ℕ) (a b : Entries) (x : IsHeld points count a) (y : IsHeld points count b) (below : Below count a b) (most : (r c : ℕ) → r < count → c < count → b r c ≤ℤ unbounded) (diagonal : (r : ℕ) → r < count → a r r ≡ b r r) where
  -- where one entry is strictly greater, so is its rank
  entry_rank-lt : (r c : ℕ) → r < count → c < count → a r c <ℤ b r c → entry_rank points a r c < entry_rank points b r c
  entry_rank-lt r c hr hc less = by (r == c) refl (c == negative r) refl
    where
      most_a : a r c ≤ℤ unbounded
      most_a = omega (arith, ints, below r c hr hc, most r c hr hc)

      same : (i j : ℕ) → (i == j) ≡ true → i ≡ j
      same i j h = grind (arith, nat_tests)

      other : (i j : ℕ) → (i == j) ≡ false → i ≢ j
      other i j h = λ e. grind (arith, nat_tests)

      by : (s : Bool) → (r == c) ≡ s → (t : Bool) → (c == negative r) ≡ t → entry_rank points a r c < entry_rank points b r c
      by true e t f =
          let p = same r c e in
          let d = diagonal r hr in
          let left : a r c ≡ a r r = ap (a r) (sym p) in
          let right : b r c ≡ b r r = ap (b r) (sym p) in
          absurd (omega (arith, ints, d, left, right, less))
      by false e true f =
          let p = same c (negative r) f in
          let held_a = subst (λ (k : ℕ). IsHeldDouble points (a r k)) (sym p) (x.unary r hr) in
          let held_b = subst (λ (k : ℕ). IsHeldDouble points (b r k)) (sym p) (y.unary r hr) in
          rw (e, f) (double_rank-lt points (a r c) (b r c) held_a held_b most_a (most r c hr hc) less)
      by false e false f =
          rw (e, f) (bound_rank-lt points (a r c) (b r c) (x.binary r c hr hc (other r c e) (other c (negative r) f)) most_a (most r c hr hc) less)

  pub rank-rises : is_below count b a ≡ false → rank_of points count a < rank_of points count b
  rank-rises strict =
      let row = find_failing count (λ r. all_below count (λ c. int_le (b r c) (a r c))) strict in
      let column = find_failing count (λ c. int_le (b row.at c) (a row.at c)) row.fails in
      let less : a row.at column.at <ℤ b row.at column.at = not_le (b row.at column.at) (a row.at column.at) column.fails in
      let one = entry_rank-lt row.at column.at row.below column.below less in
      let rest : (r : ℕ) → r < count → (c : ℕ) → c < count → entry_rank points a r c ≤ entry_rank points b r c = λ r hr c hc. entry_rank-le points a b r c (below r c hr hc) in
      let inner = sum-lt count (λ c. entry_rank points a row.at c) (λ c. entry_rank points b row.at c) (rest row.at row.below) column.at column.below one in
      let outer = sum-lt count (λ r. sum_below count (λ c. entry_rank points a r c)) (λ r. sum_below count (λ c. entry_rank points b r c))
      (λ r hr. sum-le count (λ c. entry_rank points a r c) (λ c. entry_rank points b r c) (rest r hr)) row.at row.below inner in
      omega (arith, outer)
    where
      not_le : (u v : ℤ) → int_le u v ≡ false → v <ℤ u
      not_le u v h = grind (arith, ints)

-- ---- no rank is past a bound

bound_rank-most : (points : List ℤ) (z : ℤ) → bound_rank points z ≤ length points
bound_rank-most points z = by (int_lt z unbounded)
  where
    by : (t : Bool) → cond t (points_below points z) (length points) ≤ length points
    by true = points_below-le-length points z
    by false = omega arith

double_rank-most : (points : List ℤ) (z : ℤ) → double_rank points z ≤ length points
double_rank-most points z = by (int_lt z unbounded)
  where
    by : (t : Bool) → cond t (points_below points (half (z +ℤ pos 1))) (length points) ≤ length points
    by true = points_below-le-length points (half (z +ℤ pos 1))
    by false = omega arith

entry_rank-most : (points : List ℤ) (m : Entries) (r c : ℕ) → entry_rank points m r c ≤ length points
entry_rank-most points m r c = by (r == c) (c == negative r)
  where
    by : (s t : Bool) → cond s 0 (cond t (double_rank points (m r c)) (bound_rank points (m r c))) ≤ length points
    by true t = omega arith
    by false true = double_rank-most points (m r c)
    by false false = bound_rank-most points (m r c)

sum-most : (n t : ℕ) (f : ℕ → ℕ) → ((i : ℕ) → i < n → f i ≤ t) → sum_below n f ≤ n * t
sum-most zero t f h = omega arith
sum-most (suc n) t f h = let more = sum-most n t f (λ i hi. h i (omega arith)) in let last = h n (omega arith) in let e : suc n * t ≡ n * t + t = grind arith in omega arith

-- less one, where one of them is 0
sum-most_less : (n t : ℕ) (f : ℕ → ℕ) (k : ℕ) → k < n → f k ≡ 0 → ((i : ℕ) → i < n → f i ≤ t) → sum_below n f + t ≤ n * t
sum-most_less zero t f k hk nought h = absurd (omega arith)
sum-most_less (suc n) t f k hk nought h = by (order k n) (λ low. sum-most_less n t f k low nought (λ i hi. h i (omega arith)))
  where
    order : (x y : ℕ) → (x < y) ⊎ (y ≤ x)
    order x y = grind arith

    product : suc n * t ≡ n * t + t
    product = grind arith

    by : (k < n) ⊎ (n ≤ k) → (k < n → sum_below n f + t ≤ n * t) → sum_below (suc n) f + t ≤ suc n * t
    by (inl low) rest = let more = rest low in let last = h n (omega arith) in omega (arith, product)
    by (inr high) rest =
        let same : k ≡ n = omega arith in
        let last : f n ≡ 0 = ap f (sym same) ∙ nought in
        let more = sum-most n t f (λ i hi. h i (omega arith)) in
        omega (arith, product)

-- sixteen rows of fifteen entries off the diagonal are the most
pub rank-most : (points : List ℤ) (count : ℕ) (m : Entries) → count ≤ 16 → rank_of points count m ≤ 1 + 240 * length points
rank-most points count m few =
    let t = length points in
    let rows = sum-most count (15 * length points) (λ r. sum_below count (λ c. entry_rank points m r c)) one_row in
    let all = mul-le-mul_right (15 * length points) few in
    omega arith
  where
    one_row : (r : ℕ) → r < count → sum_below count (λ c. entry_rank points m r c) ≤ 15 * length points
    one_row r hr =
        let nought : entry_rank points m r r ≡ 0 = ap (λ b. cond b 0 (cond (r == negative r) (double_rank points (m r r)) (bound_rank points (m r r)))) (eq_true r r refl) in
        let row = sum-most_less count (length points) (λ c. entry_rank points m r c) r hr nought (λ c hc. entry_rank-most points m r c) in
        let wide = mul-le-mul_right (length points) few in
        omega arith
