-- Of each region of an object how many leaves it is the cell of.
use Rattle.std.proofs.Common.{◌≡◌, ℕ, zero, suc, ◌+◌, ◌-◌, ◌*◌, ◌<◌, ◌≤◌, ◌%◌, Bool, true, false, nat_eq, nat_lt, cond, get_or, length, List, [], ◌∷◌, ◌++◌, Option, Some, None, if◌then◌else◌, ◌⊎◌, inl, inr, refl, ap, sym, subst, ◌∙◌, true≢false, eqb-true, eq-eqb, ltb-true, arith, add-zero, zero-add}
use Rattle.std.specs.Prelude.{option_map}
use Rattle.std.specs.Option.{option_eq}
use Rattle.std.proofs.lemmas.Bool.{eqb-false, lt-ltb, le-ltb, ltb-false}
use Rattle.std.proofs.lemmas.List.{get_or_append_left, get_or-append-add, length-append}
use Rattle.std.proofs.Math.ListN.{get_or-eq_default}
use Rattle.std.proofs.Math.Nat.{mul_assoc}
use Rattle.sp_types.specs.Types.{CType}
use Rattle.sp_ir.specs.Shapes.{Shape, Shapes, scalar, floating_shape, union_of, array_of, struct_of, no_shapes, next_shape, is_floating_shape, region_count, member_region_count, leaf_count, member_leaf_count, leaf_cell, member_leaf_cell}
use Rattle.sp_base_layouts.specs.Leaves.{cell_leaves, member_cell_leaves}
use Rattle.sp_base_layout_laws.proofs.Counts.{bit, not_eq, count_to, count-same, count-none, count-all, count-sum, count-times}

-- the leaf of this number has the cell i
abbrev pub has_cell : Option ℕ → ℕ → Bool
has_cell found i = option_eq nat_eq found (Some i)

abbrev pub cell_at : Shape → ℕ → ℕ → Bool
cell_at s i k = has_cell (leaf_cell s k) i

abbrev pub member_at : Shapes → ℕ → ℕ → Bool
member_at ms i k = has_cell (member_leaf_cell ms k) i

abbrev behind : ℕ → Option ℕ → Option ℕ
behind w found = option_map (λ c. w + c) found

-- ---- cells that are moved by w

same_test : (a b : Bool) → (a ≡ true → b ≡ true) → (b ≡ true → a ≡ true) → a ≡ b
same_test true b f g = sym (f refl)
same_test false true f g = g refl
same_test false false f g = refl

moved-past : (w j : ℕ) (found : Option ℕ) → has_cell (behind w found) (w + j) ≡ has_cell found j
moved-past w j None = refl
moved-past w j (Some d) =
    same_test (nat_eq (w + d) (w + j)) (nat_eq d j)
    (λ e. let is : w + d ≡ w + j = eqb-true (w + d) (w + j) e in eq-eqb d j (omega (arith, is)))
    (λ e. let is : d ≡ j = eqb-true d j e in eq-eqb (w + d) (w + j) (omega (arith, is)))

moved-before : (w i : ℕ) (found : Option ℕ) → i < w → has_cell (behind w found) i ≡ false
moved-before w i None l = refl
moved-before w i (Some d) l = not_eq (w + d) i (λ e. omega (arith, e, l))

-- ---- how many regions

abbrev own : ℕ → Bool → Shape → List ℕ
own n b m = cond b [] (cell_leaves n m)

own-length : (n : ℕ) (b : Bool) (m : Shape) → length (cell_leaves n m) ≡ region_count m → length (own n b m) ≡ cond b 0 (region_count m)
own-length n true m h = refl
own-length n false m h = h

mutual
  long : (n : ℕ) (s : Shape) → length (cell_leaves n s) ≡ region_count s
  long n (scalar t z) = refl
  long n (floating_shape t z) = refl
  long n (union_of z first) = refl
  long n (array_of t z inner k) = let rest : length (cell_leaves (n * k) inner) ≡ region_count inner = long (n * k) inner in omega (arith, rest)
  long n (struct_of t z ms) = let rest : length (member_cell_leaves n ms) ≡ member_region_count ms = members-long n ms in omega (arith, rest)

  members-long : (n : ℕ) (ms : Shapes) → length (member_cell_leaves n ms) ≡ member_region_count ms
  members-long n no_shapes = refl
  members-long n (next_shape m ms) =
      length-append (own n (is_floating_shape m) m) (member_cell_leaves n ms)
      ∙ ap (λ x. x + length (member_cell_leaves n ms)) (own-length n (is_floating_shape m) m (long n m))
      ∙ ap (λ x. cond (is_floating_shape m) 0 (region_count m) + x) (members-long n ms)

-- ---- how many leaves

abbrev pub Counts : ℕ → Shape → Type 0
Counts n s = (i : ℕ) → get_or (cell_leaves n s) i 0 ≡ n * count_to (cell_at s i) (leaf_count s)

abbrev MemberCounts : ℕ → Shapes → Type 0
MemberCounts n ms = (i : ℕ) → get_or (member_cell_leaves n ms) i 0 ≡ n * count_to (member_at ms i) (member_leaf_count ms)

-- one cell, of so many leaves
one-cell : (n m i : ℕ) → get_or (n * m ∷ []) i 0 ≡ n * count_to (λ k. has_cell (Some 0) i) m
one-cell n m zero = ap (λ x. n * x) (sym (count-all (λ k. has_cell (Some 0) 0) m (λ k l. refl)))
one-cell n m (suc i) =
    let none : count_to (λ k. has_cell (Some 0) (suc i)) m ≡ 0 = count-none (λ k. has_cell (Some 0) (suc i)) m (λ k l. not_eq 0 (suc i) (λ e. omega (arith, e))) in
    sym (ap (λ x. n * x) none ∙ mul-zero n)
  where
    mul-zero : (n : ℕ) → n * 0 ≡ 0
    mul-zero n = omega arith

nothing : (n i m : ℕ) → get_or {A = ℕ} (0 ∷ []) i 0 ≡ n * count_to (λ k. false) m
nothing n i m =
    let none : count_to (λ k. false) m ≡ 0 = count-none (λ k. false) m (λ k l. refl) in
    empty i ∙ sym (ap (λ x. n * x) none ∙ mul-zero n)
  where
    empty : (i : ℕ) → get_or {A = ℕ} (0 ∷ []) i 0 ≡ 0
    empty zero = refl
    empty (suc i) = refl

    mul-zero : (n : ℕ) → n * 0 ≡ 0
    mul-zero n = omega arith

-- behind a region that is no cell
deeper : (n m i : ℕ) (ns : List ℕ) (found : ℕ → Option ℕ)
    → ((j : ℕ) → get_or ns j 0 ≡ n * count_to (λ k. has_cell (found k) j) m)
    → get_or (0 ∷ ns) i 0 ≡ n * count_to (λ k. has_cell (behind 1 (found k)) i) m
deeper n m zero ns found h =
    let none : count_to (λ k. has_cell (behind 1 (found k)) 0) m ≡ 0 = count-none (λ k. has_cell (behind 1 (found k)) 0) m (λ k l. moved-before 1 0 (found k) (omega arith)) in
    sym (ap (λ x. n * x) none ∙ mul-zero n)
  where
    mul-zero : (n : ℕ) → n * 0 ≡ 0
    mul-zero n = omega arith
deeper n m (suc i) ns found h =
    let same : count_to (λ k. has_cell (found k) i) m ≡ count_to (λ k. has_cell (behind 1 (found k)) (suc i)) m =
    count-same (λ k. has_cell (found k) i) (λ k. has_cell (behind 1 (found k)) (suc i)) m (λ k l. sym (past (found k))) in
    h i ∙ ap (λ x. n * x) same
  where
    past : (f : Option ℕ) → has_cell (behind 1 f) (suc i) ≡ has_cell f i
    past f = subst (λ j. has_cell (behind 1 f) j ≡ has_cell f i) one (moved-past 1 i f)
      where
        one : 1 + i ≡ suc i
        one = omega arith

-- a leaf of floating type has no cell
floats : (m : Shape) (i : ℕ) → is_floating_shape m ≡ true → count_to (cell_at m i) (leaf_count m) ≡ 0
floats (floating_shape t z) i h = count-none (λ k. false) 1 (λ k l. refl)
floats (scalar t z) i h = absurd (true≢false (sym h))
floats (union_of z first) i h = absurd (true≢false (sym h))
floats (array_of t z inner k) i h = absurd (true≢false (sym h))
floats (struct_of t z ms) i h = absurd (true≢false (sym h))

zero-times : (n x : ℕ) → x ≡ 0 → n * x ≡ 0
zero-times n x e = ap (λ y. n * y) e ∙ mul-zero n
  where
    mul-zero : (n : ℕ) → n * 0 ≡ 0
    mul-zero n = omega arith

one-times : (x : ℕ) → 1 * x ≡ x
one-times x = omega arith

not-below : (i w : ℕ) → nat_lt i w ≡ false → w ≤ i
not-below i w h = ltb-false i w h

-- a member that has cells, and those behind it
module _ (m : Shape) (ms : Shapes) (n i : ℕ) (first : Counts n m) (once : Counts 1 m) (rest : MemberCounts n ms) where
  abbrev w : ℕ
  w = region_count m

  abbrev xs : List ℕ
  xs = cell_leaves n m

  abbrev ys : List ℕ
  ys = member_cell_leaves n ms

  abbrev a : ℕ
  a = count_to (cell_at m i) (leaf_count m)

  abbrev z : ℕ
  z = count_to (λ k. has_cell (behind w (member_leaf_cell ms k)) i) (member_leaf_count ms)

  split-cells : (c : Bool) → nat_lt i w ≡ c → get_or (xs ++ ys) i 0 ≡ n * (a + z)
  split-cells true l =
      let low : i < w = ltb-true i w l in
      let size : length xs ≡ w = long n m in
      let inside : i < length xs = omega (arith, low, size) in
      let none : z ≡ 0 = count-none (λ k. has_cell (behind w (member_leaf_cell ms k)) i) (member_leaf_count ms) (λ k b. moved-before w i (member_leaf_cell ms k) low) in
      let sum : a ≡ a + z = omega (arith, none) in
      get_or_append_left xs ys 0 i inside ∙ first i ∙ ap (λ x. n * x) sum
  split-cells false l =
      let past : w ≤ i = not-below i w l in
      let size : length xs ≡ w = long n m in
      let single : length (cell_leaves 1 m) ≤ i = subst (λ x. x ≤ i) (sym (long 1 m)) past in
      let none : a ≡ 0 = sym (one-times a) ∙ sym (once i) ∙ get_or-eq_default (cell_leaves 1 m) 0 single in
      let j : ℕ = i - w in
      let is : i ≡ w + (i - w) = omega (arith, past) in
      let at : length xs + (i - w) ≡ i = omega (arith, size, past) in
      let there : get_or (xs ++ ys) i 0 ≡ get_or ys (i - w) 0 = ap (λ k. get_or (xs ++ ys) k 0) (sym at) ∙ get_or-append-add xs ys (i - w) 0 in
      let same : count_to (member_at ms (i - w)) (member_leaf_count ms) ≡ z =
      count-same (member_at ms (i - w)) (λ k. has_cell (behind w (member_leaf_cell ms k)) i) (member_leaf_count ms)
      (λ k b. sym (subst (λ x. has_cell (behind w (member_leaf_cell ms k)) x ≡ has_cell (member_leaf_cell ms k) (i - w)) (sym is) (moved-past w (i - w) (member_leaf_cell ms k)))) in
      let sum : z ≡ a + z = omega (arith, none) in
      there ∙ rest (i - w) ∙ ap (λ x. n * x) same ∙ ap (λ x. n * x) sum

-- a member and those behind it
split : (b : Bool) (m : Shape) (ms : Shapes) (n i : ℕ) → is_floating_shape m ≡ b → Counts n m → Counts 1 m → MemberCounts n ms
    → get_or (own n b m ++ member_cell_leaves n ms) i 0
    ≡ n * (count_to (cell_at m i) (leaf_count m) + count_to (λ k. has_cell (behind (cond b 0 (region_count m)) (member_leaf_cell ms k)) i) (member_leaf_count ms))
split true m ms n i e first once rest =
    let none : count_to (cell_at m i) (leaf_count m) ≡ 0 = floats m i e in
    let same : count_to (member_at ms i) (member_leaf_count ms) ≡ count_to (λ k. has_cell (behind 0 (member_leaf_cell ms k)) i) (member_leaf_count ms) =
    count-same (member_at ms i) (λ k. has_cell (behind 0 (member_leaf_cell ms k)) i) (member_leaf_count ms) (λ k l. sym (unmoved (member_leaf_cell ms k))) in
    let z = count_to (λ k. has_cell (behind 0 (member_leaf_cell ms k)) i) (member_leaf_count ms) in
    let sum : z ≡ count_to (cell_at m i) (leaf_count m) + z = omega (arith, none) in
    rest i ∙ ap (λ x. n * x) same ∙ ap (λ x. n * x) sum
  where
    unmoved : (f : Option ℕ) → has_cell (behind 0 f) i ≡ has_cell f i
    unmoved f = subst (λ j. has_cell (behind 0 f) j ≡ has_cell f i) (zero-add i) (moved-past 0 i f)
split false m ms n i e first once rest = split-cells m ms n i first once rest (nat_lt i (region_count m)) refl

mutual
  pub counts : (s : Shape) (n : ℕ) → Counts n s
  counts (scalar t z) n i = by i
    where
      by : (i : ℕ) → get_or (n ∷ []) i 0 ≡ n * count_to (λ k. has_cell (Some 0) i) 1
      by i = subst (λ x. get_or (x ∷ []) i 0 ≡ n * count_to (λ k. has_cell (Some 0) i) 1) one (one-cell n 1 i)
        where
          one : n * 1 ≡ n
          one = omega arith
  counts (floating_shape t z) n i = nothing n i 1
  counts (union_of z first) n i = one-cell n (leaf_count first) i
  counts (array_of t z inner m) n i =
      deeper n (m * leaf_count inner) i (cell_leaves (n * m) inner) (λ k. leaf_cell inner (k % leaf_count inner)) (λ j.
      counts inner (n * m) j
      ∙ mul_assoc n m (count_to (cell_at inner j) (leaf_count inner))
      ∙ ap (λ x. n * x) (sym (count-times (cell_at inner j) m (leaf_count inner))))
  counts (struct_of t z ms) n i = deeper n (member_leaf_count ms) i (member_cell_leaves n ms) (member_leaf_cell ms) (member-counts ms n)

  member-counts : (ms : Shapes) (n : ℕ) → MemberCounts n ms
  member-counts no_shapes n i = mul-zero n
    where
      mul-zero : (n : ℕ) → 0 ≡ n * 0
      mul-zero n = omega arith
  member-counts (next_shape m ms) n i =
      let c = leaf_count m in
      let w = cond (is_floating_shape m) 0 (region_count m) in
      let both : count_to (member_at (next_shape m ms) i) (c + member_leaf_count ms) ≡ count_to (member_at (next_shape m ms) i) c + count_to (λ k. member_at (next_shape m ms) i (c + k)) (member_leaf_count ms) =
      count-sum (member_at (next_shape m ms) i) c (member_leaf_count ms) in
      let first : count_to (member_at (next_shape m ms) i) c ≡ count_to (cell_at m i) c =
      count-same (member_at (next_shape m ms) i) (cell_at m i) c (λ k l. ap (λ b. has_cell (if b then leaf_cell m k else behind w (member_leaf_cell ms (k - c))) i) (lt-ltb k c l)) in
      let second : count_to (λ k. member_at (next_shape m ms) i (c + k)) (member_leaf_count ms) ≡ count_to (λ k. has_cell (behind w (member_leaf_cell ms k)) i) (member_leaf_count ms) =
      count-same (λ k. member_at (next_shape m ms) i (c + k)) (λ k. has_cell (behind w (member_leaf_cell ms k)) i) (member_leaf_count ms) (λ k l.
      let off : (c + k) - c ≡ k = omega arith in
      ap (λ b. has_cell (if b then leaf_cell m (c + k) else behind w (member_leaf_cell ms ((c + k) - c))) i) (le-ltb (c + k) c (omega arith))
      ∙ ap (λ j. has_cell (behind w (member_leaf_cell ms j)) i) off) in
      split (is_floating_shape m) m ms n i refl (counts m n) (counts m 1) (member-counts ms n)
      ∙ ap (λ x. n * x) (sym (both ∙ ap (λ x. x + count_to (λ k. member_at (next_shape m ms) i (c + k)) (member_leaf_count ms)) first ∙ ap (λ x. count_to (cell_at m i) c + x) second))
