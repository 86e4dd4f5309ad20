-- The cells that are left are those with a leaf that has no value.
use Rattle.std.proofs.Common.{◌≡◌, ℕ, zero, suc, ◌+◌, ◌*◌, ◌<◌, ◌≤◌, Bool, true, false, ◌&&◌, ◌||◌, nat_eq, nat_lt, cond, get_or, length, map, List, [], ◌∷◌, Option, Some, None, ◌⊎◌, inl, inr, refl, ap, sym, subst, ◌∙◌, true≢false, eqb-true, eq-eqb, ltb-true, arith, add-zero, zero-add}
use Rattle.std.specs.Prelude.{slice_get, Contains, ◌↔◌, ◌==◌, count_by}
use Rattle.std.specs.Option.{option_eq}
use Rattle.std.specs.List.{list_any}
use Rattle.std.proofs.lemmas.Option.{none-some}
use Rattle.std.proofs.lemmas.Bool.{eqb-false, lt-ltb}
use Rattle.std.proofs.lemmas.List.Sums.{sum_by-cons}
use Rattle.sp_ir.specs.Commands.{Leaf}
use Rattle.sp_ir.specs.Shapes.{Shape, leaf_count, leaf_cell}
use Rattle.sp_ir.specs.Formed.{LeafAt, HasValue}
use Rattle.sp_base_layouts.specs.Leaves.{cell_leaves, cells_left}
use Rattle.sp_base_layout_laws.specs.Zeros.{AreApart, AreLeaves, IsLeft, ZerosHold}
use Rattle.sp_base_layout_laws.proofs.Counts.{bit, not_eq, count_to, count-same, count-none, count-either, count-one, one_alone, fewer}
use Rattle.sp_base_layout_laws.proofs.CellCounts.{has_cell, cell_at, counts}

-- ---- what is left

abbrev tally : List ℕ → ℕ → ℕ
tally cells c = count_by (λ x. x == c) cells

-- the region of one number whose leaves are more than those with a value there
abbrev IsShort : List ℕ → ℕ → List ℕ → ℕ → Type 0
IsShort cells r ns c = (i : ℕ) × (c ≡ r + i) × (tally cells c < get_or ns i 0)

contains-cases : (x : ℕ) (xs : List ℕ) (y : ℕ) → Contains (x ∷ xs) y → (x ≡ y) ⊎ Contains xs y
contains-cases x xs y (zero, l, e) = inl e
contains-cases x xs y (suc i, l, e) = inr (i, omega (arith, l), e)

contains-more : (x : ℕ) (xs : List ℕ) (y : ℕ) → Contains xs y → Contains (x ∷ xs) y
contains-more x xs y h = let l : h.0 < length xs = h.1 in (suc h.0, omega (arith, l), h.2)

next : (cells : List ℕ) (r n : ℕ) (ns : List ℕ) (c : ℕ) → IsShort cells (r + 1) ns c → IsShort cells r (n ∷ ns) c
next cells r n ns c w = let is : c ≡ r + 1 + w.0 = w.1 in (suc w.0, omega (arith, is), w.2)

left-short : (cells : List ℕ) (r : ℕ) (ns : List ℕ) (c : ℕ) → Contains (cells_left cells r ns) c → IsShort cells r ns c
left-short cells r [] c h = let l : h.0 < 0 = h.1 in absurd (omega (arith, l))
left-short cells r (n ∷ ns) c h = by (nat_lt (tally cells r) n) refl h (λ g. next cells r n ns c (left-short cells (r + 1) ns c g))
  where
    at : nat_lt (tally cells r) n ≡ true → (Contains (cells_left cells (r + 1) ns) c → IsShort cells r (n ∷ ns) c) → (r ≡ c) ⊎ Contains (cells_left cells (r + 1) ns) c → IsShort cells r (n ∷ ns) c
    at e rest (inr k) = rest k
    at e rest (inl k) = (0, sym k ∙ sym (add-zero r), subst (λ x. tally cells x < n) k (ltb-true (tally cells r) n e))

    by : (b : Bool) → nat_lt (tally cells r) n ≡ b → Contains (cond b (r ∷ cells_left cells (r + 1) ns) (cells_left cells (r + 1) ns)) c
        → (Contains (cells_left cells (r + 1) ns) c → IsShort cells r (n ∷ ns) c) → IsShort cells r (n ∷ ns) c
    by false e g rest = rest g
    by true e g rest = at e rest (contains-cases r (cells_left cells (r + 1) ns) c g)

short-left : (cells : List ℕ) (r : ℕ) (ns : List ℕ) (c : ℕ) → IsShort cells r ns c → Contains (cells_left cells r ns) c
short-left cells r [] c w = let l : tally cells c < 0 = w.2 in absurd (omega (arith, l))
short-left cells r (n ∷ ns) c (zero, is, l) =
    let here : c ≡ r = is ∙ add-zero r in
    let low : tally cells r < n = subst (λ x. tally cells x < n) here l in
    subst (λ b. Contains (cond b (r ∷ cells_left cells (r + 1) ns) (cells_left cells (r + 1) ns)) c) (sym (lt-ltb (tally cells r) n low)) (0, omega arith, sym here)
short-left cells r (n ∷ ns) c (suc i, is, l) = by (nat_lt (tally cells r) n) (short-left cells (r + 1) ns c (i, omega (arith, is), l))
  where
    by : (b : Bool) → Contains (cells_left cells (r + 1) ns) c → Contains (cond b (r ∷ cells_left cells (r + 1) ns) (cells_left cells (r + 1) ns)) c
    by true rest = contains-more r (cells_left cells (r + 1) ns) c rest
    by false rest = rest

-- ---- the leaves with a value

abbrev has_value : List Leaf → ℕ → Bool
has_value values k = list_any (λ l. nat_eq l.number k) values

value-there : (values : List Leaf) (k : ℕ) → has_value values k ≡ true → HasValue values k
value-there [] k h = absurd (true≢false (sym h))
value-there (l ∷ ls) k h = by (nat_eq l.number k) refl h (value-there ls k)
  where
    by : (b : Bool) → nat_eq l.number k ≡ b → (b || has_value ls k) ≡ true → (has_value ls k ≡ true → HasValue ls k) → HasValue (l ∷ ls) k
    by true e g ih = (0, l, refl, eqb-true l.number k e)
    by false e g ih = let w = ih g in (suc w.0, w.1, w.2, w.3)

there-value : (values : List Leaf) (k : ℕ) → HasValue values k → has_value values k ≡ true
there-value [] k (i, l, e, is) = absurd (none-some l e)
there-value (x ∷ xs) k (zero, l, e, is) =
    let same : x ≡ l = cc in
    ap (λ b. b || has_value xs k) (eq-eqb x.number k (ap (λ (z : Leaf). z.number) same ∙ is))
there-value (x ∷ xs) k (suc i, l, e, is) = by (nat_eq x.number k) (there-value xs k (i, l, e, is))
  where
    by : (b : Bool) → has_value xs k ≡ true → (b || has_value xs k) ≡ true
    by true h = refl
    by false h = h

apart-rest : (x : Leaf) (xs : List Leaf) → AreApart (x ∷ xs) → AreApart xs
apart-rest x xs h i j l m a b e = let is : suc i ≡ suc j = h (suc i) (suc j) l m a b e in omega (arith, is)

-- none of the others is the first's leaf
first-alone : (x : Leaf) (xs : List Leaf) → AreApart (x ∷ xs) → has_value xs x.number ≡ true → ⊥
first-alone x xs h t =
    let w = value-there xs x.number t in
    let is : 0 ≡ suc w.0 = h 0 (suc w.0) x w.1 refl w.2 (sym w.3) in
    omega (arith, is)

some_is : (a b : ℕ) → Some a ≡ Some b → a ≡ b
some_is a b e = cc

same_test : (a b : Bool) → (a ≡ true → b ≡ true) → (b ≡ true → a ≡ true) → a ≡ b
same_test true b f g = sym (f refl)
same_test false true f g = g refl
same_test false false f g = refl

has_cell-is : (found : Option ℕ) (i : ℕ) → has_cell found i ≡ true → found ≡ Some i
has_cell-is None i h = absurd (true≢false (sym h))
has_cell-is (Some d) i h = ap Some (eqb-true d i h)

is-has_cell : (found : Option ℕ) (i : ℕ) → found ≡ Some i → has_cell found i ≡ true
is-has_cell None i h = absurd (none-some i h)
is-has_cell (Some d) i h = eq-eqb d i (some_is d i h)

-- its cell is the region behind the root just where it is the leaf's
cell-same : (s : Shape) (root i : ℕ) (l : Leaf) → LeafAt s root l.number l.cell → nat_eq l.cell (root + i) ≡ cell_at s i l.number
cell-same s root i l at =
    same_test (nat_eq l.cell (root + i)) (cell_at s i l.number)
    (λ e.
    let here : l.cell ≡ root + i = eqb-true l.cell (root + i) e in
    let there : l.cell ≡ root + at.0 = at.2 in
    let d : at.0 ≡ i = omega (arith, here, there) in
    is-has_cell (leaf_cell s l.number) i (at.1 ∙ ap Some d))
    (λ e.
    let d : at.0 ≡ i = some_is at.0 i (sym at.1 ∙ has_cell-is (leaf_cell s l.number) i e) in
    let there : l.cell ≡ root + at.0 = at.2 in
    eq-eqb l.cell (root + i) (omega (arith, d, there)))

-- one value more
and-or : (p e h : Bool) → (p && (e || h)) ≡ ((p && e) || (p && h))
and-or true e h = refl
and-or false e h = refl

never-both : (p e h : Bool) → (e ≡ true → h ≡ true → ⊥) → ((p && e) && (p && h)) ≡ false
never-both true true true f = absurd (f refl refl)
never-both true true false f = refl
never-both true false h f = refl
never-both false e h f = refl

tallied : (s : Shape) (root i : ℕ) (values : List Leaf) → AreApart values → AreLeaves s root values
    → tally (map (λ l. l.cell) values) (root + i) ≡ count_to (λ k. cell_at s i k && has_value values k) (leaf_count s)
tallied s root i [] apart leaves = sym (count-none (λ k. cell_at s i k && false) (leaf_count s) (λ k l. and-false (cell_at s i k)))
  where
    and-false : (b : Bool) → (b && false) ≡ false
    and-false true = refl
    and-false false = refl
tallied s root i (x ∷ xs) apart leaves =
    let n = leaf_count s in
    let p = cell_at s i in
    let own = leaves 0 x refl in
    let rest : tally (map (λ l. l.cell) xs) (root + i) ≡ count_to (λ k. p k && has_value xs k) n =
    tallied s root i xs (apart-rest x xs apart) (λ j l e. leaves (suc j) l e) in
    let head : bit (nat_eq x.cell (root + i)) ≡ bit (p x.number) = ap bit (cell-same s root i x own.1) in
    let one : count_to (λ k. p k && nat_eq x.number k) n ≡ bit (p x.number) = count-one p x.number n own.0 in
    let apart_here : (k : ℕ) → ((p k && nat_eq x.number k) && (p k && has_value xs k)) ≡ false =
    λ k. never-both (p k) (nat_eq x.number k) (has_value xs k) (λ e t. first-alone x xs apart (subst (λ j. has_value xs j ≡ true) (sym (eqb-true x.number k e)) t)) in
    let sum : count_to (λ k. (p k && nat_eq x.number k) || (p k && has_value xs k)) n ≡ count_to (λ k. p k && nat_eq x.number k) n + count_to (λ k. p k && has_value xs k) n =
    count-either (λ k. p k && nat_eq x.number k) (λ k. p k && has_value xs k) n apart_here in
    let same : count_to (λ k. p k && has_value (x ∷ xs) k) n ≡ count_to (λ k. (p k && nat_eq x.number k) || (p k && has_value xs k)) n =
    count-same (λ k. p k && has_value (x ∷ xs) k) (λ k. (p k && nat_eq x.number k) || (p k && has_value xs k)) n (λ k l. and-or (p k) (nat_eq x.number k) (has_value xs k)) in
    sum_by-cons (λ c. cond (c == (root + i)) 1 0) x.cell (map (λ l. l.cell) xs)
    ∙ ap (λ m. bit (nat_eq x.cell (root + i)) + m) rest
    ∙ ap (λ m. m + count_to (λ k. p k && has_value xs k) n) (head ∙ sym one)
    ∙ sym (same ∙ sum)

-- ---- the law

module _ (s : Shape) (root : ℕ) (values : List Leaf) (apart : AreApart values) (leaves : AreLeaves s root values) (c : ℕ) where
  abbrev cells : List ℕ
  cells = map (λ l. l.cell) values

  of-all : (i : ℕ) → get_or (cell_leaves 1 s) i 0 ≡ count_to (cell_at s i) (leaf_count s)
  of-all i = counts s 1 i ∙ one-times (count_to (cell_at s i) (leaf_count s))
    where
      one-times : (x : ℕ) → 1 * x ≡ x
      one-times x = omega arith

  short-is : IsShort cells root (cell_leaves 1 s) c → IsLeft s root values c
  short-is w =
      let low : tally cells c < get_or (cell_leaves 1 s) w.0 0 = w.2 in
      let here : tally cells c ≡ count_to (λ k. cell_at s w.0 k && has_value values k) (leaf_count s) =
      ap (tally cells) w.1 ∙ tallied s root w.0 values apart leaves in
      let v = one_alone (cell_at s w.0) (has_value values) (leaf_count s) (subst (λ m. m < count_to (cell_at s w.0) (leaf_count s)) here (subst (λ m. tally cells c < m) (of-all w.0) low)) in
      (v.0, v.1, (w.0, has_cell-is (leaf_cell s v.0) w.0 v.2, w.1), (λ h. true≢false (sym (there-value values v.0 h) ∙ v.3)))

  not_there : (k : ℕ) → (HasValue values k → ⊥) → has_value values k ≡ false
  not_there k f = by (has_value values k) refl
    where
      by : (b : Bool) → has_value values k ≡ b → has_value values k ≡ false
      by true e = absurd (f (value-there values k e))
      by false e = e

  is-short : IsLeft s root values c → IsShort cells root (cell_leaves 1 s) c
  is-short w =
      let k = w.0 in
      let i = w.2.0 in
      let some : count_to (λ j. cell_at s i j && has_value values j) (leaf_count s) < count_to (cell_at s i) (leaf_count s) =
      fewer (cell_at s i) (has_value values) (leaf_count s) k w.1 (is-has_cell (leaf_cell s k) i w.2.1) (not_there k w.3) in
      let here : tally cells c ≡ count_to (λ j. cell_at s i j && has_value values j) (leaf_count s) = ap (tally cells) w.2.2 ∙ tallied s root i values apart leaves in
      (i, w.2.2, subst (λ m. tally cells c < m) (sym (of-all i)) (subst (λ m. m < count_to (cell_at s i) (leaf_count s)) (sym here) some))

pub zeros_hold : ZerosHold
zeros_hold s root values apart leaves c = (
  (λ h. short-is s root values apart leaves c (left-short (map (λ l. l.cell) values) root (cell_leaves 1 s) c h)),
  (λ w. short-left (map (λ l. l.cell) values) root (cell_leaves 1 s) c (is-short s root values apart leaves c w)),
)
