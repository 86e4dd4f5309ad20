-- What is kept of an octagon tells it again.
use Rattle.std.proofs.Common.{◌≡◌, ◌≢◌, ◌⊎◌, inl, inr, ℕ, zero, suc, ◌+◌, ◌*◌, ◌<◌, ◌≤◌, max, ◌==◌, Bool, true, false, cond, List, [], ◌∷◌, ◌++◌, length, get_or, ℤ, pos, refl, sym, ap, ◌∙◌, subst, arith}
use Rattle.std.specs.Prelude.{nat_lt}
use Rattle.std.proofs.lemmas.List.{length-append, get_or-append-add, get_or_append_left}
use Rattle.std.proofs.lemmas.Bool.{false≢true}
use Rattle.std.proofs.lemmas.Bool.Decides.{nat_tests}
use Rattle.sp_octagon.specs.declared.octagon.Octagon.{Octagon}
use Rattle.sp_octagon.specs.Entries.{Entries, unbounded, negative, entries_of}
use Rattle.sp_octagon.specs.Facts.{IsMatrix, IsOctagon}
use Rattle.sp_octagon.specs.Changes.{no_bounds, with_pair, is_pair}
use Rattle.sp_octagon.specs.Octagons.{rows, entries}
use Rattle.sp_octagon.specs.Made.{listed, bounds_of, is_octagon}
use Rattle.sp_octagon.specs.Kept.{width, start, half_to, half_of, kept_entry, kept_entries, whole_by, whole, IsKept}
use Rattle.sp_octagon.specs.inner.Reading.{IsBefore, ReadTo}
use Rattle.sp_octagon.proofs.Numbers.{which, negative-lt, negative_twice}
use Rattle.sp_octagon.proofs.Matrices.{PairCases, itself, its_equal, apart, pair_cases}
use Rattle.sp_octagon.proofs.OrderLaws.{octagon_same}
use Rattle.sp_octagon.proofs.Made.{listed-zero, listed-suc, listed-length, listed-at, bounds_of-at, bounds_of-length, test_from_octagon}

order : (a b : ℕ) → (a < b) ⊎ (b ≤ a)
order a b = grind arith

-- ---- the list of what is kept

start-suc : (r : ℕ) → start (suc r) ≡ start r + width r
unfolding start
start-suc r = refl

half_to-suc : (r : ℕ) (m : Entries) → half_to (suc r) m ≡ half_to r m ++ listed (width r) (m r)
unfolding half_to
half_to-suc r m = refl

pub half_to-length : (n : ℕ) (m : Entries) → length (half_to n m) ≡ start n
unfolding half_to start
half_to-length zero m = refl
half_to-length (suc n) m =
    length-append (half_to n m) (listed (width n) (m n)) ∙ ap (λ k. k + length (listed (width n) (m n))) (half_to-length n m) ∙ ap (λ k. start n + k) (listed-length (width n) (m n))

start-le : (r n : ℕ) → r < n → start r + width r ≤ start n
start-le r zero h = absurd (omega arith)
start-le r (suc n) h = by (order r n)
  where
    by : (r < n) ⊎ (n ≤ r) → start r + width r ≤ start (suc n)
    by (inl low) = omega (arith, start-rises r n low, start-suc n)
      where
        start-rises : (r n : ℕ) → r < n → start r + width r ≤ start n
        start-rises r zero g = absurd (omega arith)
        start-rises r (suc n) g = near (order r n) (start-rises r n)
          where
            near : (r < n) ⊎ (n ≤ r) → (r < n → start r + width r ≤ start n) → start r + width r ≤ start (suc n)
            near (inl less) below = omega (arith, below less, start-suc n)
            near (inr more) below = let same : r ≡ n = omega arith in subst (λ (k : ℕ). start r + width r ≤ start (suc k)) same (omega (arith, start-suc r))
    by (inr high) = let same : r ≡ n = omega arith in subst (λ (k : ℕ). start r + width r ≤ start (suc k)) same (omega (arith, start-suc r))

pub half_to-at : (n : ℕ) (m : Entries) (r c : ℕ) (d : ℤ) → r < n → c < width r → get_or (half_to n m) (start r + c) d ≡ m r c
half_to-at zero m r c d hr hc = absurd (omega arith)
half_to-at (suc n) m r c d hr hc = ap (λ xs. get_or xs (start r + c) d) (half_to-suc n m) ∙ by (order r n) (half_to-at n m r c d)
  where
    by : (r < n) ⊎ (n ≤ r) → (r < n → c < width r → get_or (half_to n m) (start r + c) d ≡ m r c) → get_or (half_to n m ++ listed (width n) (m n)) (start r + c) d ≡ m r c
    by (inl low) below =
        get_or_append_left (half_to n m) (listed (width n) (m n)) d (start r + c) (omega (arith, half_to-length n m, start-le r n low)) ∙ below low hc
    by (inr high) below =
        let same : n ≡ r = omega arith in
        subst (λ (k : ℕ). get_or (half_to k m ++ listed (width k) (m k)) (start r + c) d ≡ m r c) (sym same)
        (ap (λ i. get_or (half_to r m ++ listed (width r) (m r)) (i + c) d) (sym (half_to-length r m))
        ∙ get_or-append-add (half_to r m) (listed (width r) (m r)) c d ∙ listed-at (width r) (m r) c d hc)

-- one more entry of a row
listed-snoc : (n : ℕ) (f : ℕ → ℤ) → listed (n + 1) f ≡ listed n f ++ (f n ∷ [])
listed-snoc zero f = ap (λ k. listed k f) one ∙ listed-suc 0 f ∙ ap (λ xs. f 0 ∷ xs) (listed-zero (λ k. f (suc k))) ∙ ap (λ xs. xs ++ (f 0 ∷ [])) (sym (listed-zero f))
  where
    one : 0 + 1 ≡ suc 0
    one = omega arith
listed-snoc (suc n) f =
    ap (λ k. listed k f) (next n) ∙ listed-suc (n + 1) f ∙ ap (λ xs. f 0 ∷ xs) (listed-snoc n (λ k. f (suc k)))
    ∙ ap (λ xs. xs ++ (f (suc n) ∷ [])) (sym (listed-suc n f))
  where
    next : (n : ℕ) → suc n + 1 ≡ suc (n + 1)
    next n = omega arith

pub row_more : (xs ys : List ℤ) (n : ℕ) (f : ℕ → ℤ) (v : ℤ) → ys ≡ xs ++ listed n f → v ≡ f n → ys ++ (v ∷ []) ≡ xs ++ listed (n + 1) f
row_more xs ys n f v is at = ap (λ zs. zs ++ (v ∷ [])) is ∙ append3 xs (listed n f) v ∙ ap (λ z. xs ++ (listed n f ++ (z ∷ []))) at ∙ ap (λ zs. xs ++ zs) (sym (listed-snoc n f))
  where
    append3 : (a b : List ℤ) (z : ℤ) → (a ++ b) ++ (z ∷ []) ≡ a ++ (b ++ (z ∷ []))
    append3 [] b z = refl
    append3 (x ∷ a) b z = ap (λ t. x ∷ t) (append3 a b z)

pub row_none : (xs : List ℤ) (f : ℕ → ℤ) → xs ≡ xs ++ listed 0 f
row_none xs f = sym (right xs) ∙ ap (λ zs. xs ++ zs) (sym (listed-zero f))
  where
    right : (a : List ℤ) → a ++ [] ≡ a
    right [] = refl
    right (x ∷ a) = ap (λ t. x ∷ t) (right a)

pub rows_more : (n : ℕ) (m : Entries) (xs ys : List ℤ) → xs ≡ half_to n m → ys ≡ xs ++ listed (width n) (m n) → ys ≡ half_to (n + 1) m
rows_more n m xs ys is next = next ∙ ap (λ zs. zs ++ listed (width n) (m n)) is ∙ sym (half_to-suc n m) ∙ ap (λ k. half_to k m) one
  where
    one : suc n ≡ n + 1
    one = omega arith

pub rows_none : (m : Entries) → [] ≡ half_to 0 m
unfolding half_to
rows_none m = refl

-- ---- the octagon that is kept

kept-at : (o : Octagon) (r c : ℕ) → r < 16 → c < 16 → kept_entries o.size (half_of o) r c ≡ entries o r c
kept-at o r c hr hc = by (order r (rows o)) (order c (rows o))
  where
    lt : (a b : ℕ) → a < b → nat_lt a b ≡ true
    lt a b h = grind (arith, nat_tests)

    not_lt : (a b : ℕ) → b ≤ a → nat_lt a b ≡ false
    not_lt a b h = grind (arith, nat_tests)

    kept : r < rows o → c < rows o → (c < width r) ⊎ (width r ≤ c) → kept_entry (half_of o) r c ≡ entries o r c
    kept low low' (inl here) = rw (lt c (width r) here) (half_to-at (rows o) (entries o) r c unbounded low here)
    kept low low' (inr far) =
        rw (not_lt c (width r) far) (half_to-at (rows o) (entries o) (negative c) (negative r) unbounded (negative-lt c o.size low') (omega (arith, far)) ∙ o.facts.matrix.coherent r c hr hc)

    outside : rows o ≤ max r c → no_bounds r c ≡ entries o r c
    outside far = at (which (r == c))
      where
        same : (a b : ℕ) → (a == b) ≡ true → a ≡ b
        same a b e = grind (arith, nat_tests)

        other : (a b : ℕ) → (a == b) ≡ false → a ≢ b
        other a b e = λ f. grind (arith, nat_tests)

        at : ((r == c) ≡ true) ⊎ ((r == c) ≡ false) → no_bounds r c ≡ entries o r c
        at (inl t) = rw t (sym (subst (λ (k : ℕ). entries o r k ≡ pos 0) (same r c t) (o.facts.matrix.diagonal r hr)))
        at (inr f) = rw f (sym (o.facts.matrix.outside r c hr hc far (other r c f)))

    by : (r < rows o) ⊎ (rows o ≤ r) → (c < rows o) ⊎ (rows o ≤ c) → kept_entries o.size (half_of o) r c ≡ entries o r c
    by (inl low) (inl low') = rw (lt r (rows o) low, lt c (rows o) low') (kept low low' (order c (width r)))
    by (inl low) (inr high) = rw (lt r (rows o) low, not_lt c (rows o) high) (outside (omega arith))
    by (inr high) q = rw (not_lt r (rows o) high) (outside (omega arith))

-- equal entries make an octagon too
pub octagon-equal : (o : Octagon) (bounds : List ℤ) → length bounds ≡ 256 → ((r c : ℕ) → r < 16 → c < 16 → entries_of bounds r c ≡ entries o r c) → IsOctagon o.size bounds
octagon-equal o bounds room is = record {
  some = o.facts.some;
  few = o.facts.few;
  room = room;
  matrix = record {
    diagonal = λ r hr. is r r hr hr ∙ o.facts.matrix.diagonal r hr;
    coherent = λ r c hr hc. is (negative c) (negative r) (omega arith) (omega arith) ∙ o.facts.matrix.coherent r c hr hc ∙ sym (is r c hr hc);
    in_range = λ r c hr hc. rw (is r c hr hc) (o.facts.matrix.in_range r c hr hc);
    outside = λ r c hr hc far other. is r c hr hc ∙ o.facts.matrix.outside r c hr hc far other;
  };
}

pub whole_by-is : (o : Octagon) (bounds : List ℤ) (t : Bool) (h : is_octagon o.size bounds ≡ t) → t ≡ true → ((r c : ℕ) → r < 16 → c < 16 → entries_of bounds r c ≡ entries o r c) → whole_by o.size bounds t h ≡ o
unfolding whole_by
whole_by-is o bounds true h e is = octagon_same _ o refl (λ r c hr hc. is r c (omega (arith, o.facts.few)) (omega (arith, o.facts.few)))
whole_by-is o bounds false h e is = absurd (false≢true e)

pub whole-half : (o : Octagon) → whole o.size (half_of o) ≡ o
unfolding whole
whole-half o =
    let bounds = bounds_of (kept_entries o.size (half_of o)) in
    whole_by-is o bounds (is_octagon o.size bounds) refl (test_from_octagon o.size bounds (octagon-equal o bounds (bounds_of-length (kept_entries o.size (half_of o))) (is o))) (is o)
  where
    is : (o : Octagon) (r c : ℕ) → r < 16 → c < 16 → entries_of (bounds_of (kept_entries o.size (half_of o))) r c ≡ entries o r c
    is o r c hr hc = bounds_of-at (kept_entries o.size (half_of o)) r c hr hc ∙ kept-at o r c hr hc

pub half-kept : (o : Octagon) → IsKept o.size (half_of o)
half-kept o = record { sized = ap (λ (a : Octagon). a.size) (whole-half o); half = ap half_of (whole-half o) }

-- ---- reading it again

pub read-first : (count : ℕ) (m d : Entries) → ((i j : ℕ) → i < 16 → j < 16 → d i j ≡ no_bounds i j) → ReadTo count m 0 0 d
read-first count m d none = record {
  agree = λ i j hi hj before. absurd (nowhere i j before);
  outside = λ i j hi hj far. none i j hi hj;
}
  where
    nowhere : (i j : ℕ) → IsBefore 0 0 i j → ⊥
    nowhere i j (inl b) = omega (arith, b.0)
    nowhere i j (inr b) = omega (arith, b.1)

pub read-next_row : (count : ℕ) (m : Entries) (r : ℕ) (d : Entries) → ReadTo count m r (width r) d → ReadTo count m (r + 1) 0 d
read-next_row count m r d h = record { agree = λ i j hi hj before. h.agree i j hi hj (turned i j before); outside = h.outside }
  where
    turned : (i j : ℕ) → IsBefore (r + 1) 0 i j → IsBefore r (width r) i j
    turned i j (inl b) = near (order i r)
      where
        near : (i < r) ⊎ (r ≤ i) → IsBefore r (width r) i j
        near (inl low) = inl (low, b.1)
        near (inr high) = let same : i ≡ r = omega (arith, b.0) in inr (same, subst (λ (k : ℕ). j < width k) same b.1)
    turned i j (inr b) = absurd (omega (arith, b.1))

pub read-next : (size r c : ℕ) (m d e : Entries) (v : ℤ) → size ≤ 8 → IsMatrix size m → r < 2 * size → c < width r → v ≡ m r c → ((i j : ℕ) → i < 16 → j < 16 → e i j ≡ with_pair d r c v i j)
    → ReadTo (2 * size) m r c d → ReadTo (2 * size) m r (c + 1) e
read-next size r c m d e v few matrix hr hc is written h = record {
  agree = λ i j hi hj before. (value i j hi hj (split i j before), mirrored i j hi hj (split i j before));
  outside = outside;
}
  where
    hc' : c < 2 * size
    hc' = omega (arith, hr, hc)

    -- what the pair has is m's
    pair : (i j : ℕ) → i < 16 → j < 16 → is_pair r c i j ≡ true → e i j ≡ m i j
    pair i j hi hj t = written i j hi hj ∙ ap (λ b. cond b v (d i j)) t ∙ is ∙ by (pair_cases r c i j)
      where
        by : PairCases r c i j → m r c ≡ m i j
        by (itself x y s) = sym (ap (λ k. m k j) x ∙ ap (m r) y)
        by (its_equal x y s) = sym (ap (λ k. m k j) x ∙ ap (m (negative c)) y ∙ matrix.coherent r c (omega (arith, few)) (omega (arith, few)))
        by (apart p q s) = absurd (false≢true (sym s ∙ t))

    still : (i j : ℕ) → i < 16 → j < 16 → is_pair r c i j ≡ false → e i j ≡ d i j
    still i j hi hj f = written i j hi hj ∙ ap (λ b. cond b v (d i j)) f

    here : (i j : ℕ) → i < 2 * size → j < 2 * size → d i j ≡ m i j → e i j ≡ m i j
    here i j hi hj old = by (which (is_pair r c i j))
      where
        by : (is_pair r c i j ≡ true) ⊎ (is_pair r c i j ≡ false) → e i j ≡ m i j
        by (inl t) = pair i j (omega (arith, few)) (omega (arith, few)) t
        by (inr f) = still i j (omega (arith, few)) (omega (arith, few)) f ∙ old

    itself_paired : is_pair r c r c ≡ true
    itself_paired = by (pair_cases r c r c)
      where
        by : PairCases r c r c → is_pair r c r c ≡ true
        by (itself x y s) = s
        by (its_equal x y s) = s
        by (apart p q s) = absurd (p refl refl)

    equal_paired : is_pair r c (negative c) (negative r) ≡ true
    equal_paired = by (pair_cases r c (negative c) (negative r))
      where
        by : PairCases r c (negative c) (negative r) → is_pair r c (negative c) (negative r) ≡ true
        by (itself x y s) = s
        by (its_equal x y s) = s
        by (apart p q s) = absurd (q refl refl)

    split : (i j : ℕ) → IsBefore r (c + 1) i j → IsBefore r c i j ⊎ ((i ≡ r) × (j ≡ c))
    split i j (inl b) = inl (inl b)
    split i j (inr b) = near (order j c)
      where
        near : (j < c) ⊎ (c ≤ j) → IsBefore r c i j ⊎ ((i ≡ r) × (j ≡ c))
        near (inl low) = inl (inr (b.0, low))
        near (inr high) = inr (b.0, omega (arith, b.1))

    value : (i j : ℕ) → i < 2 * size → j < 2 * size → IsBefore r c i j ⊎ ((i ≡ r) × (j ≡ c)) → e i j ≡ m i j
    value i j hi hj (inl b) = here i j hi hj (h.agree i j hi hj b).0
    value i j hi hj (inr s) = pair i j (omega (arith, few)) (omega (arith, few)) (ap (λ k. is_pair r c k j) s.0 ∙ ap (is_pair r c r) s.1 ∙ itself_paired)

    mirrored : (i j : ℕ) → i < 2 * size → j < 2 * size → IsBefore r c i j ⊎ ((i ≡ r) × (j ≡ c)) → e (negative j) (negative i) ≡ m i j
    mirrored i j hi hj (inl b) =
        here (negative j) (negative i) (negative-lt j size hj) (negative-lt i size hi) ((h.agree i j hi hj b).1 ∙ sym (matrix.coherent i j (omega (arith, few)) (omega (arith, few))))
        ∙ matrix.coherent i j (omega (arith, few)) (omega (arith, few))
    mirrored i j hi hj (inr s) =
        pair (negative j) (negative i) (omega (arith, few)) (omega (arith, few))
        (ap (λ k. is_pair r c (negative j) (negative k)) s.0 ∙ ap (λ k. is_pair r c (negative k) (negative r)) s.1 ∙ equal_paired)
        ∙ matrix.coherent i j (omega (arith, few)) (omega (arith, few))

    outside : (i j : ℕ) → i < 16 → j < 16 → 2 * size ≤ max i j → e i j ≡ no_bounds i j
    outside i j hi hj far = by (pair_cases r c i j)
      where
        by : PairCases r c i j → e i j ≡ no_bounds i j
        by (itself x y s) = absurd (omega (arith, hr, hc'))
        by (its_equal x y s) = absurd (omega (arith, hr, hc'))
        by (apart p q s) = still i j hi hj s ∙ h.outside i j hi hj far

-- after all rows every entry is there
pub read-all : (o : Octagon) (d : Entries) → ReadTo (rows o) (entries o) (rows o) 0 d → (r c : ℕ) → r < 16 → c < 16 → d r c ≡ entries o r c
read-all o d h r c hr hc = by (order r (rows o)) (order c (rows o))
  where
    far : rows o ≤ max r c → d r c ≡ entries o r c
    far past = h.outside r c hr hc past ∙ none (which (r == c))
      where
        same : (a b : ℕ) → (a == b) ≡ true → a ≡ b
        same a b e = grind (arith, nat_tests)

        other : (a b : ℕ) → (a == b) ≡ false → a ≢ b
        other a b e = λ f. grind (arith, nat_tests)

        none : ((r == c) ≡ true) ⊎ ((r == c) ≡ false) → no_bounds r c ≡ entries o r c
        none (inl t) = rw t (sym (subst (λ (k : ℕ). entries o r k ≡ pos 0) (same r c t) (o.facts.matrix.diagonal r hr)))
        none (inr f) = rw f (sym (o.facts.matrix.outside r c hr hc past (other r c f)))

    inner : r < rows o → c < rows o → (c < width r) ⊎ (width r ≤ c) → d r c ≡ entries o r c
    inner low low' (inl kept) = (h.agree r c low low' (inl (low, kept))).0
    inner low low' (inr past) =
        let at = (h.agree (negative c) (negative r) (negative-lt c o.size low') (negative-lt r o.size low) (inl (negative-lt c o.size low', omega (arith, past)))).1 in
        ap (λ k. d k c) (sym (negative_twice r)) ∙ ap (d (negative (negative r))) (sym (negative_twice c)) ∙ at ∙ o.facts.matrix.coherent r c hr hc

    by : (r < rows o) ⊎ (rows o ≤ r) → (c < rows o) ⊎ (rows o ≤ c) → d r c ≡ entries o r c
    by (inl low) (inl low') = inner low low' (order c (width r))
    by (inl low) (inr high) = far (omega arith)
    by (inr high) q = far (omega arith)

-- ---- what the code's reads give

start-16 : start 16 ≡ 144
unfolding start
start-16 = refl

-- a place in the list is small
pub place-small : (r c : ℕ) → r < 16 → c < width r → start r + c < 144
place-small r c hr hc = omega (arith, hc, start-le r 16 hr, start-16)

pub start-zero : start 0 ≡ 0
unfolding start
start-zero = refl

pub start-next : (r : ℕ) → start r + width r ≡ start (r + 1)
start-next r = sym (start-suc r) ∙ ap start one
  where
    one : suc r ≡ r + 1
    one = omega arith

pub kept-room : (o : Octagon) (kept : List ℤ) (r c : ℕ) → half_of o ≡ kept → r < rows o → c < width r → start r + c < length kept
kept-room o kept r c is hr hc = omega (arith, hc, start-le r (rows o) hr, half_to-length (rows o) (entries o), ap length is)

pub kept-value : (o : Octagon) (kept : List ℤ) (r c : ℕ) (d : ℤ) → half_of o ≡ kept → r < rows o → c < width r → get_or kept (start r + c) d ≡ entries o r c
kept-value o kept r c d is hr hc = ap (λ xs. get_or xs (start r + c) d) (sym is) ∙ half_to-at (rows o) (entries o) r c d hr hc

-- so 2n(n + 1) entries are kept of n members
start-even : (n : ℕ) → start (2 * n) ≡ 2 * n * (n + 1)
start-even zero = start-zero
start-even (suc n) = ap start two ∙ omega (arith, start-suc (suc (2 * n)), start-suc (2 * n), start-even n)
  where
    two : 2 * suc n ≡ suc (suc (2 * n))
    two = omega arith

pub kept-length : (o : Octagon) (kept : List ℤ) → half_of o ≡ kept → length kept ≡ 2 * o.size * (o.size + 1)
kept-length o kept is = sym (ap length is) ∙ half_to-length (rows o) (entries o) ∙ start-even o.size
