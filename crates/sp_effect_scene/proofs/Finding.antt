-- Cells, region after region; and that points-to names regions of the program alone.
use Rattle.std.proofs.Common.{◌≡◌, ℕ, zero, suc, ◌+◌, ◌<◌, ◌≤◌, Bool, true, false, cond, nat_eq, nat_lt, ◌||◌, filter, eqb-true, List, [], ◌∷◌, ◌++◌, length, drop, Option, Some, None, refl, sym, ap, ◌∙◌, subst, arith, append_assoc}
use Rattle.std.specs.Prelude.{slice_get}
use Rattle.std.proofs.lemmas.Bool.{false≢true}
use Rattle.std.proofs.lemmas.Bool.Decides.{nat_tests}
use Rattle.std.proofs.lemmas.List.{append-nil}
use Rattle.sp_base_sets.specs.Sets.{has}
use Rattle.sp_points_expr.specs.Tables.{Table, Rules, AreRules, IsClosed, IsLeastClosed}
use Rattle.sp_eval.proofs.Among.{among-filter}
use Rattle.sp_ir.specs.Regions.{Region, is_cell, is_cell_region, numbers_of}

-- ---- one region more

dropped : (rs : List Region) (i : ℕ) (r : Region) → slice_get rs i ≡ Some r → drop i rs ≡ r ∷ drop (suc i) rs
dropped [] i r e = absurd (cc)
dropped (x ∷ rs) zero r e = ap (λ y. y ∷ rs) (same e)
  where
    same : Some x ≡ Some r → x ≡ r
    same h = cc
dropped (x ∷ rs) (suc i) r e = dropped rs i r e

module _ (rs : List Region) (i : ℕ) (found : List ℕ) (so_far : (found ++ numbers_of is_cell i (drop i rs)) ≡ numbers_of is_cell 0 rs) where
  one_more : (r : Region) → slice_get rs i ≡ Some r → (found ++ cond (is_cell r) (i ∷ numbers_of is_cell (i + 1) (drop (i + 1) rs)) (numbers_of is_cell (i + 1) (drop (i + 1) rs))) ≡ numbers_of is_cell 0 rs
  one_more r e =
      let next : suc i ≡ i + 1 = omega arith in
      ap (λ n. found ++ cond (is_cell r) (i ∷ numbers_of is_cell (i + 1) (drop n rs)) (numbers_of is_cell (i + 1) (drop n rs))) (sym next)
      ∙ ap (λ l. found ++ numbers_of is_cell i l) (sym (dropped rs i r e)) ∙ so_far

  cell-found : is_cell_region (slice_get rs i) ≡ true → ((found ++ i ∷ []) ++ numbers_of is_cell (i + 1) (drop (i + 1) rs)) ≡ numbers_of is_cell 0 rs
  cell-found h = by (slice_get rs i) refl h
    where
      by : (o : Option Region) → slice_get rs i ≡ o → is_cell_region o ≡ true → ((found ++ i ∷ []) ++ numbers_of is_cell (i + 1) (drop (i + 1) rs)) ≡ numbers_of is_cell 0 rs
      by None e g = absurd (false≢true g)
      by (Some r) e g = append_assoc found (i ∷ []) (numbers_of is_cell (i + 1) (drop (i + 1) rs))
          ∙ ap (λ b. found ++ cond b (i ∷ numbers_of is_cell (i + 1) (drop (i + 1) rs)) (numbers_of is_cell (i + 1) (drop (i + 1) rs))) (sym g) ∙ one_more r e

  no-cell : i < length rs → is_cell_region (slice_get rs i) ≡ false → (found ++ numbers_of is_cell (i + 1) (drop (i + 1) rs)) ≡ numbers_of is_cell 0 rs
  no-cell low h = by (slice_get rs i) refl h
    where
      there : (xs : List Region) (k : ℕ) → k < length xs → slice_get xs k ≡ None → ⊥
      there [] k l e = omega (arith, l)
      there (x ∷ xs) zero l e = cc
      there (x ∷ xs) (suc k) l e = there xs k (omega (arith, l)) e

      by : (o : Option Region) → slice_get rs i ≡ o → is_cell_region o ≡ false → (found ++ numbers_of is_cell (i + 1) (drop (i + 1) rs)) ≡ numbers_of is_cell 0 rs
      by None e g = absurd (there rs i low e)
      by (Some r) e g = ap (λ b. found ++ cond b (i ∷ numbers_of is_cell (i + 1) (drop (i + 1) rs)) (numbers_of is_cell (i + 1) (drop (i + 1) rs))) (sym g) ∙ one_more r e

  pub cell-next : (new : List ℕ) → i < length rs → new ≡ (found ++ cond (is_cell_region (slice_get rs i)) (i ∷ []) []) → (new ++ numbers_of is_cell (i + 1) (drop (i + 1) rs)) ≡ numbers_of is_cell 0 rs
  cell-next new low is = by (is_cell_region (slice_get rs i)) refl is
    where
      by : (b : Bool) → is_cell_region (slice_get rs i) ≡ b → new ≡ (found ++ cond b (i ∷ []) []) → (new ++ numbers_of is_cell (i + 1) (drop (i + 1) rs)) ≡ numbers_of is_cell 0 rs
      by true e g = ap (λ l. l ++ numbers_of is_cell (i + 1) (drop (i + 1) rs)) g ∙ cell-found e
      by false e g = ap (λ l. l ++ numbers_of is_cell (i + 1) (drop (i + 1) rs)) (g ∙ append-nil found) ∙ no-cell low e

  pub all-found : length rs ≤ i → found ≡ numbers_of is_cell 0 rs
  all-found past = sym (append-nil found) ∙ ap (λ l. found ++ numbers_of is_cell i l) (sym (none rs i past)) ∙ so_far
    where
      none : (xs : List Region) (k : ℕ) → length xs ≤ k → drop k xs ≡ []
      none [] zero l = refl
      none [] (suc k) l = refl
      none (x ∷ xs) zero l = absurd (omega (arith, l))
      none (x ∷ xs) (suc k) l = none xs k (omega (arith, l))

-- ---- the least closed table has nothing past the regions

filtered : (p : ℕ → Bool) (xs : List ℕ) (r : ℕ) → has r (filter p xs) ≡ true → (p r ≡ true) × (has r xs ≡ true)
filtered p [] r h = absurd (false≢true h)
filtered p (x ∷ xs) r h = by (p x) refl h (filtered p xs r)
  where
    this : (c : Bool) → nat_eq r x ≡ c → p x ≡ true → (c || has r (filter p xs)) ≡ true → (has r (filter p xs) ≡ true → (p r ≡ true) × (has r xs ≡ true)) → (p r ≡ true) × ((c || has r xs) ≡ true)
    this true same e g rest = (ap p (eqb-true r x same) ∙ e, refl)
    this false apart e g rest = rest g

    later : (c : Bool) → has r xs ≡ true → (c || has r xs) ≡ true
    later true g = refl
    later false g = g

    by : (b : Bool) → p x ≡ b → has r (cond b (x ∷ filter p xs) (filter p xs)) ≡ true → (has r (filter p xs) ≡ true → (p r ≡ true) × (has r xs ≡ true)) → (p r ≡ true) × (has r (x ∷ xs) ≡ true)
    by true e g rest = this (nat_eq r x) refl e g rest
    by false e g rest = let found = rest g in (found.0, later (nat_eq r x) found.1)

-- what a table has in rows below the count, of numbers below it
module _ (height : ℕ) (t : Table) where
  abbrev lower : Table
  lower c = cond (nat_lt c height) (filter (λ q. nat_lt q height) (t c)) []

  below_test : (m n : ℕ) → nat_lt m n ≡ true → m < n
  below_test m n h = grind (arith, nat_tests, h)

  test_below : (m n : ℕ) → m < n → nat_lt m n ≡ true
  test_below m n h = grind (arith, nat_tests, h)

  in-lower : (c r : ℕ) → has r (lower c) ≡ true → (c < height) × (r < height) × (has r (t c) ≡ true)
  in-lower c r h = by (nat_lt c height) refl h
    where
      by : (b : Bool) → nat_lt c height ≡ b → has r (cond b (filter (λ q. nat_lt q height) (t c)) []) ≡ true → (c < height) × (r < height) × (has r (t c) ≡ true)
      by true e g = let found = filtered (λ q. nat_lt q height) (t c) r g in (below_test c height e, below_test r height found.0, found.1)
      by false e g = absurd (false≢true g)

  to-lower : (c r : ℕ) → c < height → r < height → has r (t c) ≡ true → has r (lower c) ≡ true
  to-lower c r low less h = subst (λ b. has r (cond b (filter (λ q. nat_lt q height) (t c)) []) ≡ true) (sym (test_below c height low)) (among-filter (λ q. nat_lt q height) (t c) r (test_below r height less) h)

  -- the least closed table has nothing else
  pub table-within : (rules : Rules) (count : ℕ) → AreRules rules height count → IsLeastClosed rules t → (c r : ℕ) → has r (t c) ≡ true → (c < height) × (r < height)
  table-within rules count are least c r h = let found = in-lower c r (least.least lower closed c r h) in (found.0, found.1)
    where
      closed : IsClosed rules lower
      closed n d q g =
          let low = are.low lower n d q (λ e x m. (in-lower e x m).1) g in
          to-lower d q low.0 low.1 (least.closed n d q (are.more lower t n d q (λ e x m. (in-lower e x m).2) g))
