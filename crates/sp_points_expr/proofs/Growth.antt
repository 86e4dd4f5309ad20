-- One row grows.
use Rattle.std.proofs.Common.{◌≡◌, ◌≢◌, ◌⊎◌, inl, inr, ℕ, ◌<◌, ◌≤◌, true, ◌||◌, List, [], length, get_or, set, refl, sym, ap, ◌∙◌, subst, arith, get_or-set_same, get_or-set_other, length-set}
use Rattle.std.specs.Vec.{with_item}
use Rattle.std.proofs.lemmas.List.Sums.{sum_by-set}
use Rattle.sp_base_sets.specs.Sets.{has, Ascends}
use Rattle.sp_points_expr.specs.Queue.{Waiting}
use Rattle.sp_points_expr.specs.Growing.{table, reads, waits, size, Grows}
use Rattle.sp_points_expr.specs.declared.growing.Growing.{Growing}
use Rattle.sp_base_sets.proofs.Members.{which}
use Rattle.sp_base_sets.proofs.Images.{or-cases, or-left, or-right}

pub row_grows : (s : Growing) (cell : ℕ) (regions row : List ℕ) (queue : Waiting) → cell < length s.rows.items →
    ((n : ℕ) → has n row ≡ (has n (get_or s.rows.items cell []) || has n regions)) →
    (Ascends (get_or s.rows.items cell []) → Ascends row) →
    length (get_or s.rows.items cell []) < length row →
    queue.count ≡ s.queue.count →
    (length s.queue.numbers ≤ s.queue.count → length queue.numbers ≤ queue.count) →
    ((n : ℕ) → has n queue.numbers ≡ (has n s.queue.numbers || has n (get_or s.readers.items cell []))) →
    Grows (λ c r. (c ≡ cell) × (has r regions ≡ true)) s (record s { rows = with_item s.rows cell row; queue = queue })
row_grows s cell regions row queue low numbers rises longer counted few reached = record {
  more = λ c r h. more c r h (which c cell);
  origin = λ c r h. from c r h (which c cell);
  all = λ c r f. subst (λ k. has r (get_or (set rows cell row) k []) ≡ true) (sym f.0) (ap (λ xs. has r xs) at ∙ numbers r ∙ or-right (has r old) (has r regions) f.1);
  woken = λ c r n h reader. wakes c r n h reader (which c cell);
  kept = λ n h. reached n ∙ or-left (has n s.queue.numbers) (has n (get_or s.readers.items cell [])) h;
  readers = refl;
  rows = length-set rows cell row;
  count = counted;
  few = few;
  ascending = λ before c. ascends before c (which c cell);
  rises = inl (omega (arith, sum_by-set length rows cell row [] low, longer));
}
  where
    rows : List (List ℕ)
    rows = s.rows.items

    old : List ℕ
    old = get_or rows cell []

    at : get_or (set rows cell row) cell [] ≡ row
    at = get_or-set_same rows cell row [] low

    off : (c : ℕ) → c ≢ cell → get_or (set rows cell row) c [] ≡ get_or rows c []
    off c apart = get_or-set_other rows cell c row [] apart

    at_cell : (c r : ℕ) → c ≡ cell → has r (get_or (set rows cell row) c []) ≡ (has r old || has r regions)
    at_cell c r e = ap (λ k. has r (get_or (set rows cell row) k [])) e ∙ ap (λ xs. has r xs) at ∙ numbers r

    more : (c r : ℕ) → has r (get_or rows c []) ≡ true → (c ≡ cell) ⊎ (c ≢ cell) → has r (get_or (set rows cell row) c []) ≡ true
    more c r h (inl e) = at_cell c r e ∙ or-left (has r old) (has r regions) (sym (ap (λ k. has r (get_or rows k [])) e) ∙ h)
    more c r h (inr apart) = ap (λ xs. has r xs) (off c apart) ∙ h

    from : (c r : ℕ) → has r (get_or (set rows cell row) c []) ≡ true → (c ≡ cell) ⊎ (c ≢ cell) → (has r (get_or rows c []) ≡ true) ⊎ ((c ≡ cell) × (has r regions ≡ true))
    from c r h (inl e) = by (or-cases (has r old) (has r regions) (sym (at_cell c r e) ∙ h))
      where
        by : (has r old ≡ true) ⊎ (has r regions ≡ true) → (has r (get_or rows c []) ≡ true) ⊎ ((c ≡ cell) × (has r regions ≡ true))
        by (inl g) = inl (ap (λ k. has r (get_or rows k [])) e ∙ g)
        by (inr g) = inr (e, g)
    from c r h (inr apart) = inl (sym (ap (λ xs. has r xs) (off c apart)) ∙ h)

    wakes : (c r n : ℕ) → has r (get_or (set rows cell row) c []) ≡ true → has n (get_or s.readers.items c []) ≡ true → (c ≡ cell) ⊎ (c ≢ cell) → (has r (get_or rows c []) ≡ true) ⊎ (has n queue.numbers ≡ true)
    wakes c r n h reader (inl e) = inr (reached n ∙ or-right (has n s.queue.numbers) (has n (get_or s.readers.items cell [])) (sym (ap (λ k. has n (get_or s.readers.items k [])) e) ∙ reader))
    wakes c r n h reader (inr apart) = inl (sym (ap (λ xs. has r xs) (off c apart)) ∙ h)

    ascends : ((c : ℕ) → Ascends (get_or rows c [])) → (c : ℕ) → (c ≡ cell) ⊎ (c ≢ cell) → Ascends (get_or (set rows cell row) c [])
    ascends before c (inl e) = subst (λ k. Ascends (get_or (set rows cell row) k [])) (sym e) (subst (λ xs. Ascends xs) (sym at) (rises (before cell)))
    ascends before c (inr apart) = subst (λ xs. Ascends xs) (sym (off c apart)) (before c)

-- one growth after another
pub grows_then : (F G H : ℕ → ℕ → Type 0) (a b d : Growing) → Grows F a b → Grows G b d → ((c r : ℕ) → H c r → F c r ⊎ G c r) → ((c r : ℕ) → F c r → H c r) → ((c r : ℕ) → G c r → H c r) → Grows H a d
grows_then F G H a b d first second split left right = record {
  more = λ c r h. second.more c r (first.more c r h);
  origin = λ c r h. from c r (second.origin c r h);
  all = λ c r h. by c r (split c r h);
  woken = λ c r n h reader. wakes c r n reader (second.woken c r n h (ap (λ xs. has n (get_or xs c [])) first.readers ∙ reader));
  kept = λ n h. second.kept n (first.kept n h);
  readers = second.readers ∙ first.readers;
  rows = second.rows ∙ first.rows;
  count = second.count ∙ first.count;
  few = λ h. second.few (first.few h);
  ascending = λ before. second.ascending (first.ascending before);
  rises = rising first.rises second.rises;
}
  where
    from : (c r : ℕ) → (has r (table b c) ≡ true) ⊎ G c r → (has r (table a c) ≡ true) ⊎ H c r
    from c r (inl h) = deeper (first.origin c r h)
      where
        deeper : (has r (table a c) ≡ true) ⊎ F c r → (has r (table a c) ≡ true) ⊎ H c r
        deeper (inl h) = inl h
        deeper (inr f) = inr (left c r f)
    from c r (inr g) = inr (right c r g)

    by : (c r : ℕ) → F c r ⊎ G c r → has r (table d c) ≡ true
    by c r (inl f) = second.more c r (first.all c r f)
    by c r (inr g) = second.all c r g

    wakes : (c r n : ℕ) → reads a n c ≡ true → (has r (table b c) ≡ true) ⊎ (waits d n ≡ true) → (has r (table a c) ≡ true) ⊎ (waits d n ≡ true)
    wakes c r n reader (inr w) = inr w
    wakes c r n reader (inl h) = deeper (first.woken c r n h reader)
      where
        deeper : (has r (table a c) ≡ true) ⊎ (waits b n ≡ true) → (has r (table a c) ≡ true) ⊎ (waits d n ≡ true)
        deeper (inl h) = inl h
        deeper (inr w) = inr (second.kept n w)

    rising : (size a < size b) ⊎ ((size b ≡ size a) × (b.queue ≡ a.queue)) → (size b < size d) ⊎ ((size d ≡ size b) × (d.queue ≡ b.queue)) → (size a < size d) ⊎ ((size d ≡ size a) × (d.queue ≡ a.queue))
    rising (inl h) (inl k) = inl (omega (arith, h, k))
    rising (inl h) (inr k) = inl (omega (arith, h, k.0))
    rising (inr h) (inl k) = inl (omega (arith, h.0, k))
    rising (inr h) (inr k) = inr (k.0 ∙ h.0, k.1 ∙ h.1)
