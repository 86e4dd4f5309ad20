-- The window of nodes that wait: each node with a mark stands in it once, and no other.
use Rattle.std.proofs.Common.{◌≡◌, ◌≢◌, ◌⊎◌, inl, inr, ℕ, zero, suc, ◌+◌, ◌-◌, ◌*◌, ◌<◌, ◌≤◌, Bool, true, false, cond, ◌||◌, nat_eq, nat_lt, if◌then◌else◌, List, [], ◌∷◌, ◌++◌, length, get_or, set, take, drop, refl, sym, ap, ◌∙◌, subst, arith, length-set, length-take, length-drop, get_or-set_same, get_or-set_other}
use Rattle.std.specs.List.{slice_range}
use Rattle.std.proofs.lemmas.Bool.{false≢true}
use Rattle.std.proofs.lemmas.Bool.Decides.{nat_tests}
use Rattle.std.proofs.lemmas.Grind.{common_steps}
use Rattle.std.proofs.lemmas.List.{take_more, get_or-take, get_or-drop, get_or_default}
use Rattle.std.proofs.lemmas.List.Sums.{sum_by-cons, sum_by_push, sum_by-set}
use Rattle.sp_lattice.specs.System.{has}
use Rattle.sp_lattice.specs.Bound.{sum_below}
use Rattle.sp_lattice.proofs.Ranks.{sum_below-lt, sum_below-bound}
use Rattle.sp_sparse.specs.inner.Queue.{occurs, IsWindow, Removes}
use Rattle.sp_sparse.proofs.Numbers.{which, side, same_number, apart_numbers}
use Rattle.sp_sparse.proofs.Ordered.{has-at}

occurs-cons : (n x : ℕ) (xs : List ℕ) → occurs n (x ∷ xs) ≡ cond (nat_eq n x) 1 0 + occurs n xs
occurs-cons n x xs = sum_by-cons (λ y. cond (nat_eq n y) 1 0) x xs

pub occurs-push : (n x : ℕ) (xs : List ℕ) → occurs n (xs ++ x ∷ []) ≡ occurs n xs + cond (nat_eq n x) 1 0
occurs-push n x xs = sum_by_push (λ y. cond (nat_eq n y) 1 0) xs x

-- a number is in a list where it occurs
pub has-occurs : (n : ℕ) (xs : List ℕ) → has n xs ≡ nat_lt 0 (occurs n xs)
has-occurs n [] = refl
has-occurs n (x ∷ xs) = by (nat_eq n x) (has-occurs n xs) ∙ ap (λ k. nat_lt 0 k) (sym (occurs-cons n x xs))
  where
    more : (k : ℕ) → true ≡ nat_lt 0 (1 + k)
    more k = grind (arith, nat_tests)

    nothing : (k : ℕ) → 0 + k ≡ k
    nothing k = omega arith

    by : (b : Bool) → has n xs ≡ nat_lt 0 (occurs n xs) → (b || has n xs) ≡ nat_lt 0 (cond b 1 0 + occurs n xs)
    by true h = more (occurs n xs)
    by false h = h ∙ ap (λ k. nat_lt 0 k) (sym (nothing (occurs n xs)))

has-by_occurs : (n : ℕ) (xs ys : List ℕ) → occurs n xs ≡ occurs n ys → has n xs ≡ has n ys
has-by_occurs n xs ys e = has-occurs n xs ∙ ap (λ k. nat_lt 0 k) e ∙ sym (has-occurs n ys)

has-mark : (n : ℕ) (xs : List ℕ) (b : Bool) → occurs n xs ≡ cond b 1 0 → has n xs ≡ b
has-mark n xs true e = has-occurs n xs ∙ ap (λ k. nat_lt 0 k) e
has-mark n xs false e = has-occurs n xs ∙ ap (λ k. nat_lt 0 k) e

-- a mark that is set has a place
marked_low : (marks : List Bool) (n : ℕ) → get_or marks n false ≡ true → n < length marks
marked_low [] n h = absurd (false≢true h)
marked_low (b ∷ marks) zero h = omega arith
marked_low (b ∷ marks) (suc n) h = omega (arith, marked_low marks n h)

-- all occurrences together are the length
occurs-total : (nodes : ℕ) (xs : List ℕ) → ((k : ℕ) → k < length xs → get_or xs k 0 < nodes) → sum_below nodes (λ n. occurs n xs) ≡ length xs
occurs-total nodes [] low = none nodes
  where
    none : (m : ℕ) → sum_below m (λ n. 0) ≡ 0
    none zero = refl
    none (suc m) = omega (arith, none m)
occurs-total nodes (x ∷ xs) low =
    omega (arith, add nodes, once nodes (low 0 (omega arith)), occurs-total nodes xs (λ k k_low. low (suc k) (omega arith)))
  where
    add : (m : ℕ) → sum_below m (λ n. occurs n (x ∷ xs)) ≡ sum_below m (λ n. cond (nat_eq n x) 1 0) + sum_below m (λ n. occurs n xs)
    add zero = refl
    add (suc m) = omega (arith, add m, occurs-cons m x xs)

    absent : (m : ℕ) → m ≤ x → sum_below m (λ n. cond (nat_eq n x) 1 0) ≡ 0
    absent zero h = refl
    absent (suc m) h = omega (arith, absent m (omega arith), not_here)
      where
        not_here : cond {A = ℕ} (nat_eq m x) 1 0 ≡ 0
        not_here = ap (λ b. cond b 1 0) (apart_numbers m x (omega arith))

    once : (m : ℕ) → x < m → sum_below m (λ n. cond (nat_eq n x) 1 0) ≡ 1
    once zero h = absurd (omega arith)
    once (suc m) h = by (which m x) (λ less. once m less)
      where
        by : (m ≡ x) ⊎ (m ≢ x) → (x < m → sum_below m (λ n. cond (nat_eq n x) 1 0) ≡ 1) → sum_below m (λ n. cond (nat_eq n x) 1 0) + cond (nat_eq m x) 1 0 ≡ 1
        by (inl e) more =
            let here : cond {A = ℕ} (nat_eq m x) 1 0 ≡ 1 = ap (λ b. cond b 1 0) (ap (λ j. nat_eq j x) e ∙ same_number x) in
            omega (arith, here, absent m (omega (arith, e)))
        by (inr e) more =
            let here : cond {A = ℕ} (nat_eq m x) 1 0 ≡ 0 = ap (λ b. cond b 1 0) (apart_numbers m x e) in
            omega (arith, here, more (omega (arith, e)))

-- how long a range is
pub range-length : (b : List ℕ) (first end : ℕ) → first ≤ end → end ≤ length b → length (slice_range b first end) + first ≡ end
range-length b first end ordered within = omega (arith, length-take (end - first) (drop first b), length-drop first b)

-- one more element at the end of a range
pub range-push : (b : List ℕ) (first size end x : ℕ) → first + size ≡ end → end < length b → take (suc size) (drop first (set b end x)) ≡ take size (drop first b) ++ x ∷ []
range-push [] first size end x e low = absurd (omega arith)
range-push (y ∷ b) zero zero zero x e low = refl
range-push (y ∷ b) zero zero (suc end) x e low = absurd (omega arith)
range-push (y ∷ b) zero (suc size) zero x e low = absurd (omega arith)
range-push (y ∷ b) zero (suc size) (suc end) x e low = ap (λ r. y ∷ r) (range-push b zero size end x (omega arith) (omega arith))
range-push (y ∷ b) (suc first) size zero x e low = absurd (omega arith)
range-push (y ∷ b) (suc first) size (suc end) x e low = range-push b first size end x (omega arith) (omega arith)

-- a range without its first element
range-rest : (b : List ℕ) (first size : ℕ) → take size (drop (suc first) b) ≡ drop 1 (take (suc size) (drop first b))
range-rest [] zero zero = refl
range-rest [] zero (suc size) = refl
range-rest [] (suc first) zero = refl
range-rest [] (suc first) (suc size) = refl
range-rest (y ∷ b) zero size = refl
range-rest (y ∷ b) (suc first) size = range-rest b first size

-- another element at a place of a range
pub range-set : (b : List ℕ) (first size place i x : ℕ) → first + i ≡ place → take size (drop first (set b place x)) ≡ set (take size (drop first b)) i x
range-set [] zero zero place i x e = refl
range-set [] zero (suc size) place i x e = refl
range-set [] (suc first) zero place i x e = refl
range-set [] (suc first) (suc size) place i x e = refl
range-set (y ∷ b) zero zero place i x e = refl
range-set (y ∷ b) zero (suc size) zero zero x e = refl
range-set (y ∷ b) zero (suc size) zero (suc i) x e = absurd (omega arith)
range-set (y ∷ b) zero (suc size) (suc place) zero x e = absurd (omega arith)
range-set (y ∷ b) zero (suc size) (suc place) (suc i) x e = ap (λ r. y ∷ r) (range-set b zero size place i x (omega arith))
range-set (y ∷ b) (suc first) size zero i x e = absurd (omega arith)
range-set (y ∷ b) (suc first) size (suc place) i x e = range-set b first size place i x (omega arith)

set-past : (xs : List ℕ) (i x : ℕ) → length xs ≤ i → set xs i x ≡ xs
set-past [] i x h = refl
set-past (y ∷ xs) zero x h = absurd (omega arith)
set-past (y ∷ xs) (suc i) x h = ap (λ r. y ∷ r) (set-past xs i x (omega arith))

take-all : (xs : List ℕ) (k : ℕ) → length xs ≤ k → take k xs ≡ xs
take-all [] zero h = refl
take-all [] (suc k) h = refl
take-all (y ∷ xs) zero h = absurd (omega arith)
take-all (y ∷ xs) (suc k) h = ap (λ r. y ∷ r) (take-all xs k (omega arith))

-- the last element takes the place of another, which leaves
pub without : List ℕ → ℕ → ℕ → List ℕ
without xs i size = set (take size xs) i (get_or xs size 0)

occurs-without : (n : ℕ) (xs : List ℕ) (i size : ℕ) → length xs ≡ size + 1 → i ≤ size → occurs n (without xs i size) + cond (nat_eq n (get_or xs i 0)) 1 0 ≡ occurs n xs
unfolding without
occurs-without n xs i size long i_low = by (which i size)
  where
    whole : occurs n xs ≡ occurs n (take size xs) + cond (nat_eq n (get_or xs size 0)) 1 0
    whole = ap (occurs n) (sym (take-all xs (size + 1) (omega arith)) ∙ take_more xs size 0 (omega arith)) ∙ occurs-push n (get_or xs size 0) (take size xs)

    by : (i ≡ size) ⊎ (i ≢ size) → occurs n (set (take size xs) i (get_or xs size 0)) + cond (nat_eq n (get_or xs i 0)) 1 0 ≡ occurs n xs
    by (inl e) =
        let gone = ap (occurs n) (set-past (take size xs) i (get_or xs size 0) (omega (arith, length-take size xs, e))) in
        let same : cond {A = ℕ} (nat_eq n (get_or xs i 0)) 1 0 ≡ cond (nat_eq n (get_or xs size 0)) 1 0 = ap (λ j. cond (nat_eq n (get_or xs j 0)) 1 0) e in
        omega (arith, gone, same, whole)
    by (inr e) =
        let step = sum_by-set (λ y. cond (nat_eq n y) 1 0) (take size xs) i (get_or xs size 0) 0 (omega (arith, length-take size xs, e)) in
        let there : cond {A = ℕ} (nat_eq n (get_or (take size xs) i 0)) 1 0 ≡ cond (nat_eq n (get_or xs i 0)) 1 0 = ap (λ y. cond (nat_eq n y) 1 0) (get_or-take size xs i 0 (omega (arith, e))) in
        omega (arith, step, there, whole)

module _ (b : List ℕ) (first end : ℕ) (marks : List Bool) (is : IsWindow b first end marks) where
  -- a node waits where it has the mark
  pub window-has : (n : ℕ) → has n (slice_range b first end) ≡ get_or marks n false
  window-has n = has-mark n (slice_range b first end) (get_or marks n false) (is.once n)

  -- those that wait are there
  pub window-low : (k : ℕ) → k < length (slice_range b first end) → get_or (slice_range b first end) k 0 < length marks
  window-low k low = marked_low marks (get_or (slice_range b first end) k 0) (sym (window-has (get_or (slice_range b first end) k 0)) ∙ has-at (get_or (slice_range b first end) k 0) (slice_range b first end) k low refl)

  -- where a node doesn't wait, fewer wait than there are
  pub window-few : (n : ℕ) → n < length marks → get_or marks n false ≡ false → length (slice_range b first end) < length marks
  window-few n low idle =
      omega (
        arith,
        occurs-total (length marks) (slice_range b first end) window-low,
        sum_below-lt (length marks) (λ k. occurs k (slice_range b first end)) (λ k. 1) (λ k k_low. omega (arith, is.once k, one (get_or marks k false))) n low (omega (arith, is.once n, none)),
        sum_below-bound (length marks) (λ k. 1) 1 (λ k k_low. omega arith),
      )
    where
      one : (t : Bool) → cond {A = ℕ} t 1 0 ≤ 1
      one true = omega arith
      one false = omega arith

      none : cond {A = ℕ} (get_or marks n false) 1 0 ≡ 0
      none = ap (λ t. cond t 1 0) idle

  -- a node comes in
  module _ (node : ℕ) (low : node < length marks) (idle : get_or marks node false ≡ false) (room : end < length b) where
    pub pushed : slice_range (set b end node) first (end + 1) ≡ slice_range b first end ++ node ∷ []
    pushed =
        ap (λ k. take k (drop first (set b end node))) size ∙ range-push b first (end - first) end node (omega (arith, is.ordered)) room
      where
        size : end + 1 - first ≡ suc (end - first)
        size = omega (arith, is.ordered)

    pub window-pushed : IsWindow (set b end node) first (end + 1) (set marks node true)
    window-pushed = record {
      long = length-set b end node ∙ is.long ∙ ap (λ k. 2 * k) (sym (length-set marks node true));
      ordered = omega (arith, is.ordered);
      within = omega (arith, room, length-set b end node);
      once = λ n. ap (occurs n) pushed ∙ occurs-push n node (slice_range b first end) ∙ by n (which n node);
    }
      where
        by : (n : ℕ) → (n ≡ node) ⊎ (n ≢ node) → occurs n (slice_range b first end) + cond (nat_eq n node) 1 0 ≡ cond (get_or (set marks node true) n false) 1 0
        by n (inl e) =
            let here : cond {A = ℕ} (nat_eq n node) 1 0 ≡ 1 = ap (λ t. cond t 1 0) (ap (λ k. nat_eq k node) e ∙ same_number node) in
            let was : cond {A = ℕ} (get_or marks n false) 1 0 ≡ 0 = ap (λ t. cond t 1 0) (ap (λ k. get_or marks k false) e ∙ idle) in
            let now : cond {A = ℕ} (get_or (set marks node true) n false) 1 0 ≡ 1 = ap (λ t. cond t 1 0) (ap (λ k. get_or (set marks node true) k false) e ∙ get_or-set_same marks node true false low) in
            omega (arith, is.once n, here, was, now)
        by n (inr e) =
            let here : cond {A = ℕ} (nat_eq n node) 1 0 ≡ 0 = ap (λ t. cond t 1 0) (apart_numbers n node e) in
            let now : cond {A = ℕ} (get_or (set marks node true) n false) 1 0 ≡ cond (get_or marks n false) 1 0 = ap (λ t. cond t 1 0) (get_or-set_other marks node n true false e) in
            omega (arith, is.once n, here, now)

  -- a node leaves, from the place i of the window
  module _ (i : ℕ) (i_low : i < length (slice_range b first end)) (b' : List ℕ) (first' end' : ℕ) (long : length b' ≡ length b) (ordered : first' ≤ end') (within : end' ≤ length b')
      (less : (n : ℕ) → occurs n (slice_range b' first' end') + cond (nat_eq n (get_or (slice_range b first end) i 0)) 1 0 ≡ occurs n (slice_range b first end)) where
    node : ℕ
    node = get_or (slice_range b first end) i 0

    was_marked : get_or marks node false ≡ true
    unfolding node
    was_marked = sym (window-has node) ∙ has-at node (slice_range b first end) i i_low refl

    other : (n : ℕ) → n ≢ node → occurs n (slice_range b' first' end') ≡ occurs n (slice_range b first end)
    unfolding node
    other n e =
        let here : cond {A = ℕ} (nat_eq n node) 1 0 ≡ 0 = ap (λ t. cond t 1 0) (apart_numbers n node e) in
        omega (arith, less n, here)

    gone : occurs node (slice_range b' first' end') ≡ 0
    unfolding node
    gone =
        let here : cond {A = ℕ} (nat_eq node node) 1 0 ≡ 1 = ap (λ t. cond t 1 0) (same_number node) in
        let mark : cond {A = ℕ} (get_or marks node false) 1 0 ≡ 1 = ap (λ t. cond t 1 0) was_marked in
        omega (arith, less node, here, mark, is.once node)

    pub window-left : IsWindow b' first' end' (set marks (get_or (slice_range b first end) i 0) false)
    unfolding node
    window-left = record {
      long = long ∙ is.long ∙ ap (λ k. 2 * k) (sym (length-set marks node false));
      ordered = ordered;
      within = within;
      once = λ n. by n (which n node);
    }
      where
        by : (n : ℕ) → (n ≡ node) ⊎ (n ≢ node) → occurs n (slice_range b' first' end') ≡ cond (get_or (set marks node false) n false) 1 0
        by n (inl e) =
            subst (λ k. occurs k (slice_range b' first' end') ≡ cond (get_or (set marks node false) k false) 1 0) (sym e)
            (gone ∙ sym (ap (λ t. cond {A = ℕ} t 1 0) (get_or-set_same marks node false false (marked_low marks node was_marked))))
        by n (inr e) = other n e ∙ is.once n ∙ sym (ap (λ t. cond {A = ℕ} t 1 0) (get_or-set_other marks node n false false e))

    pub removed : Removes (slice_range b first end) (slice_range b' first' end') (get_or (slice_range b first end) i 0)
    unfolding node
    removed = record {
      gone = has-occurs node (slice_range b' first' end') ∙ ap (λ k. nat_lt 0 k) gone;
      others = λ k e. has-by_occurs k (slice_range b' first' end') (slice_range b first end) (other k e);
    }

  -- what is left where the first leaves
  pub less_first : 0 < length (slice_range b first end) → (n : ℕ) → occurs n (slice_range b (first + 1) end) + cond (nat_eq n (get_or (slice_range b first end) 0 0)) 1 0 ≡ occurs n (slice_range b first end)
  less_first some n =
      ap (λ xs. occurs n xs + cond (nat_eq n (get_or (slice_range b first end) 0 0)) 1 0) rest ∙ head (slice_range b first end) some
    where
      rest : slice_range b (first + 1) end ≡ drop 1 (slice_range b first end)
      rest =
          let long = range-length b first end is.ordered is.within in
          let size : end - first ≡ suc (end - (first + 1)) = omega (arith, some, long) in
          let one : first + 1 ≡ suc first = omega arith in
          ap (λ k. take (end - (first + 1)) (drop k b)) one ∙ range-rest b first (end - (first + 1)) ∙ ap (λ k. drop 1 (take k (drop first b))) (sym size)

      head : (xs : List ℕ) → 0 < length xs → occurs n (drop 1 xs) + cond (nat_eq n (get_or xs 0 0)) 1 0 ≡ occurs n xs
      head [] h = absurd (omega arith)
      head (x ∷ xs) h = omega (arith, occurs-cons n x xs)

  -- and where the last takes the place of another
  module _ (i : ℕ) (i_low : i < length (slice_range b first end)) where
    pub left_is : slice_range (set b (first + i) (get_or b (end - 1) 0)) first (end - 1) ≡ without (slice_range b first end) i (end - 1 - first)
    unfolding without
    left_is =
        range-set b first (end - 1 - first) (first + i) i (get_or b (end - 1) 0) refl
        ∙ ap (λ xs. set xs i (get_or b (end - 1) 0)) shorter ∙ ap (λ x. set (take (end - 1 - first) (slice_range b first end)) i x) last
      where
        size : length (slice_range b first end) + first ≡ end
        size = range-length b first end is.ordered is.within

        shorter : take (end - 1 - first) (drop first b) ≡ take (end - 1 - first) (slice_range b first end)
        shorter = grind (arith, common_steps)

        last : get_or b (end - 1) 0 ≡ get_or (slice_range b first end) (end - 1 - first) 0
        last =
            let at : first + (end - 1 - first) ≡ end - 1 = omega (arith, size) in
            let low : end - 1 - first < end - first = omega (arith, size) in
            grind (arith, common_steps)

    pub less_last : (n : ℕ) → occurs n (slice_range (set b (first + i) (get_or b (end - 1) 0)) first (end - 1)) + cond (nat_eq n (get_or (slice_range b first end) i 0)) 1 0 ≡ occurs n (slice_range b first end)
    less_last n =
        let size = range-length b first end is.ordered is.within in
        ap (λ xs. occurs n xs + cond (nat_eq n (get_or (slice_range b first end) i 0)) 1 0) left_is
        ∙ occurs-without n (slice_range b first end) i (end - 1 - first) (omega (arith, size)) (omega (arith, size))

-- each node once, in the order of their numbers
pub occurs_in_order : (b : List ℕ) (count n : ℕ) → count ≤ length b → ((k : ℕ) → k < count → get_or b k 0 ≡ k) → occurs n (take count b) ≡ cond (nat_lt n count) 1 0
occurs_in_order b zero n low at = none (take zero b) (omega (arith, length-take zero b)) ∙ sym (ap (λ t. cond {A = ℕ} t 1 0) (not_below n))
  where
    not_below : (k : ℕ) → nat_lt k 0 ≡ false
    not_below k = grind (arith, nat_tests)

    none : (xs : List ℕ) → length xs ≡ 0 → occurs n xs ≡ 0
    none [] h = refl
    none (x ∷ xs) h = absurd (omega arith)
occurs_in_order b (suc count) n low at =
    ap (occurs n) (ap (λ k. take k b) one ∙ take_more b count 0 (omega arith)) ∙ occurs-push n (get_or b count 0) (take count b)
    ∙ ap (λ x. occurs n (take count b) + cond (nat_eq n x) 1 0) (at count (omega arith)) ∙ by (which n count) (occurs_in_order b count n (omega arith) (λ k k_low. at k (omega arith)))
  where
    one : suc count ≡ count + 1
    one = omega arith

    by : (n ≡ count) ⊎ (n ≢ count) → occurs n (take count b) ≡ cond (nat_lt n count) 1 0 → occurs n (take count b) + cond (nat_eq n count) 1 0 ≡ cond (nat_lt n (suc count)) 1 0
    by h so_far = grind (arith, nat_tests)

-- a window that was moved within its buffer, or to another of the same length
pub window-moved : (b b' : List ℕ) (first end first' end' : ℕ) (marks : List Bool) → IsWindow b first end marks → first' ≤ end' → end' ≤ length b' → length b' ≡ length b → slice_range b' first' end' ≡ slice_range b first end → IsWindow b' first' end' marks
window-moved b b' first end first' end' marks is ordered within long same = record {
  long = long ∙ is.long;
  ordered = ordered;
  within = within;
  once = λ n. ap (occurs n) same ∙ is.once n;
}

-- where a node doesn't wait, the window isn't the whole buffer
pub room_left : (b : List ℕ) (first end : ℕ) (marks : List Bool) (node : ℕ) → IsWindow b first end marks → node < length marks → get_or marks node false ≡ false → end < first + length b
room_left b first end marks node is low idle =
    omega (arith, window-few b first end marks is node low idle, range-length b first end is.ordered is.within, is.long)

-- what a list of nodes is when one more is let wait
pub added_new : (waiting new : List ℕ) (node : ℕ) → has node waiting ≡ false → new ≡ waiting ++ node ∷ [] → new ≡ (if has node waiting then waiting else waiting ++ node ∷ [])
added_new waiting new node absent is = is ∙ sym (ap (λ t. if t then waiting else waiting ++ node ∷ []) absent)

pub added_old : (waiting : List ℕ) (node : ℕ) → has node waiting ≡ true → waiting ≡ (if has node waiting then waiting else waiting ++ node ∷ [])
added_old waiting node there = sym (ap (λ t. if t then waiting else waiting ++ node ∷ []) there)

-- the node at a place of the window leaves
module _ (b : List ℕ) (first end : ℕ) (marks : List Bool) (is : IsWindow b first end marks) (i node : ℕ) (low : i < length (slice_range b first end)) (node_is : node ≡ get_or b (first + i) node) where
  pub node_at : get_or (slice_range b first end) i 0 ≡ node
  node_at =
      let size = range-length b first end is.ordered is.within in
      get_or-take (end - first) (drop first b) i 0 (omega (arith, size)) ∙ get_or-drop first b i 0 ∙ get_or_default b (first + i) 0 node (omega (arith, size, is.within)) ∙ sym node_is

  pub node_low : node < length marks
  node_low = subst (λ n. n < length marks) node_at (window-low b first end marks is i low)

  pub first_left : i ≡ 0 → IsWindow b (first + 1) end (set marks node false) × Removes (slice_range b first end) (slice_range b (first + 1) end) node
  first_left e =
      let size = range-length b first end is.ordered is.within in
      let some : 0 < length (slice_range b first end) = omega (arith, low) in
      let at : get_or (slice_range b first end) 0 0 ≡ node = ap (λ k. get_or (slice_range b first end) k 0) (sym e) ∙ node_at in
      let left = window-left b first end marks is 0 some b (first + 1) end refl (omega (arith, size)) is.within (less_first b first end marks is some) in
      let gone = removed b first end marks is 0 some b (first + 1) end refl (omega (arith, size)) is.within (less_first b first end marks is some) in
      (subst (λ n. IsWindow b (first + 1) end (set marks n false)) at left, subst (λ n. Removes (slice_range b first end) (slice_range b (first + 1) end) n) at gone)

  pub last_moves : (v : ℕ) → v ≡ get_or b (end - 1) v → IsWindow (set b (first + i) v) first (end - 1) (set marks node false) × Removes (slice_range b first end) (slice_range (set b (first + i) v) first (end - 1)) node
  last_moves v v_is =
      let size = range-length b first end is.ordered is.within in
      let at : get_or b (end - 1) 0 ≡ v = get_or_default b (end - 1) 0 v (omega (arith, size, is.within)) ∙ sym v_is in
      let left = window-left b first end marks is i low (set b (first + i) (get_or b (end - 1) 0)) first (end - 1) (length-set b (first + i) (get_or b (end - 1) 0)) (omega (arith, size)) (omega (arith, length-set b (first + i) (get_or b (end - 1) 0), is.within)) (less_last b first end marks is i low) in
      let gone = removed b first end marks is i low (set b (first + i) (get_or b (end - 1) 0)) first (end - 1) (length-set b (first + i) (get_or b (end - 1) 0)) (omega (arith, size)) (omega (arith, length-set b (first + i) (get_or b (end - 1) 0), is.within)) (less_last b first end marks is i low) in (
        subst (λ n. IsWindow (set b (first + i) v) first (end - 1) (set marks n false)) node_at (subst (λ w. IsWindow (set b (first + i) w) first (end - 1) (set marks (get_or (slice_range b first end) i 0) false)) at left),
        subst (λ n. Removes (slice_range b first end) (slice_range (set b (first + i) v) first (end - 1)) n) node_at (subst (λ w. Removes (slice_range b first end) (slice_range (set b (first + i) w) first (end - 1)) (get_or (slice_range b first end) i 0)) at gone),
      )

-- every node waits, in the order of their numbers
pub window-all : (b : List ℕ) (marks : List Bool) (nodes : ℕ) → length b ≡ 2 * nodes → length marks ≡ nodes → ((k : ℕ) → k < nodes → get_or b k 0 ≡ k) → ((k : ℕ) → k < nodes → get_or marks k false ≡ true) → IsWindow b 0 nodes marks
window-all b marks nodes long marks_long in_order marked = record {
  long = omega (arith, long, marks_long);
  ordered = omega arith;
  within = omega (arith, long);
  once = λ n. ap (λ k. occurs n (take k (drop 0 b))) whole ∙ occurs_in_order b nodes n (omega (arith, long)) in_order ∙ ap (λ t. cond {A = ℕ} t 1 0) (is_marked n (side n nodes));
}
  where
    whole : nodes - 0 ≡ nodes
    whole = omega arith

    below_test : (a c : ℕ) → a < c → nat_lt a c ≡ true
    below_test a c h = grind (arith, nat_tests)

    past_test : (a c : ℕ) → c ≤ a → nat_lt a c ≡ false
    past_test a c h = grind (arith, nat_tests)

    unmarked : (n : ℕ) → nodes ≤ n → (t : Bool) → get_or marks n false ≡ t → t ≡ false
    unmarked n past true is = absurd (omega (arith, marked_low marks n is, marks_long))
    unmarked n past false is = refl

    is_marked : (n : ℕ) → (n < nodes) ⊎ (nodes ≤ n) → nat_lt n nodes ≡ get_or marks n false
    is_marked n (inl low) = below_test n nodes low ∙ sym (marked n low)
    is_marked n (inr past) = past_test n nodes past ∙ sym (unmarked n past (get_or marks n false) refl)
