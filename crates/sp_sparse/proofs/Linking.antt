-- The links of a definition: the pairs that leave its node stand side by side where they have its location.
use Rattle.std.proofs.Common.{◌≡◌, ◌⊎◌, inl, inr, ℕ, zero, suc, ◌+◌, ◌-◌, ◌<◌, ◌≤◌, Bool, true, false, ◌&&◌, ◌||◌, nat_eq, nat_lt, nat_le, List, [], ◌∷◌, ◌++◌, length, get_or, take, drop, refl, sym, ap, ◌∙◌, subst, arith, eqb-true}
use Rattle.std.specs.Prelude.{slice_range}
use Rattle.std.specs.List.{list_any}
use Rattle.std.specs.List.Sorted.{IsPartitionPoint, IsPartitionedBy, IsStrictlyIncreasing}
use Rattle.std.proofs.lemmas.Bool.{false≢true}
use Rattle.std.proofs.lemmas.Bool.Decides.{nat_tests}
use Rattle.std.proofs.lemmas.Grind.{common_steps}
use Rattle.sp_lattice.specs.System.{Meaning, has}
use Rattle.sp_deps.specs.Rows.{same_pair, is_before, Ascends}
use Rattle.sp_sparse.specs.inner.Links.{AreLinks, UsedAt}
use Rattle.sp_sparse.proofs.Numbers.{side, same_number}

or-true : (a b : Bool) → b ≡ true → (a || b) ≡ true
or-true true b h = refl
or-true false b h = h

and-parts : (a b : Bool) → (a && b) ≡ true → (a ≡ true) × (b ≡ true)
and-parts true b h = (refl, h)
and-parts false b h = absurd (false≢true h)

same_itself : (p : ℕ × ℕ) → same_pair p p ≡ true
same_itself p = ap (λ b. b && nat_eq p.1 p.1) (same_number p.0) ∙ same_number p.1

-- a pair of a list is found in it
pub found_at : (pairs : List (ℕ × ℕ)) (k : ℕ) (d : ℕ × ℕ) → k < length pairs → list_any (same_pair (get_or pairs k d)) pairs ≡ true
found_at [] k d low = absurd (omega arith)
found_at (p ∷ pairs) zero d low = ap (λ b. b || list_any (same_pair p) pairs) (same_itself p)
found_at (p ∷ pairs) (suc k) d low = or-true (same_pair (get_or pairs k d) p) (list_any (same_pair (get_or pairs k d)) pairs) (found_at pairs k d (omega arith))

-- and what is found stands somewhere
pub found_where : (pairs : List (ℕ × ℕ)) (l c : ℕ) → list_any (same_pair (l, c)) pairs ≡ true → (k : ℕ) × (k < length pairs) × ((d : ℕ × ℕ) → ((get_or pairs k d).0 ≡ l) × ((get_or pairs k d).1 ≡ c))
found_where [] l c h = absurd (false≢true h)
found_where (p ∷ pairs) l c h = by (same_pair (l, c) p) refl h (found_where pairs l c)
  where
    by : (b : Bool) → same_pair (l, c) p ≡ b → (b || list_any (same_pair (l, c)) pairs) ≡ true → (list_any (same_pair (l, c)) pairs ≡ true → (k : ℕ) × (k < length pairs) × ((d : ℕ × ℕ) → ((get_or pairs k d).0 ≡ l) × ((get_or pairs k d).1 ≡ c))) → (k : ℕ) × (k < length (p ∷ pairs)) × ((d : ℕ × ℕ) → ((get_or (p ∷ pairs) k d).0 ≡ l) × ((get_or (p ∷ pairs) k d).1 ≡ c))
    by true is k more =
        let parts = and-parts (nat_eq l p.0) (nat_eq c p.1) is in
        let at_l = eqb-true l p.0 parts.0 in
        let at_c = eqb-true c p.1 parts.1 in
        (0, omega arith, λ d. (sym at_l, sym at_c))
    by false is k more = let r = more k in (suc r.0, omega (arith, r.1), r.2)

module _ (pairs : List (ℕ × ℕ)) (ascends : Ascends pairs) (l : ℕ) where
  first_rises : (p q : ℕ × ℕ) → is_before p q ≡ true → p.0 ≤ q.0
  first_rises p q h = grind (arith, nat_tests)

  firsts_rise : (i j : ℕ) (d : ℕ × ℕ) → i ≤ j → j < length pairs → (get_or pairs i d).0 ≤ (get_or pairs j d).0
  firsts_rise i j d le low = by (near i j le)
    where
      near : (a b : ℕ) → a ≤ b → (a ≡ b) ⊎ (a < b)
      near a b h = grind arith

      by : (i ≡ j) ⊎ (i < j) → (get_or pairs i d).0 ≤ (get_or pairs j d).0
      by (inl e) = omega (arith, ap (λ k. (get_or pairs k d).0) e)
      by (inr less) = first_rises (get_or pairs i d) (get_or pairs j d) (ascends i j d less low)

  -- both searches go by the location
  pub parted_below : IsPartitionedBy (λ p. nat_lt p.0 l) pairs
  parted_below i j d le low h = less (get_or pairs i d).0 (get_or pairs j d).0 (firsts_rise i j d le low) h
    where
      less : (a b : ℕ) → a ≤ b → nat_lt b l ≡ true → nat_lt a l ≡ true
      less a b k t = grind (arith, nat_tests)

  pub parted_upto : IsPartitionedBy (λ p. nat_le p.0 l) pairs
  parted_upto i j d le low h = less (get_or pairs i d).0 (get_or pairs j d).0 (firsts_rise i j d le low) h
    where
      less : (a b : ℕ) → a ≤ b → nat_le b l ≡ true → nat_le a l ≡ true
      less a b k t = grind (arith, nat_tests)

  module _ (first end : ℕ) (first_low : first ≤ length pairs) (end_low : end ≤ length pairs) (lower : IsPartitionPoint (λ p. nat_lt p.0 l ≡ true) (λ p. nat_lt p.0 l ≡ false) pairs first) (upper : IsPartitionPoint (λ p. nat_le p.0 l ≡ true) (λ p. nat_le p.0 l ≡ false) pairs end) where
    pub in_order : first ≤ end
    in_order = by (side end first)
      where
        clash : (a : ℕ) → nat_lt a l ≡ true → nat_le a l ≡ false → ⊥
        clash a h k = grind (arith, nat_tests)

        by : (end < first) ⊎ (first ≤ end) → first ≤ end
        by (inl less) = absurd (clash (get_or pairs end (0, 0)).0 (lower.0 end (0, 0) (omega arith) less) (upper.1 end (0, 0) (omega arith) (omega (arith, less, first_low))))
        by (inr le) = le

    pub own_long : length (slice_range pairs first end) + first ≡ end
    own_long = long pairs first end in_order end_low
      where
        long : (xs : List (ℕ × ℕ)) (a b : ℕ) → a ≤ b → b ≤ length xs → length (slice_range xs a b) + a ≡ b
        long xs a b order within = grind (arith, common_steps)

    pub own_is : (k : ℕ) (d : ℕ × ℕ) → k < length (slice_range pairs first end) → get_or (slice_range pairs first end) k d ≡ get_or pairs (first + k) d
    own_is k d low = at_slice pairs first end k (omega (arith, low, own_long))
      where
        at_drop : (xs : List (ℕ × ℕ)) (a i : ℕ) → get_or (drop a xs) i d ≡ get_or xs (a + i) d
        at_drop xs a i = grind (arith, common_steps)

        at_take : (xs : List (ℕ × ℕ)) (b i : ℕ) → i < b → get_or (take b xs) i d ≡ get_or xs i d
        at_take xs b i less = grind (arith, common_steps)

        at_slice : (xs : List (ℕ × ℕ)) (a b i : ℕ) → i + a < b → get_or (slice_range xs a b) i d ≡ get_or xs (a + i) d
        at_slice xs a b i less = at_take (drop a xs) (b - a) i (omega arith) ∙ at_drop xs a i

    -- the pairs between the two places have the location
    pub own_location : (k : ℕ) (d : ℕ × ℕ) → k < length (slice_range pairs first end) → (get_or (slice_range pairs first end) k d).0 ≡ l
    own_location k d low = ap (λ (p : ℕ × ℕ). p.0) (own_is k d low) ∙ same (get_or pairs (first + k) d).0 (lower.1 (first + k) d (omega arith) (omega (arith, low, own_long, end_low))) (upper.0 (first + k) d (omega arith) (omega (arith, low, own_long)))
      where
        same : (a : ℕ) → nat_lt a l ≡ false → nat_le a l ≡ true → a ≡ l
        same a h k' = grind (arith, nat_tests)

    -- and no others have it
    own_where : (k : ℕ) → k < length pairs → (get_or pairs k (0, 0)).0 ≡ l → (first ≤ k) × (k < end)
    own_where k low at = (after (side k first), before (side k end))
      where
        not_less : nat_lt (get_or pairs k (0, 0)).0 l ≡ true → ⊥
        not_less h = clash (get_or pairs k (0, 0)).0 at h
          where
            clash : (a : ℕ) → a ≡ l → nat_lt a l ≡ true → ⊥
            clash a e t = grind (arith, nat_tests)

        not_more : nat_le (get_or pairs k (0, 0)).0 l ≡ false → ⊥
        not_more h = clash (get_or pairs k (0, 0)).0 at h
          where
            clash : (a : ℕ) → a ≡ l → nat_le a l ≡ false → ⊥
            clash a e t = grind (arith, nat_tests)

        after : (k < first) ⊎ (first ≤ k) → first ≤ k
        after (inl less) = absurd (not_less (lower.0 k (0, 0) (omega arith) less))
        after (inr le) = le

        before : (k < end) ⊎ (end ≤ k) → k < end
        before (inl less) = less
        before (inr le) = absurd (not_more (upper.1 k (0, 0) le low))

    pub own_all : (to : ℕ) → list_any (same_pair (l, to)) pairs ≡ true → (k : ℕ) × (k < length (slice_range pairs first end)) × ((d : ℕ × ℕ) → (get_or (slice_range pairs first end) k d).1 ≡ to)
    own_all to h = by (found_where pairs l to h)
      where
        by : (k : ℕ) × (k < length pairs) × ((d : ℕ × ℕ) → ((get_or pairs k d).0 ≡ l) × ((get_or pairs k d).1 ≡ to)) → (k : ℕ) × (k < length (slice_range pairs first end)) × ((d : ℕ × ℕ) → (get_or (slice_range pairs first end) k d).1 ≡ to)
        by at =
            let within = own_where at.0 at.1 (at.2 (0, 0)).0 in
            let low : at.0 - first < length (slice_range pairs first end) = omega (arith, within.0, within.1, own_long) in
            let back : first + (at.0 - first) ≡ at.0 = omega (arith, within.0) in
            (at.0 - first, low, λ d. ap (λ (p : ℕ × ℕ). p.1) (own_is (at.0 - first) d low ∙ ap (λ i. get_or pairs i d) back) ∙ (at.2 d).1)

module _ {V : Type 0} (m : Meaning V) (pairs : List (ℕ × ℕ)) (ascends : Ascends pairs) (l : ℕ) (first end : ℕ) (first_low : first ≤ length pairs) (end_low : end ≤ length pairs) (lower : IsPartitionPoint (λ p. nat_lt p.0 l ≡ true) (λ p. nat_lt p.0 l ≡ false) pairs first) (upper : IsPartitionPoint (λ p. nat_le p.0 l ≡ true) (λ p. nat_le p.0 l ≡ false) pairs end) where
  -- the targets of such pairs use the location
  pub own_used : UsedAt m pairs → (k : ℕ) (d : ℕ × ℕ) → k < length (slice_range pairs first end) → ((get_or (slice_range pairs first end) k d).1 < m.nodes) × (has l (m.uses (get_or (slice_range pairs first end) k d).1) ≡ true)
  own_used used k d low =
      let is = own_is pairs ascends l first end first_low end_low lower upper k d low in
      let long = own_long pairs ascends l first end first_low end_low lower upper in
      let at = used (first + k) d (omega (arith, low, long, end_low)) in
      let location = own_location pairs ascends l first end first_low end_low lower upper k d low in
      let here = subst (λ (p : ℕ × ℕ). (p.1 < m.nodes) × (has p.0 (m.uses p.1) ≡ true)) (sym is) at in
      (here.0, ap (λ j. has j (m.uses (get_or (slice_range pairs first end) k d).1)) (sym location) ∙ here.1)

-- a place of an ascending list isn't past what stands there
pub place_low : (xs : List ℕ) (k : ℕ) → IsStrictlyIncreasing xs → k < length xs → k ≤ get_or xs k 0
place_low xs zero rises low = omega arith
place_low xs (suc k) rises low =
    let before = place_low xs k rises (omega arith) in
    let step = rises k (omega arith) in
    let next : k + 1 ≡ suc k = omega arith in
    omega (arith, before, step, ap (λ i. get_or xs i 0) next)

-- the links so far: to the targets of the pairs so far, each at the place of the location among the target's uses
pub record IsLinking {V : Type 0} (m : Meaning V) (l : ℕ) (own links : List (ℕ × ℕ)) (count : ℕ) : Type 0 where
  pub long : length links ≡ count
  pub target : (k : ℕ) (d e : ℕ × ℕ) → k < count → (get_or links k d).0 ≡ (get_or own k e).1
  pub within : (k : ℕ) (d : ℕ × ℕ) → k < count → (get_or links k d).1 < length (m.uses (get_or links k d).0)
  pub there : (k : ℕ) (d : ℕ × ℕ) → k < count → get_or (m.uses (get_or links k d).0) (get_or links k d).1 0 ≡ l

module _ {V : Type 0} (m : Meaning V) (l : ℕ) (own : List (ℕ × ℕ)) where
  pub linking_more : (links : List (ℕ × ℕ)) (count to place : ℕ) → IsLinking m l own links count → count < length own → ((d : ℕ × ℕ) → to ≡ (get_or own count d).1) → place < length (m.uses to) → get_or (m.uses to) place 0 ≡ l → IsLinking m l own (links ++ (to, place) ∷ []) (count + 1)
  linking_more links count to place so_far low is within there = record {
    long = omega (arith, length-push links, so_far.long);
    target = λ k d e less. target k d e (near k count less);
    within = λ k d less. by k d (λ p. p.1 < length (m.uses p.0)) (near k count less) (λ h. so_far.within k d h) within;
    there = λ k d less. by k d (λ p. get_or (m.uses p.0) p.1 0 ≡ l) (near k count less) (λ h. so_far.there k d h) there;
  }
    where
      near : (k n : ℕ) → k < n + 1 → (k < n) ⊎ (k ≡ n)
      near k n h = grind arith

      length-push : (xs : List (ℕ × ℕ)) → length (xs ++ (to, place) ∷ []) ≡ length xs + 1
      length-push xs = grind (arith, common_steps)

      at_last : (xs : List (ℕ × ℕ)) (k : ℕ) (d : ℕ × ℕ) → k ≡ length xs → get_or (xs ++ (to, place) ∷ []) k d ≡ (to, place)
      at_last [] zero d e = refl
      at_last [] (suc k) d e = absurd (omega (arith, e))
      at_last (x ∷ xs) zero d e = absurd (omega (arith, e))
      at_last (x ∷ xs) (suc k) d e = at_last xs k d (omega (arith, e))

      at_other : (xs : List (ℕ × ℕ)) (k : ℕ) (d : ℕ × ℕ) → k < length xs → get_or (xs ++ (to, place) ∷ []) k d ≡ get_or xs k d
      at_other [] k d h = absurd (omega arith)
      at_other (x ∷ xs) zero d h = refl
      at_other (x ∷ xs) (suc k) d h = at_other xs k d (omega arith)

      by : (k : ℕ) (d : ℕ × ℕ) (P : ℕ × ℕ → Type 0) → (k < count) ⊎ (k ≡ count) → (k < count → P (get_or links k d)) → P (to, place) → P (get_or (links ++ (to, place) ∷ []) k d)
      by k d P (inl less) old new = subst P (sym (at_other links k d (omega (arith, less, so_far.long)))) (old less)
      by k d P (inr same) old new = subst P (sym (at_last links k d (omega (arith, same, so_far.long)))) new

      target : (k : ℕ) (d e : ℕ × ℕ) → (k < count) ⊎ (k ≡ count) → (get_or (links ++ (to, place) ∷ []) k d).0 ≡ (get_or own k e).1
      target k d e (inl less) = ap (λ (p : ℕ × ℕ). p.0) (at_other links k d (omega (arith, less, so_far.long))) ∙ so_far.target k d e less
      target k d e (inr same) = ap (λ (p : ℕ × ℕ). p.0) (at_last links k d (omega (arith, same, so_far.long))) ∙ is e ∙ ap (λ i. (get_or own i e).1) (sym same)

module _ {V : Type 0} (m : Meaning V) (l : ℕ) (pairs : List (ℕ × ℕ)) (ascends : Ascends pairs) (first end : ℕ) (first_low : first ≤ length pairs) (end_low : end ≤ length pairs) (lower : IsPartitionPoint (λ p. nat_lt p.0 l ≡ true) (λ p. nat_lt p.0 l ≡ false) pairs first) (upper : IsPartitionPoint (λ p. nat_le p.0 l ≡ true) (λ p. nat_le p.0 l ≡ false) pairs end) (links : List (ℕ × ℕ)) (done : IsLinking m l (slice_range pairs first end) links (length (slice_range pairs first end))) where
  told : (k : ℕ) (d : ℕ × ℕ) → k < length links → list_any (same_pair (l, (get_or links k d).0)) pairs ≡ true
  told k d low =
      let own_low : k < length (slice_range pairs first end) = omega (arith, low, done.long) in
      let is = own_is pairs ascends l first end first_low end_low lower upper k d own_low in
      let long = own_long pairs ascends l first end first_low end_low lower upper in
      let found = found_at pairs (first + k) d (omega (arith, own_low, long, end_low)) in
      let location = ap (λ (p : ℕ × ℕ). p.0) (sym is) ∙ own_location pairs ascends l first end first_low end_low lower upper k d own_low in
      let target = ap (λ (p : ℕ × ℕ). p.1) (sym is) ∙ sym (done.target k d d own_low) in
      subst (λ a. list_any (same_pair (a, (get_or links k d).0)) pairs ≡ true) location
      (subst (λ b. list_any (same_pair ((get_or pairs (first + k) d).0, b)) pairs ≡ true) target found)

  pub linking_done : AreLinks m (λ _ j to. list_any (same_pair (j, to)) pairs) 0 l links
  linking_done = record {
    each = λ k d low. record {
      depends = told k d low;
      within = done.within k d (omega (arith, low, done.long));
      there = done.there k d (omega (arith, low, done.long));
    };
    all = λ to h. every to (own_all pairs ascends l first end first_low end_low lower upper to h);
  }
    where
      every : (to : ℕ) → (k : ℕ) × (k < length (slice_range pairs first end)) × ((d : ℕ × ℕ) → (get_or (slice_range pairs first end) k d).1 ≡ to) → (k : ℕ) × (k < length links) × ((d : ℕ × ℕ) → (get_or links k d).0 ≡ to)
      every to at = (at.0, omega (arith, at.1, done.long), λ d. done.target at.0 d d at.1 ∙ at.2 d)
