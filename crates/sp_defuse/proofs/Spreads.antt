-- A location spreads along calls backwards.
use Rattle.std.proofs.Common.{◌≡◌, ◌≢◌, ◌⊎◌, ◌↔◌, inl, inr, ℕ, zero, suc, ◌+◌, ◌<◌, ◌≤◌, Bool, true, false, nat_eq, ◌||◌, List, [], ◌∷◌, ◌++◌, length, take, get_or, set, replicate, refl, sym, ap, ◌∙◌, subst, arith, get_or-set_same, get_or-set_other, length-set}
use Rattle.std.proofs.lemmas.Bool.{false≢true}
use Rattle.std.proofs.lemmas.List.{append-nil, append_assoc, map-set, length-map, length-replicate}
use Rattle.std.proofs.lemmas.List.Folds.{list_any_more, list_any-append}
use Rattle.sp_base_sets.specs.Sets.{has}
use Rattle.sp_base_sets.specs.Marks.{IsMarked}
use Rattle.sp_base_sets.specs.Reached.{row, Reached, start, onward}
use Rattle.sp_base_sets.proofs.Members.{has_there}
use Rattle.sp_base_sets.proofs.Images.{or-cases, or-left, or-right, place_of}
use Rattle.sp_base_sets.proofs.Marking.{marked_pushed, marked_none, marked_few, mark_low}
use Rattle.sp_effect_rows.proofs.Numbers.{which, side, same_number, apart_numbers}
use Rattle.sp_defuse.specs.declared.spreading.Spread.{Spread}
use Rattle.sp_defuse.specs.Spreading.{marks_of, IsListed, Keeps, Comes}
use Rattle.sp_defuse.proofs.Adding.{nothing-there}

-- ---- sets and marks

pub mark-is : (l : ℕ) (sets : List (List ℕ)) (f : ℕ) → get_or (marks_of l sets) f false ≡ has l (row sets f)
mark-is l [] f = refl
mark-is l (s ∷ sets) zero = refl
mark-is l (s ∷ sets) (suc f) = mark-is l sets f

keeps-same : (l : ℕ) (sets : List (List ℕ)) → Keeps l sets sets
keeps-same l sets = record { long = refl; others = λ f k apart. refl }

pub keeps-then : (l : ℕ) (a b d : List (List ℕ)) → Keeps l a b → Keeps l b d → Keeps l a d
keeps-then l a b d first second = record {
  long = second.long ∙ first.long;
  others = λ f k apart. second.others f k apart ∙ first.others f k apart;
}

-- one set in which no other number changed
keeps-set : (l : ℕ) (sets : List (List ℕ)) (f : ℕ) (new : List ℕ) → f < length sets → ((k : ℕ) → k ≢ l → has k new ≡ has k (row sets f)) → Keeps l sets (set sets f new)
keeps-set l sets f new low same = record {
  long = length-set sets f new;
  others = λ g k apart. by g k apart (which g f);
}
  where
    by : (g k : ℕ) → k ≢ l → (g ≡ f) ⊎ (g ≢ f) → has k (row (set sets f new) g) ≡ has k (row sets g)
    by g k apart (inl e) = subst (λ h. has k (row (set sets f new) h) ≡ has k (row sets h)) (sym e) (ap (has k) (get_or-set_same sets f new [] low) ∙ same k apart)
    by g k apart (inr other) = ap (has k) (get_or-set_other sets f g new [] other)

marks-set : (l : ℕ) (sets : List (List ℕ)) (f : ℕ) (new : List ℕ) → has l new ≡ true → marks_of l (set sets f new) ≡ set (marks_of l sets) f true
marks-set l sets f new there = map-set (has l) sets f new ∙ ap (set (marks_of l sets) f) there

-- where there was a mark already
set-marked : (marks : List Bool) (f : ℕ) → get_or marks f false ≡ true → set marks f true ≡ marks
set-marked [] f h = refl
set-marked (b ∷ marks) zero h = ap (λ c. c ∷ marks) (sym h)
set-marked (b ∷ marks) (suc f) h = ap (λ ms. b ∷ ms) (set-marked marks f h)

module _ (l : ℕ) (s s' : Spread) (f : ℕ) (count : ℕ) (new : List ℕ) (listed : IsListed count l s) (low : f < length s.sets.items) (sets_are : s'.sets.items ≡ set s.sets.items f new) (numbers : (k : ℕ) → has k new ≡ (nat_eq k l || has k (row s.sets.items f))) where
  there : has l new ≡ true
  there = numbers l ∙ ap (λ b. b || has l (row s.sets.items f)) (same_number l)

  others : (k : ℕ) → k ≢ l → has k new ≡ has k (row s.sets.items f)
  others k apart = numbers k ∙ ap (λ b. b || has k (row s.sets.items f)) (apart_numbers k l apart)

  kept : Keeps l s.sets.items s'.sets.items
  kept = subst (Keeps l s.sets.items) (sym sets_are) (keeps-set l s.sets.items f new low others)

  long : length s'.sets.items ≡ count
  long = kept.long ∙ listed.long

  marks_are : marks_of l s'.sets.items ≡ set (marks_of l s.sets.items) f true
  marks_are = ap (marks_of l) sets_are ∙ marks-set l s.sets.items f new there

  marks_low : f < length (marks_of l s.sets.items)
  marks_low = omega (arith, low, length-map s.sets.items (has l))

  -- the location is new there
  module _ (order_is : s'.order.items ≡ s.order.items ++ f ∷ []) (fresh : has l (row s.sets.items f) ≡ false) where
    pub given-listed : IsListed count l s'
    given-listed = record {
      marked = subst (IsMarked (marks_of l s'.sets.items)) (sym order_is) (subst (λ marks. IsMarked marks (s.order.items ++ f ∷ [])) (sym marks_are)
          (marked_pushed (marks_of l s.sets.items) s.order.items f marks_low listed.marked (mark-is l s.sets.items f ∙ fresh)));
      long = long;
    }

    pub given-comes : Comes l (f ∷ []) s s'
    given-comes = record {
      kept = kept;
      rest = f ∷ [];
      order = order_is;
      exact = λ g. ap (has g) order_is ∙ list_any-append (nat_eq g) s.order.items (f ∷ []);
    }

  -- it was there
  module _ (order_is : s'.order.items ≡ s.order.items) (old : has l (row s.sets.items f) ≡ true) where
    marked-there : get_or (marks_of l s.sets.items) f false ≡ true
    marked-there = mark-is l s.sets.items f ∙ old

    pub same-listed : IsListed count l s'
    same-listed = record {
      marked = subst (IsMarked (marks_of l s'.sets.items)) (sym order_is) (subst (λ marks. IsMarked marks s.order.items) (sym (marks_are ∙ set-marked (marks_of l s.sets.items) f marked-there)) listed.marked);
      long = long;
    }

    pub same-comes : Comes l (f ∷ []) s s'
    same-comes = record {
      kept = kept;
      rest = [];
      order = order_is ∙ sym (append-nil s.order.items);
      exact = λ g. ap (has g) order_is ∙ by g (which g f);
    }
      where
        or-absorbs : (a b : Bool) → (b ≡ true → a ≡ true) → a ≡ (a || b)
        or-absorbs true b h = refl
        or-absorbs false true h = h refl
        or-absorbs false false h = refl

        by : (g : ℕ) → (g ≡ f) ⊎ (g ≢ f) → has g s.order.items ≡ (has g s.order.items || has g (f ∷ []))
        by g (inl e) = or-absorbs (has g s.order.items) (has g (f ∷ [])) (λ h. listed.marked.marked g ∙ ap (λ k. get_or (marks_of l s.sets.items) k false) e ∙ marked-there)
        by g (inr apart) = or-absorbs (has g s.order.items) (has g (f ∷ [])) (λ h. absurd (false≢true (sym (ap (λ b. b || false) (apart_numbers g f apart)) ∙ h)))

pub none-listed : (l : ℕ) (s : Spread) → s.order.items ≡ [] → ((f : ℕ) → has l (row s.sets.items f) ≡ false) → IsListed (length s.sets.items) l s
none-listed l s empty fresh = record {
  marked = subst (IsMarked (marks_of l s.sets.items)) (sym empty) (marked_none (marks_of l s.sets.items) (λ f. mark-is l s.sets.items f ∙ fresh f));
  long = refl;
}

-- ---- one function after another

pub comes-begun : (l : ℕ) (s : Spread) → Comes l [] s s
comes-begun l s = record {
  kept = keeps-same l s.sets.items;
  rest = [];
  order = sym (append-nil s.order.items);
  exact = λ f. or-none (has f s.order.items);
}
  where
    or-none : (b : Bool) → b ≡ (b || false)
    or-none true = refl
    or-none false = refl

pub comes-more : (l : ℕ) (a b d : Spread) (functions : List ℕ) (i : ℕ) → i < length functions → Comes l (take i functions) a b → Comes l (get_or functions i 0 ∷ []) b d → Comes l (take (i + 1) functions) a d
comes-more l a b d functions i low first second = record {
  kept = keeps-then l a.sets.items b.sets.items d.sets.items first.kept second.kept;
  rest = first.rest ++ second.rest;
  order = second.order ∙ ap (λ xs. xs ++ second.rest) first.order ∙ append_assoc a.order.items first.rest second.rest;
  exact = λ f. second.exact f ∙ ap (λ b. b || (nat_eq f (get_or functions i 0) || false)) (first.exact f) ∙ regroup (has f a.order.items) (has f (take i functions)) (nat_eq f (get_or functions i 0)) ∙ ap (λ b. has f a.order.items || b) (sym (list_any_more (nat_eq f) functions i 0 low));
}
  where
    regroup : (a b c : Bool) → ((a || b) || (c || false)) ≡ (a || (b || c))
    regroup true b c = refl
    regroup false true c = refl
    regroup false false true = refl
    regroup false false false = refl

-- ---- all that calls lead from

get_or-front : (xs ys : List ℕ) (i : ℕ) → i < length xs → get_or (xs ++ ys) i 0 ≡ get_or xs i 0
get_or-front [] ys i low = absurd (omega arith)
get_or-front (x ∷ xs) ys zero low = refl
get_or-front (x ∷ xs) ys (suc i) low = get_or-front xs ys i (omega arith)

module _ (callers : List (List ℕ)) (owners : List ℕ) (l : ℕ) (first : List (List ℕ)) where
  -- what stands in the order is reached, and the callers of the functions so far stand there
  pub record Walks (s : Spread) (at : ℕ) : Type 0 where
    pub kept : Keeps l first s.sets.items
    pub listed : IsListed (length callers) l s
    pub begun : (f : ℕ) → has f owners ≡ true → has f s.order.items ≡ true
    pub sound : (f : ℕ) → has f s.order.items ≡ true → Reached callers owners f
    pub behind : (i : ℕ) → i < at → i < length s.order.items → (g : ℕ) → has g (row callers (get_or s.order.items i 0)) ≡ true → has g s.order.items ≡ true

  pub walk-begins : (none s : Spread) → none.sets.items ≡ first → none.order.items ≡ [] → IsListed (length callers) l s → Comes l owners none s → Walks s 0
  walk-begins none s same empty listed comes = record {
    kept = subst (λ sets. Keeps l sets s.sets.items) same comes.kept;
    listed = listed;
    begun = λ f h. comes.exact f ∙ or-right (has f none.order.items) (has f owners) h;
    sound = λ f h. start (from f (or-cases (has f none.order.items) (has f owners) (sym (comes.exact f) ∙ h)));
    behind = λ i low there g h. absurd (omega (arith, low));
  }
    where
      from : (f : ℕ) → (has f none.order.items ≡ true) ⊎ (has f owners ≡ true) → has f owners ≡ true
      from f (inl h) = absurd (false≢true (sym (ap (has f) empty) ∙ h))
      from f (inr h) = h

  pub walk-more : (s new : Spread) (at number : ℕ) → Walks s at → at < length s.order.items → number ≡ get_or s.order.items at 0 → IsListed (length callers) l new → Comes l (row callers number) s new → Walks new (at + 1)
  walk-more s new at number walks low is listed comes = record {
    kept = keeps-then l first s.sets.items new.sets.items walks.kept comes.kept;
    listed = listed;
    begun = λ f h. comes.exact f ∙ or-left (has f s.order.items) (has f (row callers number)) (walks.begun f h);
    sound = λ f h. from f (or-cases (has f s.order.items) (has f (row callers number)) (sym (comes.exact f) ∙ h));
    behind = λ i i_low i_there g h. covered i g h (turn i i_low);
  }
    where
      here : has number s.order.items ≡ true
      here = has_there s.order.items number at low (sym is)

      from : (f : ℕ) → (has f s.order.items ≡ true) ⊎ (has f (row callers number) ≡ true) → Reached callers owners f
      from f (inl h) = walks.sound f h
      from f (inr h) = onward (walks.sound number here) h

      turn : (i : ℕ) → i < at + 1 → (i < at) ⊎ (i ≡ at)
      turn i h = grind arith

      same : (i : ℕ) → i < length s.order.items → get_or new.order.items i 0 ≡ get_or s.order.items i 0
      same i h = ap (λ xs. get_or xs i 0) comes.order ∙ get_or-front s.order.items comes.rest i h

      covered : (i g : ℕ) → has g (row callers (get_or new.order.items i 0)) ≡ true → (i < at) ⊎ (i ≡ at) → has g new.order.items ≡ true
      covered i g h (inl less) =
          let there : i < length s.order.items = omega (arith, less, low) in
          comes.exact g ∙ or-left (has g s.order.items) (has g (row callers number)) (walks.behind i less there g (sym (ap (λ k. has g (row callers k)) (same i there)) ∙ h))
      covered i g h (inr e) =
          let there : i < length s.order.items = omega (arith, e, low) in
          let to : get_or new.order.items i 0 ≡ number = same i there ∙ ap (λ k. get_or s.order.items k 0) e ∙ sym is in
          comes.exact g ∙ or-right (has g s.order.items) (has g (row callers number)) (sym (ap (λ k. has g (row callers k)) to) ∙ h)

  pub walk-few : (s : Spread) (at : ℕ) → Walks s at → length s.order.items ≤ length callers
  walk-few s at walks = omega (arith, marked_few (marks_of l s.sets.items) s.order.items walks.listed.marked, length-map s.sets.items (has l), walks.listed.long)

  pub walk-low : (s : Spread) (at number : ℕ) → Walks s at → at < length s.order.items → number ≡ get_or s.order.items at 0 → number < length callers
  walk-low s at number walks low is =
      let there = has_there s.order.items number at low (sym is) in
      omega (arith, mark_low (marks_of l s.sets.items) number (sym (walks.listed.marked.marked number) ∙ there), length-map s.sets.items (has l), walks.listed.long)

  pub all-reached : (s : Spread) (at : ℕ) → Walks s at → length s.order.items ≤ at → (f : ℕ) → (has l (row s.sets.items f) ≡ true) ↔ Reached callers owners f
  all-reached s at walks done f = (λ h. walks.sound f (walks.listed.marked.marked f ∙ mark-is l s.sets.items f ∙ h), λ r. sym (mark-is l s.sets.items f) ∙ sym (walks.listed.marked.marked f) ∙ along r)
    where
      next : (mid to : ℕ) → has mid s.order.items ≡ true → has to (row callers mid) ≡ true → has to s.order.items ≡ true
      next mid to h calls =
          let one = place_of s.order.items mid h in
          walks.behind one.0 (omega (arith, one.1, done)) one.1 to (subst (λ k. has to (row callers k) ≡ true) (sym one.2) calls)

      along : {to : ℕ} → Reached callers owners to → has to s.order.items ≡ true
      along {to} (start h) = walks.begun to h
      along {to} (onward {mid} r calls) = next mid to (along r) calls

-- ---- all locations

nowhere : (callers : List (List ℕ)) (f : ℕ) → Reached callers [] f → ⊥
nowhere callers f (start h) = false≢true h
nowhere callers f (onward {mid} r h) = nowhere callers mid r

past-end : (lists : List (List ℕ)) (k : ℕ) → length lists ≤ k → row lists k ≡ []
past-end [] k h = refl
past-end (x ∷ lists) zero h = absurd (omega (arith, h))
past-end (x ∷ lists) (suc k) h = past-end lists k (omega (arith, h))

module _ (callers owners : List (List ℕ)) where
  pub record AreSpread (count : ℕ) (sets : List (List ℕ)) : Type 0 where
    pub long : length sets ≡ length callers
    pub found : (f k : ℕ) → (has k (row sets f) ≡ true) ↔ ((k < count) × Reached callers (row owners k) f)

  pub none-spread : (n : ℕ) (none : List (List ℕ)) → none ≡ replicate n [] → n ≡ length callers → AreSpread 0 none
  none-spread n none empty many = record {
    long = ap length empty ∙ length-replicate n [] ∙ many;
    found = λ f k. (λ h. absurd (false≢true (sym (ap (λ xs. has k (row xs f)) empty ∙ nothing-there n f k) ∙ h)), λ h. absurd (omega (arith, h.0)));
  }

  pub spread-fresh : (l : ℕ) (sets : List (List ℕ)) → AreSpread l sets → (f : ℕ) → has l (row sets f) ≡ false
  spread-fresh l sets are f = by (has l (row sets f)) refl
    where
      by : (b : Bool) → has l (row sets f) ≡ b → b ≡ false
      by true h = absurd (omega (arith, ((are.found f l).0 h).0))
      by false h = refl

  pub spread-more : (l : ℕ) (old new : List (List ℕ)) → AreSpread l old → Keeps l old new → ((f : ℕ) → (has l (row new f) ≡ true) ↔ Reached callers (row owners l) f) → AreSpread (l + 1) new
  spread-more l old new are keeps exact = record {
    long = keeps.long ∙ are.long;
    found = λ f k. (λ h. to f k h (which k l), λ h. from f k h.0 h.1 (which k l));
  }
    where
      to : (f k : ℕ) → has k (row new f) ≡ true → (k ≡ l) ⊎ (k ≢ l) → (k < l + 1) × Reached callers (row owners k) f
      to f k h (inl e) = (omega (arith, e), subst (λ m. Reached callers (row owners m) f) (sym e) ((exact f).0 (subst (λ m. has m (row new f) ≡ true) e h)))
      to f k h (inr apart) = let two = (are.found f k).0 (sym (keeps.others f k apart) ∙ h) in (omega (arith, two.0), two.1)

      from : (f k : ℕ) → k < l + 1 → Reached callers (row owners k) f → (k ≡ l) ⊎ (k ≢ l) → has k (row new f) ≡ true
      from f k low r (inl e) = subst (λ m. has m (row new f) ≡ true) (sym e) ((exact f).1 (subst (λ m. Reached callers (row owners m) f) e r))
      from f k low r (inr apart) = keeps.others f k apart ∙ (are.found f k).1 (omega (arith, low, apart), r)

  pub all-spread : (count : ℕ) (sets : List (List ℕ)) → AreSpread count sets → length owners ≤ count → (f k : ℕ) → (has k (row sets f) ≡ true) ↔ Reached callers (row owners k) f
  all-spread count sets are all f k = (λ h. ((are.found f k).0 h).1, λ r. by r (side k count))
    where
      by : Reached callers (row owners k) f → (k < count) ⊎ (count ≤ k) → has k (row sets f) ≡ true
      by r (inl low) = (are.found f k).1 (low, r)
      by r (inr past) = absurd (nowhere callers f (subst (λ xs. Reached callers xs f) (past-end owners k (omega (arith, past, all))) r))
