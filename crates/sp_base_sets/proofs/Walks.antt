-- What a walk along lists reaches.
use Rattle.std.proofs.Common.{◌≡◌, ◌⊎◌, ◌↔◌, inl, inr, ℕ, zero, suc, ◌+◌, ◌<◌, ◌≤◌, Bool, true, false, ◌||◌, eqb, List, [], ◌∷◌, ◌++◌, length, get_or, take, refl, sym, ap, ◌∙◌, subst, arith}
use Rattle.std.proofs.lemmas.Bool.{false≢true}
use Rattle.std.proofs.lemmas.List.{append_assoc, get_or_default}
use Rattle.std.proofs.lemmas.List.Folds.{list_any_more}
use Rattle.sp_base_sets.specs.Sets.{has}
use Rattle.sp_base_sets.specs.Reached.{row, Reached, start, onward}
use Rattle.sp_base_sets.specs.Walking.{IsListed, Comes}
use Rattle.sp_base_sets.specs.declared.reach.Walk.{Walk}
use Rattle.sp_base_sets.proofs.Members.{has_there}
use Rattle.sp_base_sets.proofs.Images.{or-cases, or-left, or-right, place_of}
use Rattle.sp_base_sets.proofs.Marking.{marked_few, mark_low}

-- what stands in the order is reached, and what the numbers so far lead to stands there
pub record Walks (lists : List (List ℕ)) (starts : List ℕ) (w : Walk) (at : ℕ) : Type 0 where
  pub listed : IsListed (length lists) w
  pub begun : (n : ℕ) → has n starts ≡ true → has n w.order.items ≡ true
  pub sound : (n : ℕ) → has n w.order.items ≡ true → Reached lists starts n
  pub behind : (i : ℕ) → i < at → i < length w.order.items → (g : ℕ) → has g (row lists (get_or w.order.items i 0)) ≡ true → has g w.order.items ≡ true

get_or-front : (xs ys : List ℕ) (i : ℕ) → i < length xs → get_or (xs ++ ys) i 0 ≡ get_or xs i 0
get_or-front [] ys i low = absurd (omega arith)
get_or-front (x ∷ xs) ys zero low = refl
get_or-front (x ∷ xs) ys (suc i) low = get_or-front xs ys i (omega arith)

pub walk_begins : (lists : List (List ℕ)) (starts : List ℕ) (none w : Walk) → none.order.items ≡ [] → IsListed (length lists) w → Comes starts none w → Walks lists starts w 0
walk_begins lists starts none w empty listed comes = record {
  listed = listed;
  begun = λ n h. comes.exact n ∙ or-right (has n none.order.items) (has n starts) h;
  sound = λ n h. start (from n (or-cases (has n none.order.items) (has n starts) (sym (comes.exact n) ∙ h)));
  behind = λ i low there g h. absurd (omega (arith, low));
}
  where
    from : (n : ℕ) → (has n none.order.items ≡ true) ⊎ (has n starts ≡ true) → has n starts ≡ true
    from n (inl h) = absurd (false≢true (sym (ap (λ xs. has n xs) empty) ∙ h))
    from n (inr h) = h

pub walk_more : (lists : List (List ℕ)) (starts : List ℕ) (w new : Walk) (at number : ℕ) → Walks lists starts w at → at < length w.order.items → number ≡ get_or w.order.items at 0 → IsListed (length lists) new → Comes (row lists number) w new → Walks lists starts new (at + 1)
walk_more lists starts w new at number walks low is listed comes = record {
  listed = listed;
  begun = λ n h. comes.exact n ∙ or-left (has n w.order.items) (has n (row lists number)) (walks.begun n h);
  sound = λ f h. from f (or-cases (has f w.order.items) (has f (row lists number)) (sym (comes.exact f) ∙ h));
  behind = λ i i_low i_there g h. covered i g h (side i i_low);
}
  where
    here : has number w.order.items ≡ true
    here = has_there w.order.items number at low (sym is)

    from : (f : ℕ) → (has f w.order.items ≡ true) ⊎ (has f (row lists number) ≡ true) → Reached lists starts f
    from f (inl h) = walks.sound f h
    from f (inr h) = onward (walks.sound number here) h

    side : (i : ℕ) → i < at + 1 → (i < at) ⊎ (i ≡ at)
    side i h = grind arith

    same : (i : ℕ) → i < length w.order.items → get_or new.order.items i 0 ≡ get_or w.order.items i 0
    same i h = ap (λ xs. get_or xs i 0) comes.order ∙ get_or-front w.order.items comes.rest i h

    covered : (i g : ℕ) → has g (row lists (get_or new.order.items i 0)) ≡ true → (i < at) ⊎ (i ≡ at) → has g new.order.items ≡ true
    covered i g h (inl less) =
        let there : i < length w.order.items = omega (arith, less, low) in
        comes.exact g ∙ or-left (has g w.order.items) (has g (row lists number)) (walks.behind i less there g (sym (ap (λ k. has g (row lists k)) (same i there)) ∙ h))
    covered i g h (inr e) =
        let there : i < length w.order.items = omega (arith, e, low) in
        let to : get_or new.order.items i 0 ≡ number = same i there ∙ ap (λ k. get_or w.order.items k 0) e ∙ sym is in
        comes.exact g ∙ or-right (has g w.order.items) (has g (row lists number)) (sym (ap (λ k. has g (row lists k)) to) ∙ h)

pub all_reached : (lists : List (List ℕ)) (starts : List ℕ) (w : Walk) (at : ℕ) → Walks lists starts w at → length w.order.items ≤ at → (n : ℕ) → (get_or w.is_reached.items n false ≡ true) ↔ Reached lists starts n
all_reached lists starts w at walks done n = (λ h. walks.sound n (walks.listed.0.marked n ∙ h), λ r. sym (walks.listed.0.marked n) ∙ along r)
  where
    next : (mid to : ℕ) → has mid w.order.items ≡ true → has to (row lists mid) ≡ true → has to w.order.items ≡ true
    next mid to h calls =
        let one = place_of w.order.items mid h in
        walks.behind one.0 (omega (arith, one.1, done)) one.1 to (subst (λ k. has to (row lists k) ≡ true) (sym one.2) calls)

    along : {to : ℕ} → Reached lists starts to → has to w.order.items ≡ true
    along {to} (start h) = walks.begun to h
    along {to} (onward {mid} r calls) = next mid to (along r) calls

pub comes_more : (a b d : Walk) (numbers : List ℕ) (i : ℕ) → i < length numbers → Comes (take i numbers) a b → Comes (get_or numbers i 0 ∷ []) b d → Comes (take (i + 1) numbers) a d
comes_more a b d numbers i low first second = record {
  rest = first.rest ++ second.rest;
  order = second.order ∙ ap (λ xs. xs ++ second.rest) first.order ∙ append_assoc a.order.items first.rest second.rest;
  exact = λ n. second.exact n ∙ ap (λ b. b || (eqb n (get_or numbers i 0) || false)) (first.exact n) ∙ regroup (has n a.order.items) (has n (take i numbers)) (eqb n (get_or numbers i 0)) ∙ ap (λ b. has n a.order.items || b) (sym (list_any_more (eqb n) numbers i 0 low));
}
  where
    regroup : (a b c : Bool) → ((a || b) || (c || false)) ≡ (a || (b || c))
    regroup true b c = refl
    regroup false true c = refl
    regroup false false true = refl
    regroup false false false = refl

pub walk_few : (lists : List (List ℕ)) (starts : List ℕ) (w : Walk) (at : ℕ) → Walks lists starts w at → length w.order.items ≤ length lists
walk_few lists starts w at walks = omega (arith, marked_few w.is_reached.items w.order.items walks.listed.0, walks.listed.1)

pub walk_low : (lists : List (List ℕ)) (starts : List ℕ) (w : Walk) (at number : ℕ) → Walks lists starts w at → at < length w.order.items → number ≡ get_or w.order.items at number → number < length lists
walk_low lists starts w at number walks low is =
    let there = has_there w.order.items number at low (sym (is ∙ get_or_default w.order.items at number 0 low)) in
    omega (arith, mark_low w.is_reached.items number (sym (walks.listed.0.marked number) ∙ there), walks.listed.1)
