-- Marks of the numbers that wait.
use Rattle.std.proofs.Common.{◌≡◌, ◌≢◌, ◌⊎◌, inl, inr, ℕ, zero, suc, ◌<◌, ◌≤◌, Bool, true, false, cond, ◌||◌, eqb, List, [], ◌∷◌, ◌++◌, length, get_or, set, refl, sym, ap, ◌∙◌, subst, arith, get_or-set_same, get_or-set_other}
use Rattle.std.specs.List.{IsDistinct}
use Rattle.std.specs.Cmp.{nat_eq_equiv}
use Rattle.std.proofs.lemmas.Bool.{false≢true}
use Rattle.std.proofs.lemmas.List.Folds.{list_any-append, list_any_none}
use Rattle.std.proofs.lemmas.Map.Keys.{apart_from_distinct, IsDistinct-push}
use Rattle.std.proofs.lemmas.Map.Steps.{length-le_from_distinct_below}
use Rattle.sp_base_sets.specs.Sets.{has}
use Rattle.sp_base_sets.specs.Marks.{IsMarked}
use Rattle.sp_base_sets.proofs.Members.{which, eqb-refl, eqb-apart}

or-false_right : (b : Bool) → (b || false) ≡ b
or-false_right true = refl
or-false_right false = refl

or-comm : (a b : Bool) → (a || b) ≡ (b || a)
or-comm true true = refl
or-comm true false = refl
or-comm false true = refl
or-comm false false = refl

pub has-push : (k n : ℕ) (xs : List ℕ) → has k (xs ++ n ∷ []) ≡ (eqb k n || has k xs)
has-push k n xs = list_any-append (eqb k) xs (n ∷ []) ∙ ap (λ b. has k xs || b) (or-false_right (eqb k n)) ∙ or-comm (has k xs) (eqb k n)

pub mark-set : (marks : List Bool) (n k : ℕ) (b : Bool) → n < length marks → get_or (set marks n b) k false ≡ cond (eqb k n) b (get_or marks k false)
mark-set marks n k b low = by (which k n)
  where
    by : (k ≡ n) ⊎ (k ≢ n) → get_or (set marks n b) k false ≡ cond (eqb k n) b (get_or marks k false)
    by (inl e) =
        subst (λ j. get_or (set marks n b) j false ≡ cond (eqb j n) b (get_or marks j false)) (sym e)
        (get_or-set_same marks n b false low ∙ sym (ap (λ t. cond t b (get_or marks n false)) (eqb-refl n)))
    by (inr apart) = get_or-set_other marks n k b false apart ∙ sym (ap (λ t. cond t b (get_or marks k false)) (eqb-apart k n apart))

pub mark_low : (marks : List Bool) (n : ℕ) → get_or marks n false ≡ true → n < length marks
mark_low [] n h = absurd (false≢true h)
mark_low (b ∷ marks) zero h = omega arith
mark_low (b ∷ marks) (suc n) h = omega (arith, mark_low marks n h)

cond-or : (e r : Bool) → (e || r) ≡ cond e true r
cond-or true r = refl
cond-or false r = refl

pub marked_pushed : (marks : List Bool) (xs : List ℕ) (n : ℕ) → n < length marks → IsMarked marks xs → get_or marks n false ≡ false → IsMarked (set marks n true) (xs ++ n ∷ [])
marked_pushed marks xs n low is free = record {
  once = IsDistinct-push nat_eq_equiv xs n is.once (is.marked n ∙ free);
  marked = λ k. has-push k n xs ∙ ap (λ b. eqb k n || b) (is.marked k) ∙ cond-or (eqb k n) (get_or marks k false) ∙ sym (mark-set marks n k true low);
}

pub marked_popped : (marks : List Bool) (xs : List ℕ) (n : ℕ) → IsMarked marks (n ∷ xs) → IsMarked (set marks n false) xs
unfolding IsDistinct
marked_popped marks xs n is = record {
  once = is.once.1;
  marked = λ k. by k (which k n);
}
  where
    there : has n (n ∷ xs) ≡ true
    there = ap (λ b. b || has n xs) (eqb-refl n)

    low : n < length marks
    low = mark_low marks n (sym (is.marked n) ∙ there)

    gone : has n xs ≡ false
    gone = list_any_none (eqb n) xs (λ k d k_low. apart_from_distinct eqb (n ∷ xs) 0 (suc k) d is.once (omega arith) (omega arith))

    by : (k : ℕ) → (k ≡ n) ⊎ (k ≢ n) → has k xs ≡ get_or (set marks n false) k false
    by k (inl e) = ap (λ j. has j xs) e ∙ gone ∙ sym (ap (λ j. get_or (set marks n false) j false) e ∙ get_or-set_same marks n false false low)
    by k (inr apart) = ap (λ b. b || has k xs) (sym (eqb-apart k n apart)) ∙ is.marked k ∙ sym (get_or-set_other marks n k false false apart)

pub marked_few : (marks : List Bool) (xs : List ℕ) → IsMarked marks xs → length xs ≤ length marks
marked_few marks xs is = length-le_from_distinct_below xs (length marks) is.once (λ n h. mark_low marks n (sym (is.marked n) ∙ h))

pub marked_none : (marks : List Bool) → ((n : ℕ) → get_or marks n false ≡ false) → IsMarked marks []
unfolding IsDistinct
marked_none marks none = record { once = tt; marked = λ n. sym (none n) }

pub marked_first : (marks : List Bool) (xs : List ℕ) (n : ℕ) → IsMarked marks (n ∷ xs) → n < length marks
marked_first marks xs n is = mark_low marks n (sym (is.marked n) ∙ ap (λ b. b || has n xs) (eqb-refl n))
