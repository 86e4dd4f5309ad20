-- How the lists of the nodes that use each location come about.
use Rattle.std.proofs.Common.{◌≡◌, ◌≢◌, ◌⊎◌, inl, inr, ℕ, ◌+◌, ◌<◌, Bool, true, false, ◌&&◌, ◌||◌, eqb, ltb, List, [], ◌∷◌, ◌++◌, length, get_or, take, refl, sym, ap, ◌∙◌, subst, arith, length-set, get_or-set_same, get_or-set_other}
use Rattle.std.specs.Prelude.{AllPairs}
use Rattle.std.specs.List.Sorted.{IsStrictlyIncreasing}
use Rattle.std.proofs.lemmas.Bool.{false≢true}
use Rattle.std.proofs.lemmas.Bool.Decides.{nat_tests}
use Rattle.std.proofs.lemmas.List.{get_or-take, get_or_default, length-take-le}
use Rattle.std.proofs.lemmas.List.Folds.{list_any_none}
use Rattle.std.proofs.lemmas.List.Kept.{AllPairs-from_increasing}
use Rattle.std.proofs.lemmas.List.Quantifiers.{all_pairs_push}
use Rattle.sp_lattice.specs.System.{Meaning, has}
use Rattle.sp_lattice.specs.Flat.{row_at}
use Rattle.sp_deps.specs.inner.Grouped.{added}
use Rattle.sp_deps.proofs.Lists.{which, eqb-refl, eqb-apart, has-push, has-take_more, has-get_or}
use Rattle.sp_deps.proofs.Bools.{or-false_right, and-false_right}

-- what stands at a place of a rising list isn't among those before it
rising-new : (xs : List ℕ) (i d : ℕ) → IsStrictlyIncreasing xs → i < length xs → has (get_or xs i d) (take i xs) ≡ false
rising-new xs i d rises low = list_any_none (eqb (get_or xs i d)) (take i xs) apart
  where
    apart : (k e : ℕ) → k < length (take i xs) → eqb (get_or xs i d) (get_or (take i xs) k e) ≡ false
    apart k e h =
        let k_low : k < i = omega (arith, length-take-le i xs (omega arith)) in
        let less = AllPairs-from_increasing xs rises k i d k_low low in
        let same = get_or-take i xs k e k_low ∙ get_or_default xs k e d (omega arith) in
        eqb-apart (get_or xs i d) (get_or (take i xs) k e) (omega (arith, less, same))

-- the nodes below one have been looked at, and that one's uses of a part
pub record Using {V : Type 0} (m : Meaning V) (lists : List (List ℕ)) (node : ℕ) (part : List ℕ) : Type 0 where
  pub long : length lists ≡ m.locations
  pub ascending : (l : ℕ) → AllPairs (λ x y. x < y) (row_at lists l)
  pub exact : (l n : ℕ) → l < m.locations → has n (row_at lists l) ≡ (ltb n node && has l (m.uses n) || eqb n node && has l part)

one_more : (a e h : Bool) → ((a || e && h) || e) ≡ (a || e && (h || true))
one_more true e h = refl
one_more false true true = refl
one_more false true false = refl
one_more false false h = refl

module _ {V : Type 0} (m : Meaning V) where
  -- one more of the node's uses
  module _ (lists : List (List ℕ)) (node u : ℕ) (uses : List ℕ) (i d : ℕ) (low : i < length uses) (rises : IsStrictlyIncreasing uses) (is_u : u ≡ get_or uses i d) (u_low : u < m.locations) (so_far : Using m lists node (take i uses)) where
    same_list : row_at (added lists u node) u ≡ row_at lists u ++ node ∷ []
    same_list = get_or-set_same lists u (row_at lists u ++ node ∷ []) [] (omega (arith, u_low, so_far.long))

    other_list : (l : ℕ) → l ≢ u → row_at (added lists u node) l ≡ row_at lists l
    other_list l apart = get_or-set_other lists u l (row_at lists u ++ node ∷ []) [] apart

    part_more : (l : ℕ) → has l (take (i + 1) uses) ≡ (has l (take i uses) || eqb l u)
    part_more l = has-take_more l i d uses low ∙ ap (λ k. has l (take i uses) || eqb l k) (sym is_u)

    exact : (l n : ℕ) → l < m.locations → (l ≡ u) ⊎ (l ≢ u) → has n (row_at (added lists u node) l) ≡ (ltb n node && has l (m.uses n) || eqb n node && has l (take (i + 1) uses))
    exact l n l_low (inl e) =
        ap (λ k. has n (row_at (added lists u node) k)) e ∙ ap (λ xs. has n xs) same_list ∙ has-push n node (row_at lists u) ∙ ap (λ b. b || eqb n node) (ap (λ k. has n (row_at lists k)) (sym e) ∙ so_far.exact l n l_low)
        ∙ one_more (ltb n node && has l (m.uses n)) (eqb n node) (has l (take i uses))
        ∙ ap (λ b. ltb n node && has l (m.uses n) || eqb n node && (has l (take i uses) || b)) (sym (ap (λ k. eqb k u) e ∙ eqb-refl u))
        ∙ ap (λ b. ltb n node && has l (m.uses n) || eqb n node && b) (sym (part_more l))
    exact l n l_low (inr apart) =
        ap (λ xs. has n xs) (other_list l apart) ∙ so_far.exact l n l_low
        ∙ ap (λ b. ltb n node && has l (m.uses n) || eqb n node && b) (sym (or-false_right (has l (take i uses))) ∙ ap (λ b. has l (take i uses) || b) (sym (eqb-apart l u apart)) ∙ sym (part_more l))

    earlier : (n : ℕ) → has n (row_at lists u) ≡ true → n < node
    earlier n h =
        smaller n (ltb n node) (has u (m.uses n)) (eqb n node && has u (take i uses)) refl
        (ap (λ b. eqb n node && b) (ap (λ k. has k (take i uses)) is_u ∙ rising-new uses i d rises low) ∙ and-false_right (eqb n node)) (sym (so_far.exact u n u_low) ∙ h)
      where
        smaller : (n : ℕ) (a b c : Bool) → ltb n node ≡ a → c ≡ false → (a && b || c) ≡ true → n < node
        smaller n true b c is e h = grind (arith, nat_tests)
        smaller n false b c is e h = absurd (false≢true (sym e ∙ h))

    ascending : (l : ℕ) → (l ≡ u) ⊎ (l ≢ u) → AllPairs (λ x y. x < y) (row_at (added lists u node) l)
    ascending l (inl e) =
        subst (λ k. AllPairs (λ x y. x < y) (row_at (added lists u node) k)) (sym e)
        (subst (λ xs. AllPairs (λ x y. x < y) xs) (sym same_list)
        (all_pairs_push (λ x y. x < y) (row_at lists u) node (so_far.ascending u) (λ k e h. earlier (get_or (row_at lists u) k e) (has-get_or (row_at lists u) k e h))))
    ascending l (inr apart) = subst (λ xs. AllPairs (λ x y. x < y) xs) (sym (other_list l apart)) (so_far.ascending l)

    pub using_more : Using m (added lists u node) node (take (i + 1) uses)
    using_more = record {
      long = length-set lists u (row_at lists u ++ node ∷ []) ∙ so_far.long;
      ascending = λ l. ascending l (which l u);
      exact = λ l n l_low. exact l n l_low (which l u);
    }
