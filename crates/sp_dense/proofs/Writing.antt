-- Values written over a row, from the back.
use Rattle.std.proofs.Common.{◌≡◌, ◌≢◌, ℕ, ◌+◌, ◌-◌, ◌<◌, ◌≤◌, Bool, true, false, cond, eqb, List, ◌∷◌, length, get_or, set, take, drop, Some, refl, sym, ap, ◌∙◌, subst, arith, eqb-true, get_or-set_same, get_or-set_other}
use Rattle.std.proofs.lemmas.Bool.{false≢true}
use Rattle.std.proofs.lemmas.Bool.Decides.{nat_tests}
use Rattle.std.proofs.lemmas.List.{drop_more, get_or-take}
use Rattle.std.proofs.lemmas.Grind.{common_steps}
use Rattle.sp_lattice.specs.System.{written}

-- what isn't equal by the test isn't equal
apart : (k l : ℕ) → eqb k l ≡ false → k ≢ l
apart k l h = λ same. absurd (false≢true (sym h ∙ (grind (arith, nat_tests))))

module _ {V : Type 0} where
  -- a front of a list, and its last value, after that is taken away
  pub front_less : (all items rest : List V) (n k : ℕ) → k + 1 ≡ n → items ≡ take n all → rest ≡ take (n - 1) items → rest ≡ take k all
  front_less all items rest n k e front less =
      let size : n - 1 ≡ k = omega arith in
      less ∙ ap (λ j. take j items) size ∙ ap (λ xs. take k xs) front ∙ take_front all n k (omega arith)
    where
      take_front : (xs : List V) (i j : ℕ) → j ≤ i → take j (take i xs) ≡ take j xs
      take_front xs i j h = grind (arith, common_steps)

  pub last_of_front : (all items : List V) (n k : ℕ) (value d : V) → k + 1 ≡ n → items ≡ take n all → Some value ≡ Some (get_or items (n - 1) d) → value ≡ get_or all k d
  last_of_front all items n k value d e front is =
      let size : n - 1 ≡ k = omega arith in
      let value_is : value ≡ get_or items (n - 1) d = cc in
      value_is ∙ ap (λ j. get_or items j d) size ∙ ap (λ xs. get_or xs k d) front ∙ get_or-take n all k d (omega arith)

  -- one more value, in front of those that are written
  pub written_more : (store : ℕ → V) (now : List V) (places : List ℕ) (values : List V) (k l : ℕ) (value d : V) → k < length places → k < length values → value ≡ get_or values k d → l < length now → get_or now l d ≡ written store (drop (k + 1) places) (drop (k + 1) values) l → get_or (set now (get_or places k 0) value) l d ≡ written store (drop k places) (drop k values) l
  written_more store now places values k l value d low v_low at within so_far =
      by (eqb l (get_or places k 0)) refl ∙ sym (ap (λ ps. written store ps (drop k values) l) (drop_more places k 0 low) ∙ ap (λ vs. written store (get_or places k 0 ∷ drop (k + 1) places) vs l) (drop_more values k d v_low))
    where
      by : (b : Bool) → eqb l (get_or places k 0) ≡ b → get_or (set now (get_or places k 0) value) l d ≡ cond b (get_or values k d) (written store (drop (k + 1) places) (drop (k + 1) values) l)
      by true is =
          let same : l ≡ get_or places k 0 = eqb-true l (get_or places k 0) is in
          subst (λ p. get_or (set now p value) l d ≡ get_or values k d) same (get_or-set_same now l value d within ∙ at)
      by false is = get_or-set_other now (get_or places k 0) l value d (apart l (get_or places k 0) is) ∙ so_far
