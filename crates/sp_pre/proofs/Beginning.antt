-- At first no row has anything.
use Rattle.std.proofs.Common.{◌≡◌, ◌∙◌, ℕ, zero, suc, true, List, [], replicate, refl, sym, ap, subst, arith}
use Rattle.std.proofs.lemmas.Bool.{false≢true}
use Rattle.sp_base_sets.specs.Sets.{has, Ascends}
use Rattle.sp_base_sets.specs.Reached.{row}

abbrev Nothing : ℕ → List (List ℕ)
Nothing count = replicate count []

row_none : (count c : ℕ) → row (Nothing count) c ≡ []
row_none zero c = refl
row_none (suc n) zero = refl
row_none (suc n) (suc c) = row_none n c

pub none_has : (rows : List (List ℕ)) (count c n : ℕ) → rows ≡ Nothing count → has n (row rows c) ≡ true → ⊥
none_has rows count c n is h = false≢true (sym (ap (λ xs. has n (row xs c)) is ∙ ap (λ xs. has n xs) (row_none count c)) ∙ h)

ascends_none : Ascends []
ascends_none i j d less low = omega (arith, low)

pub none_ascend : (rows : List (List ℕ)) (count c : ℕ) → rows ≡ Nothing count → Ascends (row rows c)
none_ascend rows count c is = subst Ascends (sym (ap (λ xs. row xs c) is ∙ row_none count c)) ascends_none
