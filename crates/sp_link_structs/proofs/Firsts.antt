-- The first element of a list of which something holds.
use Rattle.std.proofs.Common.{◌≡◌, ℕ, ◌+◌, ◌<◌, List, [], ◌∷◌, length, drop, get_or, Option, inl, inr, ap, sym, ◌∙◌, add-one, drop-cons}
use Rattle.sp_link_structs.specs.Matched.{IsFirst}

pub drop_is : {A : Type 0} (xs : List A) (i : ℕ) (d : A) → i < length xs → drop i xs ≡ get_or xs i d ∷ drop (i + 1) xs
drop_is xs i d inside = drop-cons xs i d inside ∙ ap (λ n. get_or xs i d ∷ drop n xs) (sym (add-one i))

-- there is one
pub one_first : {A : Type 0} (P : A → Type 0) (xs : List A) (r s : Option A) → IsFirst P xs r → IsFirst P xs s → r ≡ s
one_first P [] r s h g = h ∙ sym g
one_first P (x ∷ xs) r s (inl h) (inl g) = h.1 ∙ sym g.1
one_first P (x ∷ xs) r s (inl h) (inr g) = absurd (g.0 h.0)
one_first P (x ∷ xs) r s (inr h) (inl g) = absurd (h.0 g.0)
one_first P (x ∷ xs) r s (inr h) (inr g) = one_first P xs r s h.1 g.1
