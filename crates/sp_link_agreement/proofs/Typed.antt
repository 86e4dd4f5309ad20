-- Types are compatible where they are apart from the structs inside, and those agree.
use Rattle.std.proofs.Common.{◌≡◌, ◌<◌, ◌≤◌, ◌+◌, ℕ, zero, suc, Bool, true, List, [], ◌∷◌, length, drop, get_or, Some, refl, ap, sym, subst, ◌∙◌, drop-cons, add-one, drop_of_length-le}
use Rattle.std.specs.Prelude.{slice_get}
use Rattle.sp_types.specs.Types.{CType, Struct}
use Rattle.sp_link_agreement.specs.Agreement.{compatible_by}
use Rattle.sp_link_agreement.specs.Depths.{agrees_within, Agree, TypesAgree, EachAgrees}
use Rattle.sp_link_agreement.specs.Inner.{any_two, inner}
use Rattle.sp_link_agreement.proofs.Parts.{both_and, and_left, and_right, passes, types-parts}
use Rattle.sp_link_agreement.proofs.Members.{get_at, passes_at, all_pass}

abbrev level : List (List Struct) → ℕ → ℕ → ℕ → ℕ → ℕ → Bool
level us u v n k j = agrees_within n us (u, k) (v, j)

module _ (us : List (List Struct)) (u v : ℕ) (t w : CType) where
  pub types_from : compatible_by any_two t w ≡ true → EachAgrees us u v (inner t w) → TypesAgree us (u, t) (v, w)
  types_from alike each n =
      types-parts (level us u v n) t w ∙ both_and alike (all_pass (level us u v n) (inner t w) (λ i q e. each i q e n))

  pub types_alike : TypesAgree us (u, t) (v, w) → compatible_by any_two t w ≡ true
  types_alike h = and_left (compatible_by any_two t w) (passes (level us u v zero) (inner t w)) (sym (types-parts (level us u v zero) t w) ∙ h zero)

  pub types_to : TypesAgree us (u, t) (v, w) → EachAgrees us u v (inner t w)
  types_to h i q e n =
      passes_at (level us u v n) (inner t w) i q
      (and_right (compatible_by any_two t w) (passes (level us u v n) (inner t w)) (sym (types-parts (level us u v n) t w) ∙ h n)) e

-- ---- one after another

module _ (us : List (List Struct)) (u v : ℕ) (qs : List (ℕ × ℕ)) (i : ℕ) (inside : i < length qs) where
  here : drop i qs ≡ get_or qs i (0, 0) ∷ drop (i + 1) qs
  here = drop-cons qs i (0, 0) inside ∙ ap (λ n. get_or qs i (0, 0) ∷ drop n qs) (sym (add-one i))

  each_more : Agree us (u, (get_or qs i (0, 0)).0) (v, (get_or qs i (0, 0)).1) → EachAgrees us u v (drop (i + 1) qs) → EachAgrees us u v (get_or qs i (0, 0) ∷ drop (i + 1) qs)
  each_more a rest zero q e = let w : get_or qs i (0, 0) ≡ q = cc in subst (λ z. Agree us (u, z.0) (v, z.1)) w a
  each_more a rest (suc j) q e = rest j q e

  pub each_step : Agree us (u, (get_or qs i (0, 0)).0) (v, (get_or qs i (0, 0)).1) → EachAgrees us u v (drop (i + 1) qs) → EachAgrees us u v (drop i qs)
  each_step a rest = subst (EachAgrees us u v) (sym here) (each_more a rest)

pub each_here : (us : List (List Struct)) (u v : ℕ) (qs : List (ℕ × ℕ)) → EachAgrees us u v qs → (i : ℕ) → i < length qs → Agree us (u, (get_or qs i (0, 0)).0) (v, (get_or qs i (0, 0)).1)
each_here us u v qs each i inside = each i (get_or qs i (0, 0)) (get_at qs i (0, 0) inside)

pub each_past : (us : List (List Struct)) (u v : ℕ) (qs : List (ℕ × ℕ)) (i : ℕ) → length qs ≤ i → EachAgrees us u v (drop i qs)
each_past us u v qs i past = subst (EachAgrees us u v) (sym (drop_of_length-le qs past)) none
  where
    none : EachAgrees us u v []
    none j q e = absurd (cc)
