-- The location of a region, and the region of each location.
use Rattle.std.proofs.Common.{◌≡◌, ◌≢◌, ◌⊎◌, inl, inr, ℕ, zero, suc, ◌<◌, ◌≤◌, nat_eq, false, List, [], ◌∷◌, length, get_or, Option, Some, None, refl, sym, ap, ◌∙◌, arith}
use Rattle.std.specs.Prelude.{◌^◌, is_some, unwrap_or, IfSome, IfNone}
use Rattle.std.proofs.lemmas.Bool.{false≢true}
use Rattle.sp_value.specs.Locations.{location_of}
use Rattle.sp_value.proofs.PlaceLaws.{location-at}
use Rattle.sp_effect_rows.specs.Setting.{Setting, IsSetting, cell_of}
use Rattle.sp_effect_rows.proofs.SettingLaws.{location-found}
use Rattle.sp_effect_rows.proofs.Numbers.{which, side, same_number, apart_numbers}

get-there : (xs : List ℕ) (i d e : ℕ) → i < length xs → get_or xs i d ≡ get_or xs i e
get-there [] i d e low = absurd (omega arith)
get-there (x ∷ xs) zero d e low = refl
get-there (x ∷ xs) (suc i) d e low = get-there xs i d e (omega arith)

get-past : (xs : List ℕ) (i d : ℕ) → length xs ≤ i → get_or xs i d ≡ d
get-past [] i d past = refl
get-past (x ∷ xs) zero d past = absurd (omega arith)
get-past (x ∷ xs) (suc i) d past = get-past xs i d (omega arith)

module _ (a : Setting) (is : IsSetting a) (r : ℕ) (low : r < 2 ^ 32) where
  -- a location with the region is where the region is found
  found-at : (l : ℕ) → r ≡ cell_of a l → location_of a.cells r ≡ Some l
  found-at l e = by (side l (length a.cells))
    where
      by : (l < length a.cells) ⊎ (length a.cells ≤ l) → location_of a.cells r ≡ Some l
      by (inl there) = location-at r a.cells l is.cells there (get-there a.cells l 0 (2 ^ 32) there ∙ sym e)
      by (inr past) = absurd (omega (arith, low, e, get-past a.cells l (2 ^ 32) past))

  pub cell-found : (p : ℕ) → location_of a.cells r ≡ Some p → (l : ℕ) → nat_eq r (cell_of a l) ≡ nat_eq l p
  cell-found p found l = by (which l p)
    where
      by : (l ≡ p) ⊎ (l ≢ p) → nat_eq r (cell_of a l) ≡ nat_eq l p
      by (inl e) =
          ap (λ n. nat_eq r n) (ap (cell_of a) e ∙ (location-found a.cells r p (2 ^ 32) found).1) ∙ same_number r
          ∙ sym (ap (λ n. nat_eq n p) e ∙ same_number p)
      by (inr e) = apart_numbers r (cell_of a l) (λ same. e (ap (λ o. unwrap_or o 0) (sym (found-at l same) ∙ found))) ∙ sym (apart_numbers l p e)

  pub cell-absent : location_of a.cells r ≡ None → (l : ℕ) → nat_eq r (cell_of a l) ≡ false
  cell-absent none l = apart_numbers r (cell_of a l) (λ same. false≢true (ap is_some (sym none ∙ found-at l same)))

  -- what a search for the region answers
  pub search-found : (o : Option ℕ) → o ≡ location_of a.cells r → IfSome o (λ p. (l : ℕ) → nat_eq r (cell_of a l) ≡ nat_eq l p)
  search-found None e = tt
  search-found (Some p) e = cell-found p (sym e)

  pub search-absent : (o : Option ℕ) → o ≡ location_of a.cells r → IfNone o ((l : ℕ) → nat_eq r (cell_of a l) ≡ false)
  search-absent None e = cell-absent (sym e)
  search-absent (Some p) e = tt
