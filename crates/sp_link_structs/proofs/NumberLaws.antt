-- The numbers of structs, as they are looked up.
use Rattle.std.proofs.Common.{◌≡◌, ℕ, ◌+◌, ◌<◌, filter, map, List, [], ◌∷◌, ◌++◌, append_assoc, length, drop, Option, sym, ap, ◌∙◌, add-one}
use Rattle.std.specs.Prelude.{unwrap_or}
use Rattle.std.specs.List.{position_from}
use Rattle.std.specs.Map.{lookup}
use Rattle.sp_types.specs.Types.{Struct}
use Rattle.sp_types.specs.View.{struct_of}
use Rattle.sp_types.specs.declared.structs.StructType.{StructType}
use Rattle.sp_base_checked.specs.Units.{checked_unit_of}
use Rattle.sp_base_checked.specs.declared.unit.CheckedUnit.{CheckedUnit}
use Rattle.sp_link_agreement.specs.Depths.{tables}
use Rattle.sp_link_agreement.specs.Inner.{same_entity}
use Rattle.sp_link_structs.specs.Matched.{of_unit, of_units, stand_in, representatives, number_among, numbers_of_units, matched}
use Rattle.sp_link_structs.proofs.Firsts.{drop_is}

pub numbers_more : (number : ℕ × ℕ → ℕ) (u k : ℕ) (ss : List StructType) (ns more : List ℕ) (v : ℕ) (d : StructType) (whole : List ℕ) → k < length ss → more ≡ ns ++ v ∷ [] → v ≡ number (u, k)
    → ns ++ map number (of_unit u k (map struct_of (drop k ss))) ≡ whole → more ++ map number (of_unit u (k + 1) (map struct_of (drop (k + 1) ss))) ≡ whole
numbers_more number u k ss ns more v d whole inside pushed is done =
    ap (λ xs. xs ++ map number (of_unit u (k + 1) (map struct_of (drop (k + 1) ss)))) (pushed ∙ ap (λ v. ns ++ v ∷ []) is)
    ∙ append_assoc ns (number (u, k) ∷ []) (map number (of_unit u (k + 1) (map struct_of (drop (k + 1) ss))))
    ∙ ap (λ n. ns ++ (number (u, k) ∷ map number (of_unit u n (map struct_of (drop (k + 1) ss))))) (add-one k)
    ∙ ap (λ xs. ns ++ map number (of_unit u k (map struct_of xs))) (sym (drop_is ss k d inside))
    ∙ done

pub tables_are : (us : List CheckedUnit) → tables us ≡ map (λ u. u.structs) (map checked_unit_of us)
tables_are [] = λ i. []
tables_are (u ∷ us) = ap (λ ts. map struct_of u.structs.items ∷ ts) (tables_are us)

module _ (us : List (List Struct)) (all : List (ℕ × ℕ)) (ps : List ((ℕ × ℕ) × (ℕ × ℕ))) (structs : List (ℕ × ℕ)) (stands : ℕ × ℕ → Option (ℕ × ℕ)) (places : ℕ × ℕ → Option ℕ)
    (all-is : all ≡ of_units 0 us) (structs-are : structs ≡ filter (λ x. same_entity (unwrap_or (stands x) x) x) all)
    (stands-are : (x : ℕ × ℕ) → stands x ≡ lookup (same_entity x) ps) (places-are : (x : ℕ × ℕ) → places x ≡ position_from (same_entity x) 0 structs) where
  own : structs ≡ representatives us ps
  own = structs-are ∙ (λ i. filter (λ x. same_entity (unwrap_or (stands-are x i) x) x) (all-is i))

  number_is : (x : ℕ × ℕ) → unwrap_or (places (unwrap_or (stands x) x)) 0 ≡ number_among (representatives us ps) ps x
  number_is x =
      ap (λ o. unwrap_or (places (unwrap_or o x)) 0) (stands-are x)
      ∙ ap (λ o. unwrap_or o 0) (places-are (stand_in ps x))
      ∙ ap (λ rs. unwrap_or (position_from (same_entity (stand_in ps x)) 0 rs) 0) own

  pub matched_is : (numbers : List (List ℕ)) → numbers ≡ numbers_of_units (λ x. unwrap_or (places (unwrap_or (stands x) x)) 0) 0 us → record { structs = structs; numbers = numbers } ≡ matched us ps
  matched_is numbers are =
      let ns : numbers ≡ numbers_of_units (number_among (representatives us ps) ps) 0 us = are ∙ (λ i. numbers_of_units (λ x. number_is x i) 0 us) in
      λ i. record { structs = own i; numbers = ns i }
