-- The structs of a linked program are those that the matching tells.
use Rattle.std.proofs.Common.{◌≡◌, ℕ, zero, suc, ◌+◌, Bool, true, false, length, map, List, [], ◌∷◌, ◌++◌, Option, Some, None, is_some, refl, ap, sym, subst, ◌∙◌, true≢false, arith}
use Rattle.std.specs.Prelude.{slice_get, slice_index_or}
use Rattle.sp_tree.specs.declared.fault.FaultKind.TheVariants.{NoMain}
use Rattle.sp_tree.specs.declared.fault.FaultKind.{FaultKind}
use Rattle.sp_tree.specs.declared.fault.Place.{Place}
use Rattle.sp_types.specs.Types.{CType, Struct}
use Rattle.sp_types.specs.Structs.{IsTable}
use Rattle.sp_types.specs.Programs.{Program}
use Rattle.sp_base_checked.specs.Answers.{Checked, accepted, refused, where_given}
use Rattle.sp_base_checked.specs.Units.{CheckedUnit}
use Rattle.sp_link_structs.specs.Matching.{Matching}
use Rattle.sp_link_agreement.specs.Depths.{struct_of_table, struct_at}
use Rattle.sp_link_structs.specs.Laws.{StructsAreThere}
use Rattle.sp_link_conflicts.specs.Conflicts.{tables_of}
use Rattle.sp_link_entries.specs.Entries.{Joined, Numbers, nothing_joined}
use Rattle.sp_link_entries.specs.Units.{unit_joined, next_unit, units_joined}
use Rattle.sp_link_units.specs.Making.{final_types, renaming, no_renaming, renaming_of_unit, structs_of, struct_told, struct_made}
use Rattle.sp_link_units.specs.Linking.{main_from, renamings, program_made}
use Rattle.sp_link_units.specs.Links.{in_conflict, in_agreement}
use Rattle.sp_link_structs_laws.specs.Tables.{program_struct, program_structs, TablesStay, LinkedTables}
use Rattle.sp_link_structs_laws.proofs.Lists.{map_got, map_from, index_got}

-- ---- the numbers of structs

pushed_before : {A : Type 0} (xs : List A) (y x : A) (i : ℕ) → slice_get xs i ≡ Some x → slice_get (xs ++ y ∷ []) i ≡ Some x
pushed_before [] y x i e = absurd (cc)
pushed_before (z ∷ zs) y x zero e = e
pushed_before (z ∷ zs) y x (suc i) e = pushed_before zs y x i e

pushed_last : {A : Type 0} (xs : List A) (y : A) → slice_get (xs ++ y ∷ []) (length xs) ≡ Some y
pushed_last [] y = refl
pushed_last (z ∷ zs) y = pushed_last zs y

pushed_length : {A : Type 0} (xs : List A) (y : A) → length (xs ++ y ∷ []) ≡ length xs + 1
pushed_length [] y = omega arith
pushed_length (z ∷ zs) y = let w : length (zs ++ y ∷ []) ≡ length zs + 1 = pushed_length zs y in omega arith

module _ (sss : List (List ℕ)) where
  units_keep : (xs : List CheckedUnit) (y : List Numbers × Joined) (i : ℕ) (m : Numbers) → slice_get y.0 i ≡ Some m → slice_get (units_joined sss y xs).0 i ≡ Some m
  units_keep [] y i m h = h
  units_keep (x ∷ xs) y i m h =
      units_keep xs (next_unit sss y x) i m (pushed_before y.0 (unit_joined (slice_index_or sss (length y.0) []) (length y.0) y.1 x).0 m i h)

  pub joined_structs : (xs : List CheckedUnit) (y : List Numbers × Joined) (i at : ℕ) (x : CheckedUnit) → at ≡ length y.0 + i → slice_get xs i ≡ Some x
      → (m : Numbers) × (slice_get (units_joined sss y xs).0 at ≡ Some m) × (m.structs ≡ slice_index_or sss at [])
  joined_structs [] y i at x p e = absurd (cc)
  joined_structs (w ∷ ws) y zero at x p e =
      let place : length y.0 ≡ at = omega arith in
      let z : Numbers × Joined = unit_joined (slice_index_or sss (length y.0) []) (length y.0) y.1 w in
      let now : slice_get (units_joined sss y (w ∷ ws)).0 (length y.0) ≡ Some z.0 = units_keep ws (next_unit sss y w) (length y.0) z.0 (pushed_last y.0 z.0) in
      (z.0, subst (λ v. slice_get (units_joined sss y (w ∷ ws)).0 v ≡ Some z.0) place now, ap (λ v. slice_index_or sss v []) place)
  joined_structs (w ∷ ws) y (suc i) at x p e =
      let longer : length (next_unit sss y w).0 ≡ length y.0 + 1 = pushed_length y.0 (unit_joined (slice_index_or sss (length y.0) []) (length y.0) y.1 w).0 in
      joined_structs ws (next_unit sss y w) i at x (omega (arith, longer, p)) e

-- ---- each struct

module _ (xs : List CheckedUnit) (m : Matching) where
  pub made_is : (r : ℕ × ℕ) → is_some (struct_at (tables_of xs) r) ≡ true
      → struct_made xs (renamings (units_joined m.numbers ([], nothing_joined) xs).1 (units_joined m.numbers ([], nothing_joined) xs).0) r ≡ program_struct (tables_of xs) m r
  made_is r there = table (slice_get (tables_of xs) r.0) refl there
    where
      unit : (x : CheckedUnit) → slice_get xs r.0 ≡ Some x
          → struct_made xs (renamings (units_joined m.numbers ([], nothing_joined) xs).1 (units_joined m.numbers ([], nothing_joined) xs).0) r ≡ program_struct (tables_of xs) m r
      unit x at =
          let w : (n : Numbers) × (slice_get (units_joined m.numbers ([], nothing_joined) xs).0 r.0 ≡ Some n) × (n.structs ≡ slice_index_or m.numbers r.0 []) =
          joined_structs m.numbers xs ([], nothing_joined) r.0 r.0 x (omega arith) at in
          let ts : List CType = final_types (units_joined m.numbers ([], nothing_joined) xs).1.objects in
          let named : renaming_of_unit (renamings (units_joined m.numbers ([], nothing_joined) xs).1 (units_joined m.numbers ([], nothing_joined) xs).0) r.0 ≡ renaming ts w.0 =
          index_got (map (renaming ts) (units_joined m.numbers ([], nothing_joined) xs).0) r.0 (renaming ts w.0) no_renaming (map_got (renaming ts) (units_joined m.numbers ([], nothing_joined) xs).0 r.0 w.0 w.1) in
          ap (λ z. struct_told z.structs (slice_get (structs_of (slice_get xs r.0)) r.1)) named
          ∙ ap (λ z. struct_told z (slice_get (structs_of (slice_get xs r.0)) r.1)) w.2
          ∙ ap (λ o. struct_told (slice_index_or m.numbers r.0 []) (slice_get (structs_of o) r.1)) at
          ∙ sym (ap (λ o. struct_told (slice_index_or m.numbers r.0 []) (struct_of_table o r.1)) (map_got (λ x. x.structs) xs r.0 x at))

      table : (o : Option (List Struct)) → slice_get (tables_of xs) r.0 ≡ o → is_some (struct_of_table o r.1) ≡ true
          → struct_made xs (renamings (units_joined m.numbers ([], nothing_joined) xs).1 (units_joined m.numbers ([], nothing_joined) xs).0) r ≡ program_struct (tables_of xs) m r
      table None e p = absurd (true≢false (sym p))
      table (Some ss) e p =
          let v : (x : CheckedUnit) × (slice_get xs r.0 ≡ Some x) × (x.structs ≡ ss) = map_from (λ x. x.structs) xs r.0 ss e in
          unit v.0 v.1

pub map_same : {A B : Type 0} (f g : A → B) (xs : List A) → ((i : ℕ) (x : A) → slice_get xs i ≡ Some x → f x ≡ g x) → map f xs ≡ map g xs
map_same f g [] e = refl
map_same f g (x ∷ xs) e = λ i. e zero x refl i ∷ map_same f g xs (λ j y h. e (suc j) y h) i

-- ---- the program

abbrev is_accepted : Checked Program → Bool
is_accepted (accepted p) = true
is_accepted (refused k p) = false

abbrev program_in : Program → Checked Program → Program
program_in d (accepted p) = p
program_in d (refused k p) = d

refused_not : (k : FaultKind) (q : Place) (p : Program) → refused k q ≡ accepted p → ⊥
refused_not k q p e = true≢false (sym (ap is_accepted e))

pub linked_tables : TablesStay → StructsAreThere → LinkedTables
linked_tables stay there names first xs p (in_conflict kind place c e) tables = absurd (refused_not kind place p e)
linked_tables stay there names first xs p (in_agreement m a h e) tables = by (main_from names 0 (units_joined m.numbers ([], nothing_joined) xs).1.functions) e
  where
    by : (o : Option ℕ) → where_given o NoMain first (λ main. accepted (program_made m xs (renamings (units_joined m.numbers ([], nothing_joined) xs).1 (units_joined m.numbers ([], nothing_joined) xs).0) (units_joined m.numbers ([], nothing_joined) xs).1 main)) ≡ accepted p → IsTable p.structs
    by None g = absurd (refused_not NoMain first p g)
    by (Some main) g =
        let structs : map (struct_made xs (renamings (units_joined m.numbers ([], nothing_joined) xs).1 (units_joined m.numbers ([], nothing_joined) xs).0)) m.structs ≡ program_structs (tables_of xs) m =
        map_same (struct_made xs (renamings (units_joined m.numbers ([], nothing_joined) xs).1 (units_joined m.numbers ([], nothing_joined) xs).0)) (program_struct (tables_of xs) m) m.structs
        (λ i r at. made_is xs m r (there (tables_of xs) m i r h at)) in
        subst IsTable (sym structs ∙ ap (λ c. (program_in p c).structs) g) (stay (tables_of xs) m h tables)
