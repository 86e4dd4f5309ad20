-- What passes is some function's own in the program (C90 6.1.2.4).
use Rattle.std.proofs.Common.{◌≡◌, ℕ, zero, suc, ◌+◌, Bool, true, false, ◌&&◌, ◌||◌, not, map, nat_eq, List, [], ◌∷◌, ◌++◌, Option, Some, None, is_some, ◌⊎◌, inl, inr, refl, ap, sym, subst, ◌∙◌, true≢false, eqb-true}
use Rattle.std.proofs.lemmas.List.{map-append}
use Rattle.std.specs.List.{list_any}
use Rattle.std.specs.Prelude.{◌≤◌, slice_get}
use Rattle.sp_types.specs.declared.program.Storage.{Storage}
use Rattle.sp_types.specs.declared.program.Storage.TheVariants.{Static, Outside, Text, Auto, Formal}
use Rattle.sp_types.specs.Types.{CType}
use Rattle.sp_types.specs.Programs.{Object, Function, Program}
use Rattle.sp_base_checked.specs.Units.{CheckedUnit}
use Rattle.sp_link_structs.specs.Matching.{Matching}
use Rattle.sp_link_structs.specs.Laws.{StructsAreThere}
use Rattle.sp_link_entries.specs.Entries.{ObjectEntry, Joined, Numbers, renumbered}
use Rattle.sp_link_entries.specs.Objects.{own_objects, owned_by, is_passing}
use Rattle.sp_link_units.specs.Making.{final_types, renaming, renaming_of_unit, object_made, function_made}
use Rattle.sp_link_units.specs.Linking.{renamings}
use Rattle.sp_link_renaming.specs.Renaming.{Renaming, number_in, renamed_type}
use Rattle.sp_ir.specs.Terrain.{size_of}
use Rattle.sp_check_typing.specs.Statements.{is_lasting}
use Rattle.sp_check_typing.specs.Programs.{scene_of, Lists}
use Rattle.sp_check_unit_laws.specs.Units.{scene_in}
use Rattle.sp_link_structs_laws.proofs.Lists.{some_is, map_got, map_from, index_got}
use Rattle.sp_link_renaming_laws.specs.Follows.{lacks_layout, Follows}
use Rattle.sp_link_renaming_laws.proofs.Types.{refines_self, some_size}
use Rattle.sp_link_follow_laws.specs.Laws.{LinkedStructsFollow}
use Rattle.sp_link_names_laws.specs.Names.{all_joined}
use Rattle.sp_link_entries_laws.specs.Joined.{IsFrom, FunctionStandsFor, LinkedObjectsStand, LinkedFunctionsStand, LinkedEntriesAreTold, LinkedDefinitionsAreThere, definitions_before, ObjectsAreNumbered, FunctionsAreNumbered}
use Rattle.sp_link_typed_laws.proofs.Units.{IsOwnObject, bodies_of, linked_of}
use Rattle.sp_link_typed_laws.specs.Linked.{linked_program, AreTypedUnits, LinkedObjectsAreOwned}
use Rattle.sp_link_typed_laws.proofs.Linked.{renaming_is, there_is, own_there, statics_are_followed}
use Rattle.sp_link_typed_laws.proofs.Bodies.{renamed_completed}

-- ---- where an owned object is listed

any_from : (n : ℕ) (ks : List ℕ) → list_any (nat_eq n) ks ≡ true → (i : ℕ) × (slice_get ks i ≡ Some n)
any_from n [] h = absurd (true≢false (sym h))
any_from n (k ∷ ks) h = by (nat_eq n k) refl h (any_from n ks)
  where
    by : (b : Bool) → nat_eq n k ≡ b → (b || list_any (nat_eq n) ks) ≡ true
        → (list_any (nat_eq n) ks ≡ true → (i : ℕ) × (slice_get ks i ≡ Some n)) → (i : ℕ) × (slice_get (k ∷ ks) i ≡ Some n)
    by true e g ih = (zero, ap Some (sym (eqb-true n k e)))
    by false e g ih = let w : (i : ℕ) × (slice_get ks i ≡ Some n) = ih g in (suc w.0, w.1)

any_either : (p : ℕ → Bool) (xs ys : List ℕ) → list_any p (xs ++ ys) ≡ true → (list_any p xs ≡ true) ⊎ (list_any p ys ≡ true)
any_either p [] ys h = inr h
any_either p (x ∷ xs) ys h = by (p x) h (any_either p xs ys)
  where
    by : (b : Bool) → (b || list_any p (xs ++ ys)) ≡ true
        → (list_any p (xs ++ ys) ≡ true → (list_any p xs ≡ true) ⊎ (list_any p ys ≡ true))
        → ((b || list_any p xs) ≡ true) ⊎ (list_any p ys ≡ true)
    by true g ih = inl refl
    by false g ih = ih g

-- of these definitions one lists the object
record IsListed (fs : List Function) (ds : List ℕ) (n : ℕ) : Type 0 where
  definition : ℕ
  number : ℕ
  function : Function
  defined : slice_get ds definition ≡ Some number
  there : slice_get fs number ≡ Some function
  index : ℕ
  listed : slice_get (function.formals ++ function.locals) index ≡ Some n

owned_from : (fs : List Function) (ds : List ℕ) (n : ℕ) → list_any (nat_eq n) (owned_by fs ds) ≡ true → IsListed fs ds n
owned_from fs [] n h = absurd (true≢false (sym h))
owned_from fs (d ∷ ds) n h =
    by (any_either (nat_eq n) (own_objects (slice_get fs d)) (owned_by fs ds) h) (owned_from fs ds n)
  where
    first : (o : Option Function) → slice_get fs d ≡ o → list_any (nat_eq n) (own_objects o) ≡ true → IsListed fs (d ∷ ds) n
    first None e g = absurd (true≢false (sym g))
    first (Some f) e g =
        let w : (i : ℕ) × (slice_get (f.formals ++ f.locals) i ≡ Some n) = any_from n (f.formals ++ f.locals) g in
        record { definition = 0; number = d; function = f; defined = refl; there = e; index = w.0; listed = w.1 }

    by : (list_any (nat_eq n) (own_objects (slice_get fs d)) ≡ true) ⊎ (list_any (nat_eq n) (owned_by fs ds) ≡ true)
        → (list_any (nat_eq n) (owned_by fs ds) ≡ true → IsListed fs ds n) → IsListed fs (d ∷ ds) n
    by (inl g) ih = first (slice_get fs d) refl g
    by (inr g) ih =
        let w : IsListed fs ds n = ih g in
        record {
          definition = suc w.definition;
          number = w.number;
          function = w.function;
          defined = w.defined;
          there = w.there;
          index = w.index;
          listed = w.listed;
        }

passes_is : (s : Storage) → is_lasting s ≡ false → is_passing s ≡ true
passes_is Auto h = refl
passes_is Formal h = refl
passes_is Static h = absurd (true≢false h)
passes_is Outside h = absurd (true≢false h)
passes_is Text h = absurd (true≢false h)

-- what passes and isn't dropped is owned
kept_owned : (a b : Bool) → a ≡ true → (a && not b) ≡ false → b ≡ true
kept_owned true true h g = refl
kept_owned true false h g = absurd (true≢false g)
kept_owned false b h g = absurd (true≢false (sym h))

module _ (xs : List CheckedUnit) (m : Matching) (main : ℕ) (h : AreTypedUnits xs m) (follow : LinkedStructsFollow) (are_there : StructsAreThere)
    (objects : LinkedObjectsStand) (functions : LinkedFunctionsStand) (entries : LinkedEntriesAreTold)
    (objects_numbered : ObjectsAreNumbered) (functions_numbered : FunctionsAreNumbered) (definitions : LinkedDefinitionsAreThere) where
  abbrev y : List Numbers × Joined
  y = all_joined m.numbers xs

  abbrev ts : List CType
  ts = final_types y.1.objects

  abbrev rs : List Renaming
  rs = renamings y.1 y.0

  abbrev p : Program
  p = linked_program xs m main

  module _ (n : ℕ) (o : Object) (at : slice_get p.objects n ≡ Some o) (passes : is_lasting o.storage ≡ false)
      (e : ObjectEntry) (there : slice_get y.1.objects n ≡ Some e) (made : object_made rs e ≡ o) (f : IsFrom xs y.0 n e) where
    storage_is : o.storage ≡ f.object.storage
    storage_is = ap (λ z. z.storage) (sym made) ∙ ap (λ z. z.storage) f.source

    own_passes : is_lasting f.object.storage ≡ false
    own_passes = ap is_lasting (sym storage_is) ∙ passes

    listed : IsListed f.checked.functions f.checked.definitions f.number
    listed =
        owned_from f.checked.functions f.checked.definitions f.number
        (kept_owned (is_passing f.object.storage) (list_any (nat_eq f.number) (owned_by f.checked.functions f.checked.definitions))
        (passes_is f.object.storage own_passes) f.of_unit.kept)

    number_is : number_in f.numbers.objects f.number ≡ n
    number_is = index_got f.numbers.objects f.number n 0 f.numbered

    -- the function that lists it, in the program
    lists : (k : ℕ) × Lists p k n
    lists =
        let l : IsListed f.checked.functions f.checked.definitions f.number = listed in
        let g : Function = l.function in
        let ns : Numbers = f.numbers in
        let q : (q : ℕ) × (slice_get ns.functions l.number ≡ Some q) =
        functions_numbered m.numbers xs f.unit f.checked ns l.number g f.of_unit.unit f.told l.there in
        let w : FunctionStandsFor f.checked ns.structs f.unit g y.1 q.0 =
        functions xs m (linked_of xs m h) f.unit f.checked ns l.number g q.0 f.of_unit.unit f.told l.there q.1 in
        let body : is_some g.body ≡ true =
        (bodies_of f.checked (h.typed f.unit f.checked f.of_unit.unit)).bodies l.definition l.number g l.defined l.there in
        let named : renaming_of_unit rs w.entry.unit ≡ renaming ts ns =
        ap (renaming_of_unit rs) (w.unit body)
        ∙ renaming_is xs m main h follow are_there objects functions entries objects_numbered functions_numbered f.unit f.checked ns f.of_unit.unit f.told in
        let all : (function_made rs w.entry).formals ++ (function_made rs w.entry).locals
        ≡ map (number_in ns.objects) (g.formals ++ g.locals) =
        ap (λ z. renumbered z.objects w.entry.source.formals ++ renumbered z.objects w.entry.source.locals) named
        ∙ ap (λ z. renumbered ns.objects z.formals ++ renumbered ns.objects z.locals) (w.source body)
        ∙ sym (map-append (number_in ns.objects) g.formals g.locals) in (
          definitions_before xs f.unit + l.definition,
          record {
            number = q.0;
            function = function_made rs w.entry;
            defined = definitions m.numbers xs f.unit f.checked ns l.definition l.number f.of_unit.unit f.told l.defined
                ∙ ap Some (index_got ns.functions l.number q.0 0 q.1);
            there = map_got (function_made rs) y.1.functions q.0 w.entry w.there;
            index = l.index;
            listed = ap (λ ks. slice_get ks l.index) all
                ∙ map_got (number_in ns.objects) (g.formals ++ g.locals) l.index f.number l.listed ∙ ap Some number_is;
          },
        )

    sized : 1 ≤ size_of p.structs o.of
    sized =
        let l : IsListed f.checked.functions f.checked.definitions f.number = listed in
        let own : IsOwnObject f.checked f.number =
        (bodies_of f.checked (h.typed f.unit f.checked f.of_unit.unit)).owned l.definition l.number l.index f.number l.function l.defined l.there l.listed in
        let same : own.object ≡ f.object = some_is own.object f.object (sym own.there ∙ f.of_unit.object) in
        let size : 1 ≤ size_of f.checked.structs f.object.of =
        subst (λ z. 1 ≤ size_of f.checked.structs z.of) same (own.sized (ap (λ z. is_lasting z.storage) same ∙ own_passes)) in
        let w : Follows (renaming ts f.numbers) (scene_in f.checked []) (scene_of p []) =
        statics_are_followed xs m main h follow are_there objects functions entries objects_numbered functions_numbered f.unit f.checked f.numbers f.of_unit.unit f.told in
        let there_now : slice_get p.objects (number_in f.numbers.objects f.number)
        ≡ Some (there_is xs m main h follow are_there objects functions entries objects_numbered functions_numbered f.unit f.checked f.numbers f.of_unit.unit f.told f.object) =
        own_there xs m main h follow are_there objects functions entries objects_numbered functions_numbered f.unit f.checked f.numbers f.of_unit.unit f.told
        f.number f.object f.of_unit own_passes in
        let is : there_is xs m main h follow are_there objects functions entries objects_numbered functions_numbered f.unit f.checked f.numbers f.of_unit.unit f.told f.object ≡ o =
        some_is (there_is xs m main h follow are_there objects functions entries objects_numbered functions_numbered f.unit f.checked f.numbers f.of_unit.unit f.told f.object) o
        (sym there_now ∙ ap (slice_get p.objects) number_is ∙ at) in
        subst (λ z. 1 ≤ size_of p.structs z.of) is
        (subst (λ t. 1 ≤ size_of p.structs t) (sym (renamed_completed f.checked.structs f.numbers.structs f.object.of size))
        (some_size (renaming ts f.numbers) (scene_in f.checked []) (scene_of p []) w f.object.of (renamed_type f.numbers.structs f.object.of)
        (refines_self (lacks_layout f.checked.structs) f.numbers.structs f.object.of) size))

  owned : (n : ℕ) (o : Object) → slice_get p.objects n ≡ Some o → is_lasting o.storage ≡ false
      → ((k : ℕ) × Lists p k n) × (1 ≤ size_of p.structs o.of)
  owned n o at passes =
      let e : (e : ObjectEntry) × (slice_get y.1.objects n ≡ Some e) × (object_made rs e ≡ o) =
      map_from (object_made rs) y.1.objects n o at in
      let f : IsFrom xs y.0 n e.0 =
      (entries xs m (linked_of xs m h) (λ u x k z of. ((h.typed u x of.unit).objects k z of.object).formed) n e.0 e.1).0 in
      (lists n o at passes e.0 e.1 e.2 f, sized n o at passes e.0 e.1 e.2 f)

pub objects_owned : LinkedStructsFollow → StructsAreThere → LinkedObjectsStand → LinkedFunctionsStand → LinkedEntriesAreTold
    → ObjectsAreNumbered → FunctionsAreNumbered → LinkedDefinitionsAreThere → LinkedObjectsAreOwned
objects_owned follow are_there objects functions entries on fn definitions xs m main h n o at passes =
    owned xs m main h follow are_there objects functions entries on fn definitions n o at passes
