-- The functions of a linked program are well typed (C90 6.6, 6.7.1).
use Rattle.std.proofs.Common.{◌≡◌, ℕ, zero, suc, Bool, true, false, ◌&&◌, ◌||◌, not, nat_eq, List, [], ◌∷◌, ◌++◌, Option, Some, None, refl, ap, sym, subst, ◌∙◌, true≢false, arith}
use Rattle.std.proofs.lemmas.Bool.{false_from_ne_true}
use Rattle.std.specs.List.{list_any}
use Rattle.std.specs.Prelude.{◌≤◌, slice_get, option_map}
use Rattle.sp_types.specs.declared.program.Storage.{Storage}
use Rattle.sp_types.specs.declared.program.Storage.TheVariants.{Static, Outside, Text, Auto, Formal}
use Rattle.sp_types.specs.Types.{CType, void, integer, floating, pointer, array, structure, function, result_of, Struct, Signature}
use Rattle.sp_types.specs.Statements.{TypedStatement}
use Rattle.sp_types.specs.Programs.{Object, Function, Program}
use Rattle.sp_base_checked.specs.Units.{CheckedUnit}
use Rattle.sp_link_structs.specs.Matching.{Matching}
use Rattle.sp_link_structs.specs.Laws.{StructsAreThere}
use Rattle.sp_link_conflicts.specs.Declarations.{is_external}
use Rattle.sp_link_conflicts.specs.Conflicts.{tables_of}
use Rattle.sp_link_entries.specs.Entries.{Joined, Numbers, renumbered}
use Rattle.sp_link_entries.specs.Objects.{owned_by, is_passing, is_dropped}
use Rattle.sp_link_units.specs.Making.{completed, final_types, renaming, renaming_of_unit, start_renamed, object_made, function_made}
use Rattle.sp_link_units.specs.Linking.{renamings}
use Rattle.sp_link_renaming.specs.Renaming.{Renaming, number_in, renamed_type, renamed_statement}
use Rattle.sp_ir.specs.Shapes.{Shape, HasShape}
use Rattle.sp_ir.specs.Terrain.{size_of}
use Rattle.sp_check_typing.specs.Refines.{Refines}
use Rattle.sp_check_typing.specs.Trees.{Scene}
use Rattle.sp_check_typing.specs.Statements.{is_lasting, IsEntered, IsDeclared, IsTypedBody}
use Rattle.sp_check_typing.specs.Programs.{lasts, sees, scene_of, IsFormal, IsTypedFunction}
use Rattle.sp_check_unit_laws.specs.Units.{scene_in}
use Rattle.sp_check_unit_laws.specs.Units as units
use Rattle.sp_link_structs_laws.specs.Tables.{program_structs}
use Rattle.sp_link_structs_laws.proofs.Lists.{none_some, map_got, map_from, index_got}
use Rattle.sp_link_shape_laws.specs.Shapes.{HasLeaves, LinkedTypesKeepLeaves}
use Rattle.sp_link_renaming_laws.specs.Follows.{lacks_layout, IsObjectIn, Follows}
use Rattle.sp_link_renaming_laws.proofs.Types.{refines_self, some_size}
use Rattle.sp_link_renaming_laws.proofs.Operators.{called_kept}
use Rattle.sp_link_renaming_laws.proofs.Statements.{bodies_renamed}
use Rattle.sp_link_follow_laws.specs.Laws.{LinkedStructsFollow}
use Rattle.sp_link_names_laws.specs.Names.{all_joined}
use Rattle.sp_link_entries_laws.specs.Joined.{IsObjectOf, StandsFor, LinkedObjectsStand, LinkedFunctionsStand, LinkedEntriesAreTold, OwnObjectsAreApart, LinkedDefinitions, ObjectsAreNumbered, FunctionsAreNumbered}
use Rattle.sp_link_typed_laws.proofs.Units.{linked_of, external_lasts}
use Rattle.sp_link_typed_laws.specs.Linked.{linked_program, AreTypedUnits, IsDefinedIn, LinkedFunctionsAreTyped}
use Rattle.sp_link_typed_laws.proofs.Linked.{any_there, lasting_stays, owned_there, and_none, structs_are, numbers_are, renaming_is, there_is, own_there, unit_follows}
use Rattle.sp_link_typed_laws.proofs.Owners.{IsMade, made}
use Rattle.sp_link_typed_laws.proofs.Starts.{entered_kept}

-- what has a size has its length
pub renamed_completed : (ss : List Struct) (ns : List ℕ) (t : CType) → 1 ≤ size_of ss t → completed (renamed_type ns t) ≡ renamed_type ns t
renamed_completed ss ns (array t None) h = absurd (omega (arith, h))
renamed_completed ss ns (array t (Some n)) h = refl
renamed_completed ss ns void h = refl
renamed_completed ss ns (integer k) h = refl
renamed_completed ss ns (floating k) h = refl
renamed_completed ss ns (pointer t) h = refl
renamed_completed ss ns (structure k) h = refl
renamed_completed ss ns (function s) h = refl

first_part : (ks ns : List ℕ) (i n : ℕ) → slice_get ks i ≡ Some n → slice_get (ks ++ ns) i ≡ Some n
first_part [] ns i n e = absurd (none_some n e)
first_part (k ∷ ks) ns zero n e = e
first_part (k ∷ ks) ns (suc i) n e = first_part ks ns i n e

lasting_entered : (s : Scene) (k : Storage) (t : CType) (o : Object) → is_lasting k ≡ true → IsEntered s k t o.start
lasting_entered s Auto t o h = absurd (true≢false (sym h))
lasting_entered s Static t o h = tt
lasting_entered s Outside t o h = tt
lasting_entered s Text t o h = tt
lasting_entered s Formal t o h = tt

module _ (xs : List CheckedUnit) (m : Matching) (main : ℕ) (h : AreTypedUnits xs m) (follow : LinkedStructsFollow) (are_there : StructsAreThere)
    (objects : LinkedObjectsStand) (functions : LinkedFunctionsStand) (entries : LinkedEntriesAreTold)
    (objects_numbered : ObjectsAreNumbered) (functions_numbered : FunctionsAreNumbered)
    (own_apart : OwnObjectsAreApart) (definitions : LinkedDefinitions)
    (shapes : LinkedTypesKeepLeaves) where
  abbrev y : List Numbers × Joined
  y = all_joined m.numbers xs

  abbrev ts : List CType
  ts = final_types y.1.objects

  abbrev rs : List Renaming
  rs = renamings y.1 y.0

  abbrev p : Program
  p = linked_program xs m main

  module _ (u : ℕ) (x : CheckedUnit) (ns : Numbers) (at : slice_get xs u ≡ Some x) (told : slice_get y.0 u ≡ Some ns) where
    abbrev r : Renaming
    r = renaming ts ns

    -- one that lasts
    lasting_there : (n : ℕ) (o : Object) → IsObjectOf xs u x n o → is_lasting o.storage ≡ true
        → (z : Object) × (slice_get p.objects (number_in ns.objects n) ≡ Some z) × (is_lasting z.storage ≡ true)
    lasting_there n o it lasting =
        let k : (k : ℕ) × (slice_get ns.objects n ≡ Some k) = objects_numbered m.numbers xs u x ns n o at told it.object in
        let w : StandsFor x ns.structs u o y.1 k.0 = objects xs m (linked_of xs m h) u x ns n o k.0 it told k.1 in (
          object_made rs w.entry,
          ap (slice_get p.objects) (index_got ns.objects n k.0 0 k.1) ∙ map_got (object_made rs) y.1.objects k.0 w.entry w.there,
          w.lasting lasting,
        )

    -- ---- a function that the unit defines

    module _ (g : Function) (def : IsDefinedIn xs u x g) where
      abbrev before : Scene
      before = scene_in x (g.formals ++ g.locals)

      abbrev later : Scene
      later = scene_of p (renumbered ns.objects g.formals ++ renumbered ns.objects g.locals)

      w : Follows r before later
      w = unit_follows xs m main h follow are_there objects functions entries objects_numbered functions_numbered u x ns at told g def

      leaves : (t : CType) (shape : Shape) → HasShape x.structs (size_of x.structs) t shape
          → HasLeaves p.structs (renamed_type ns.structs t) shape
      leaves t shape s =
          subst (λ ps. HasLeaves ps (renamed_type ns.structs t) shape)
          (sym (structs_are xs m main h follow are_there objects functions entries objects_numbered functions_numbered))
          (subst (λ ks. HasLeaves (program_structs (tables_of xs) m) (renamed_type ks t) shape)
          (sym (numbers_are xs m main h follow are_there objects functions entries objects_numbered functions_numbered u x ns at told))
          (shapes (tables_of xs) m u x.structs t shape (linked_of xs m h).matched (linked_of xs m h).tables (map_got (λ z. z.structs) xs u x at) s))

      size_kept : (t : CType) → 1 ≤ size_of x.structs t → 1 ≤ size_of p.structs (renamed_type ns.structs t)
      size_kept t s =
          some_size r before later w t (renamed_type ns.structs t) (refines_self (lacks_layout x.structs) ns.structs t) s

      -- what is listed isn't dropped
      listed_kept : (k n : ℕ) (o : Object) → slice_get (g.formals ++ g.locals) k ≡ Some n
          → is_dropped (owned_by x.functions x.definitions) n o.storage ≡ false
      listed_kept k n o e =
          ap (λ b. is_passing o.storage && not b)
          (owned_there x.functions x.definitions def.index def.number n g def.defined def.function
          (any_there n (g.formals ++ g.locals) k e))
          ∙ and_none (is_passing o.storage)

      lasting_kept : (n : ℕ) (o : Object) → is_lasting o.storage ≡ true
          → is_dropped (owned_by x.functions x.definitions) n o.storage ≡ false
      lasting_kept n o e = ap (λ b. b && not (list_any (nat_eq n) (owned_by x.functions x.definitions))) (lasting_stays o.storage e)

      -- what is seen and passes is listed
      seen_listed : (n : ℕ) (o : Object) → slice_get x.objects n ≡ Some o → is_lasting o.storage ≡ false
          → sees x.objects (g.formals ++ g.locals) n ≡ true → list_any (nat_eq n) (g.formals ++ g.locals) ≡ true
      seen_listed n o there passes e =
          ap (λ b. b || list_any (nat_eq n) (g.formals ++ g.locals)) (sym passes)
          ∙ ap (λ z. lasts z || list_any (nat_eq n) (g.formals ++ g.locals)) (sym there) ∙ e

      seen_kept : (n : ℕ) (o : Object) → list_any (nat_eq n) (g.formals ++ g.locals) ≡ true
          → is_dropped (owned_by x.functions x.definitions) n o.storage ≡ false
      seen_kept n o e =
          ap (λ b. is_passing o.storage && not b)
          (owned_there x.functions x.definitions def.index def.number n g def.defined def.function e)
          ∙ and_none (is_passing o.storage)

      -- the objects of its blocks
      declared_kept : (n : ℕ) → IsDeclared before n → IsDeclared later (number_in ns.objects n)
      declared_kept n d = by (is_lasting d.object.storage) refl
        where
          seen : IsObjectIn r x.structs later n d.object.of
          seen = w.objects n d.object d.there d.visible

          by : (b : Bool) → is_lasting d.object.storage ≡ b → IsDeclared later (number_in ns.objects n)
          by true e =
              let it : IsObjectOf xs u x n d.object = record { unit = at; object = d.there; kept = lasting_kept n d.object e } in
              let z : (z : Object) × (slice_get p.objects (number_in ns.objects n) ≡ Some z) × (is_lasting z.storage ≡ true) =
              lasting_there n d.object it e in
              record {
                object = z.0;
                there = z.1;
                visible = seen.visible;
                entered = lasting_entered later z.0.storage z.0.of z.0 z.2;
                sized = λ passes. absurd (true≢false (sym z.2 ∙ passes));
              }
          by false e =
              let listed : list_any (nat_eq n) (g.formals ++ g.locals) ≡ true = seen_listed n d.object d.there e d.visible in
              let it : IsObjectOf xs u x n d.object = record { unit = at; object = d.there; kept = seen_kept n d.object listed } in
              let full : completed (renamed_type ns.structs d.object.of) ≡ renamed_type ns.structs d.object.of =
              renamed_completed x.structs ns.structs d.object.of (d.sized e) in
              record {
                object = there_is xs m main h follow are_there objects functions entries objects_numbered functions_numbered u x ns at told d.object;
                there = own_there xs m main h follow are_there objects functions entries objects_numbered functions_numbered u x ns at told n d.object it e;
                visible = seen.visible;
                entered = subst (λ t. IsEntered later d.object.storage t (start_renamed r d.object.start)) (sym full)
                    (entered_kept r before later w leaves d.object.storage d.object.of d.object.start d.entered);
                sized = λ passes. subst (λ t. 1 ≤ size_of p.structs t) (sym full) (size_kept d.object.of (d.sized e));
              }

      -- the formals
      formal_kept : (i n : ℕ) → slice_get g.formals i ≡ Some n → units.IsFormal x n → IsFormal p (number_in ns.objects n)
      formal_kept i n e f =
          let passes : is_lasting f.object.storage ≡ false = ap is_lasting f.storage in
          let listed : slice_get (g.formals ++ g.locals) i ≡ Some n = first_part g.formals g.locals i n e in
          let it : IsObjectOf xs u x n f.object = record { unit = at; object = f.there; kept = listed_kept i n f.object listed } in
          record {
            object = there_is xs m main h follow are_there objects functions entries objects_numbered functions_numbered u x ns at told f.object;
            there = own_there xs m main h follow are_there objects functions entries objects_numbered functions_numbered u x ns at told n f.object it passes;
            storage = f.storage;
            sized = subst (λ t. 1 ≤ size_of p.structs t) (sym (renamed_completed x.structs ns.structs f.object.of f.sized))
                (size_kept f.object.of f.sized);
          }

      -- the function as the program has it, with this type
      abbrev renamed_function : Signature → Function
      renamed_function s = record g {
        of = s;
        formals = renumbered ns.objects g.formals;
        locals = renumbered ns.objects g.locals;
        body = option_map (renamed_statement r) g.body;
      }

      module _ (s : Signature) (typed : units.IsTypedFunction x g)
          (result : Refines (lacks_layout x.structs) (number_in ns.structs) (result_of g.of) (result_of s)) where
        body_kept : (b : Option TypedStatement) → IsTypedBody before (result_of g.of) b
            → IsTypedBody later (result_of s) (option_map (renamed_statement r) b)
        body_kept None t = tt
        body_kept (Some b) t = bodies_renamed r before later (result_of g.of) (result_of s) b w result declared_kept t

        distinct_kept : (i j n : ℕ) → slice_get (renumbered ns.objects g.formals) i ≡ Some n
            → slice_get (renumbered ns.objects g.formals) j ≡ Some n → i ≡ j
        distinct_kept i j n e f =
            let a : (a : ℕ) × (slice_get g.formals i ≡ Some a) × (number_in ns.objects a ≡ n) = map_from (number_in ns.objects) g.formals i n e in
            let b : (b : ℕ) × (slice_get g.formals j ≡ Some b) × (number_in ns.objects b ≡ n) = map_from (number_in ns.objects) g.formals j n f in
            let s : units.IsFormal x a.0 = typed.formals i a.0 a.1 in
            let t : units.IsFormal x b.0 = typed.formals j b.0 b.1 in
            let k : (k : ℕ) × (slice_get ns.objects a.0 ≡ Some k) = objects_numbered m.numbers xs u x ns a.0 s.object at told s.there in
            let q : (q : ℕ) × (slice_get ns.objects b.0 ≡ Some q) = objects_numbered m.numbers xs u x ns b.0 t.object at told t.there in
            let first : slice_get ns.objects a.0 ≡ Some n = k.1 ∙ ap Some (sym (index_got ns.objects a.0 k.0 0 k.1) ∙ a.2) in
            let second : slice_get ns.objects b.0 ≡ Some n = q.1 ∙ ap Some (sym (index_got ns.objects b.0 q.0 0 q.1) ∙ b.2) in
            let one : IsObjectOf xs u x a.0 s.object = record { unit = at; object = s.there; kept = formal_not_dropped i a.0 s.object a.1 } in
            let two : IsObjectOf xs u x b.0 t.object = record { unit = at; object = t.there; kept = formal_not_dropped j b.0 t.object b.1 } in
            let same : (u ≡ u) × (a.0 ≡ b.0) =
            own_apart m.numbers xs u u x x ns ns a.0 b.0 s.object t.object n one two (private a.0 s) (private b.0 t) told told first second in
            typed.distinct i j b.0 (a.1 ∙ ap Some same.1) b.1
          where
            private : (n : ℕ) (f : units.IsFormal x n) → is_external f.object.linkage ≡ false
            private n f =
                false_from_ne_true (is_external f.object.linkage)
                (λ e. true≢false (sym (external_lasts x (h.typed u x at) n f.object f.there e) ∙ ap is_lasting f.storage))

            formal_not_dropped : (i n : ℕ) (o : Object) → slice_get g.formals i ≡ Some n
                → is_dropped (owned_by x.functions x.definitions) n o.storage ≡ false
            formal_not_dropped i n o e = listed_kept i n o (first_part g.formals g.locals i n e)

        function_kept : IsTypedFunction p (renamed_function s)
        function_kept = record {
          result = called_kept r before later w (result_of g.of) (result_of s) result typed.result;
          formals = λ i n e.
              let a : (a : ℕ) × (slice_get g.formals i ≡ Some a) × (number_in ns.objects a ≡ n) =
              map_from (number_in ns.objects) g.formals i n e in
              subst (IsFormal p) a.2 (formal_kept i a.0 a.1 (typed.formals i a.0 a.1));
          distinct = distinct_kept;
          body = body_kept g.body typed.body;
        }

  -- each definition
  definition_typed : (k n : ℕ) → slice_get p.definitions k ≡ Some n
      → (g : Function) × (slice_get p.functions n ≡ Some g) × IsTypedFunction p g
  definition_typed k n at =
      let a : IsMade xs m main h functions definitions functions_numbered k n =
      made xs m main h functions definitions functions_numbered k n at in
      let ns : Numbers = a.is.numbers in
      let def : IsDefinedIn xs a.is.unit a.is.checked a.function =
      record { unit = a.is.there; index = a.is.index; number = a.is.function; defined = a.is.defined; function = a.there } in
      let named : renaming_of_unit rs a.entry.unit ≡ renaming ts ns =
      ap (renaming_of_unit rs) a.unit
      ∙ renaming_is xs m main h follow are_there objects functions entries objects_numbered functions_numbered a.is.unit a.is.checked ns a.is.there a.is.told in
      let is : function_made rs a.entry ≡ renamed_function a.is.unit a.is.checked ns a.is.there a.is.told a.function def a.entry.of =
      λ i. function_as (named i) (a.source i) a.entry.of in (
        function_made rs a.entry,
        map_got (function_made rs) y.1.functions n a.entry a.told,
        subst (IsTypedFunction p) (sym is)
            (function_kept a.is.unit a.is.checked ns a.is.there a.is.told a.function def a.entry.of a.typed a.result),
      )
    where
      function_as : Renaming → Function → Signature → Function
      function_as z f s = record f {
        of = s;
        formals = renumbered z.objects f.formals;
        locals = renumbered z.objects f.locals;
        body = option_map (renamed_statement z) f.body;
      }

pub functions_typed : LinkedStructsFollow → StructsAreThere → LinkedObjectsStand → LinkedFunctionsStand → LinkedEntriesAreTold
    → ObjectsAreNumbered → FunctionsAreNumbered → OwnObjectsAreApart → LinkedDefinitions → LinkedTypesKeepLeaves
    → LinkedFunctionsAreTyped
functions_typed follow are_there objects functions entries on fn own definitions shapes xs m main h k n at =
    definition_typed xs m main h follow are_there objects functions entries on fn own definitions shapes k n at
