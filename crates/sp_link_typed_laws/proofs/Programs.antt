-- A linked program of well-typed units is well typed (C90 6.7).
use Rattle.std.proofs.Common.{◌≡◌, ℕ, List, [], Some, inl, inr, refl, ap, sym, subst, ◌∙◌}
use Rattle.std.specs.Prelude.{slice_get}
use Rattle.sp_types.specs.declared.program.Storage.{Storage}
use Rattle.sp_types.specs.declared.program.Storage.TheVariants.{Static, Outside, Text, Auto, Formal}
use Rattle.sp_types.specs.Structs.{IsTable, IsFormed}
use Rattle.sp_types.specs.Programs.{Object, Program}
use Rattle.sp_base_checked.specs.Units.{CheckedUnit}
use Rattle.sp_link_structs.specs.Matching.{Matching}
use Rattle.sp_link_structs.specs.Laws.{StructsAreThere}
use Rattle.sp_link_conflicts.specs.Conflicts.{tables_of}
use Rattle.sp_link_entries.specs.Entries.{ObjectEntry, Joined, Numbers}
use Rattle.sp_link_units.specs.Making.{completed, object_made}
use Rattle.sp_link_units.specs.Linking.{renamings}
use Rattle.sp_link_renaming.specs.Renaming.{Renaming}
use Rattle.sp_base_layout_laws.specs.Laws.{HaveMembers}
use Rattle.sp_check_typing.specs.Starts.{IsStaticStart}
use Rattle.sp_check_typing.specs.Programs.{scene_of, HasStaticStart, IsTypedObject}
use Rattle.sp_check_unit_laws.specs.Units.{HasUnitStart}
use Rattle.sp_link_structs_laws.specs.Tables.{program_structs, TablesStay}
use Rattle.sp_link_structs_laws.proofs.Lists.{some_is, map_from}
use Rattle.sp_link_follow_laws.specs.Laws.{LinkedStructsFollow, LinkedStructsHaveMembers}
use Rattle.sp_link_names_laws.specs.Names.{all_joined}
use Rattle.sp_link_entries_laws.specs.Joined.{IsFrom, LinkedObjectsStand, LinkedFunctionsStand, LinkedEntriesAreTold, ObjectsAreNumbered, FunctionsAreNumbered}
use Rattle.sp_link_typed_laws.specs.Linked.{linked_program, AreTypedUnits, LinkedFunctionsAreFormed, LinkedDefinitionsAreApart, LinkedOwnersAreOne, LinkedMainIsDefined, LinkedFunctionsAreTyped, LinkedObjectsAreOwned, LinkedStartsAreKnown, LinkedArraysAreMeasured, LinkedProgramsAreTyped}
use Rattle.sp_link_typed_laws.proofs.Units.{linked_of}
use Rattle.sp_link_typed_laws.proofs.Linked.{structs_are, completed_formed}

module _ (xs : List CheckedUnit) (m : Matching) (main : ℕ) (h : AreTypedUnits xs m) (follow : LinkedStructsFollow)
    (are_there : StructsAreThere) (stay : TablesStay) (have : LinkedStructsHaveMembers)
    (objects : LinkedObjectsStand) (functions : LinkedFunctionsStand) (entries : LinkedEntriesAreTold)
    (objects_numbered : ObjectsAreNumbered) (functions_numbered : FunctionsAreNumbered)
    (owned : LinkedObjectsAreOwned) (known : LinkedStartsAreKnown) (measured : LinkedArraysAreMeasured) where
  abbrev y : List Numbers × Joined
  y = all_joined m.numbers xs

  abbrev rs : List Renaming
  rs = renamings y.1 y.0

  abbrev p : Program
  p = linked_program xs m main

  same_structs : p.structs ≡ program_structs (tables_of xs) m
  same_structs = structs_are xs m main h follow are_there objects functions entries objects_numbered functions_numbered

  table : IsTable p.structs
  table = subst IsTable (sym same_structs) (stay (tables_of xs) m h.matched (linked_of xs m h).tables)

  members : HaveMembers p.structs
  members =
      subst HaveMembers (sym same_structs) (have (tables_of xs) m h.matched
      (λ u ss at. (let w : (x : CheckedUnit) × (slice_get xs u ≡ Some x) × (x.structs ≡ ss) = map_from (λ x. x.structs) xs u ss at in
      subst HaveMembers w.2 (h.typed u w.0 w.1).members)))

  module _ (n : ℕ) (o : Object) (at : slice_get p.objects n ≡ Some o) (e : ObjectEntry) (there : slice_get y.1.objects n ≡ Some e)
      (made : object_made rs e ≡ o) (f : IsFrom xs y.0 n e) where
    storage_is : f.object.storage ≡ o.storage
    storage_is = sym (ap (λ z. z.storage) f.source) ∙ ap (λ z. z.storage) made

    -- what is known of the object of this number
    found : (z : Object) × (slice_get p.objects n ≡ Some z) × (z.storage ≡ f.object.storage) × IsStaticStart (scene_of p []) z
        → IsStaticStart (scene_of p []) o
    found w = subst (IsStaticStart (scene_of p [])) (some_is w.0 o (sym w.1 ∙ at)) w.3

    by_storage : (s : Storage) → f.object.storage ≡ s → HasUnitStart f.checked f.object s → HasStaticStart p o s
    by_storage Static is (inl start) = found (known xs m main h n e there f start)
    by_storage Static is (inr open_length) = found (measured xs m main h n e there f open_length.0 open_length.1)
    by_storage Text is start = found (known xs m main h n e there f start)
    by_storage Outside is start = tt
    by_storage Auto is start = tt
    by_storage Formal is start = tt

    start_is : HasStaticStart p o o.storage
    start_is =
        subst (HasStaticStart p o) storage_is
        (by_storage f.object.storage refl ((h.typed f.unit f.checked f.of_unit.unit).objects f.number f.object f.of_unit.object).start)

  object_typed : (n : ℕ) (o : Object) → slice_get p.objects n ≡ Some o → IsTypedObject p n o
  object_typed n o at =
      let e : (e : ObjectEntry) × (slice_get y.1.objects n ≡ Some e) × (object_made rs e ≡ o) = map_from (object_made rs) y.1.objects n o at in
      let w : IsFrom xs y.0 n e.0 × IsFormed (program_structs (tables_of xs) m) e.0.of =
      entries xs m (linked_of xs m h) (λ u x k z of. ((h.typed u x of.unit).objects k z of.object).formed) n e.0 e.1 in
      record {
        formed = subst (λ z. IsFormed p.structs z.of) e.2
            (subst (λ ps. IsFormed ps (completed e.0.of)) (sym same_structs) (completed_formed (program_structs (tables_of xs) m) e.0.of w.1));
        sized = λ passes. (owned xs m main h n o at passes).1;
        owned = λ passes. (owned xs m main h n o at passes).0;
        start = start_is n o at e.0 e.1 e.2 w.0;
      }

pub programs_typed : LinkedStructsFollow → StructsAreThere → TablesStay → LinkedStructsHaveMembers → LinkedObjectsStand → LinkedFunctionsStand
    → LinkedEntriesAreTold → ObjectsAreNumbered → FunctionsAreNumbered → LinkedObjectsAreOwned → LinkedStartsAreKnown → LinkedArraysAreMeasured
    → LinkedFunctionsAreFormed → LinkedFunctionsAreTyped → LinkedDefinitionsAreApart → LinkedOwnersAreOne → LinkedMainIsDefined
    → LinkedProgramsAreTyped
programs_typed follow are_there stay have objects functions entries on fn owned known measured formed typed apart owners defined names xs m main h found = record {
  structs = table xs m main h follow are_there stay have objects functions entries on fn owned known measured;
  members = members xs m main h follow are_there stay have objects functions entries on fn owned known measured;
  objects = object_typed xs m main h follow are_there stay have objects functions entries on fn owned known measured;
  functions = formed xs m main h;
  definitions = typed xs m main h;
  distinct = apart xs m main h;
  owners = owners xs m main h;
  main = defined names xs m main h found;
}
