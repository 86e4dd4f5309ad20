-- Start values that are known before the program runs are so in the program (C90 6.5.7).
use Rattle.std.proofs.Common.{◌≡◌, ℕ, ◌+◌, Bool, true, false, if◌then◌else◌, List, [], Some, None, refl, ap, sym, subst, ◌∙◌, arith}
use Rattle.std.specs.Prelude.{◌≤◌, slice_get, slice_index_or}
use Rattle.sp_types.specs.Types.{CType, void, integer, floating, pointer, array, structure, function, Struct}
use Rattle.sp_types.specs.Typed.{Typed}
use Rattle.sp_types.specs.Programs.{Object, Program}
use Rattle.sp_base_checked.specs.Units.{CheckedUnit}
use Rattle.sp_link_structs.specs.Matching.{Matching}
use Rattle.sp_link_structs.specs.Laws.{StructsAreThere}
use Rattle.sp_link_conflicts.specs.Conflicts.{tables_of}
use Rattle.sp_link_entries.specs.Entries.{ObjectEntry, Joined, Numbers, nothing_joined}
use Rattle.sp_link_entries.specs.Objects.{tells_more, object_told, object_composed}
use Rattle.sp_link_units.specs.Making.{completed, final_types, renaming, renaming_of_unit, start_renamed, object_made, object_renamed}
use Rattle.sp_link_units.specs.Linking.{renamings}
use Rattle.sp_link_renaming.specs.Renaming.{Renaming, renamed_type}
use Rattle.sp_ir.specs.Shapes.{Shape, HasShape}
use Rattle.sp_ir.specs.Terrain.{size_of}
use Rattle.sp_check_typing.specs.Starts.{AreKnown, IsStaticStart}
use Rattle.sp_check_typing.specs.Trees.{Scene}
use Rattle.sp_check_typing.specs.Programs.{scene_of}
use Rattle.sp_check_unit_laws.specs.Units.{scene_in}
use Rattle.sp_check_unit_laws.proofs.Composed.{known_composed, size_composed}
use Rattle.sp_link_structs_laws.specs.Tables.{program_structs}
use Rattle.sp_link_structs_laws.proofs.Lists.{map_got}
use Rattle.sp_link_shape_laws.specs.Shapes.{HasLeaves, LinkedTypesKeepLeaves}
use Rattle.sp_link_renaming_laws.specs.Follows.{lacks_layout, Follows}
use Rattle.sp_link_renaming_laws.proofs.Types.{refines_self, some_size}
use Rattle.sp_link_follow_laws.specs.Laws.{LinkedStructsFollow}
use Rattle.sp_link_names_laws.specs.Names.{all_joined}
use Rattle.sp_link_entries_laws.specs.Joined.{IsFrom, LinkedObjectsStand, LinkedFunctionsStand, LinkedEntriesAreTold, ObjectsAreNumbered, FunctionsAreNumbered}
use Rattle.sp_link_entries_laws.proofs.Entries.{units_all}
use Rattle.sp_link_typed_laws.proofs.Units.{linked_of}
use Rattle.sp_link_typed_laws.specs.Linked.{linked_program, AreTypedUnits, LinkedStartsAreKnown}
use Rattle.sp_link_typed_laws.proofs.Linked.{structs_are, numbers_are, renaming_is, statics_are_followed}
use Rattle.sp_link_typed_laws.proofs.Starts.{start_known}

-- what has a size has its length
completed_sized : (ss : List Struct) (t : CType) → 1 ≤ size_of ss t → completed t ≡ t
completed_sized ss (array t None) h = absurd (omega (arith, h))
completed_sized ss (array t (Some n)) h = refl
completed_sized ss void h = refl
completed_sized ss (integer k) h = refl
completed_sized ss (floating k) h = refl
completed_sized ss (pointer t) h = refl
completed_sized ss (structure k) h = refl
completed_sized ss (function s) h = refl

-- ---- composites

module _ (xs : List CheckedUnit) (m : Matching) (scene : Scene) where
  -- the type that the unit has, which tells the entry
  abbrev own_type : ObjectEntry → CType
  own_type e = renamed_type (slice_index_or m.numbers e.unit []) e.source.of

  -- what is known of that is known of the entry's type
  record Knows (e : ObjectEntry) : Type 0 where
    known : (es : List (ℕ × Typed)) → AreKnown scene (own_type e) es → AreKnown scene e.of es
    size : (es : List (ℕ × Typed)) → AreKnown scene (own_type e) es
        → size_of scene.structs e.of ≡ size_of scene.structs (own_type e)

  told : (e other : ObjectEntry) → Knows e → Knows (object_told e other)
  told e other h = record {
    known = λ es k. known_composed scene e.of other.of es (h.known es k);
    size = λ es k. size_composed scene e.of other.of es (h.known es k) ∙ h.size es k;
  }

  composed : (n : ℕ) (old new : ObjectEntry) → Knows old → Knows new → Knows (object_composed old new)
  composed n old new p q = by (tells_more new old)
    where
      by : (b : Bool) → Knows (if b then object_told new old else object_told old new)
      by true = told new old q
      by false = told old new p

  all_known : (n : ℕ) (e : ObjectEntry) → slice_get (all_joined m.numbers xs).1.objects n ≡ Some e → Knows e
  all_known n e at =
      units_all xs m.numbers (λ n e. Knows e) (λ u k n. Unit {0})
      (λ u x k o n unit there kept has. record { known = λ es k. k; size = λ es k. refl }) composed xs ([], nothing_joined)
      (λ i x e. (let place : i ≡ 0 + i = omega arith in subst (λ n. slice_get xs n ≡ Some x) place e))
      (λ n e at. absurd (none_there n e at)) (λ u ns t k n g. tt) n e at
    where
      none_there : (n : ℕ) (e : ObjectEntry) → slice_get [] n ≡ Some e → ⊥
      none_there n e at = absurd (cc)

module _ (xs : List CheckedUnit) (m : Matching) (main : ℕ) (h : AreTypedUnits xs m) (follow : LinkedStructsFollow) (are_there : StructsAreThere)
    (objects : LinkedObjectsStand) (functions : LinkedFunctionsStand) (entries : LinkedEntriesAreTold)
    (objects_numbered : ObjectsAreNumbered) (functions_numbered : FunctionsAreNumbered) (shapes : LinkedTypesKeepLeaves) where
  abbrev y : List Numbers × Joined
  y = all_joined m.numbers xs

  abbrev ts : List CType
  ts = final_types y.1.objects

  abbrev rs : List Renaming
  rs = renamings y.1 y.0

  abbrev p : Program
  p = linked_program xs m main

  abbrev scene : Scene
  scene = scene_of p []

  module _ (n : ℕ) (e : ObjectEntry) (at : slice_get y.1.objects n ≡ Some e) (f : IsFrom xs y.0 n e)
      (start : IsStaticStart (scene_in f.checked []) f.object) where
    abbrev x : CheckedUnit
    x = f.checked

    abbrev ns : Numbers
    ns = f.numbers

    abbrev r : Renaming
    r = renaming ts ns

    w : Follows r (scene_in x []) scene
    w = statics_are_followed xs m main h follow are_there objects functions entries objects_numbered functions_numbered
        f.unit x ns f.of_unit.unit f.told

    numbers_is : ns.structs ≡ slice_index_or m.numbers f.unit []
    numbers_is = numbers_are xs m main h follow are_there objects functions entries objects_numbered functions_numbered
        f.unit x ns f.of_unit.unit f.told

    leaves : (t : CType) (shape : Shape) → HasShape x.structs (size_of x.structs) t shape
        → HasLeaves p.structs (renamed_type ns.structs t) shape
    leaves t shape s =
        subst (λ ps. HasLeaves ps (renamed_type ns.structs t) shape)
        (sym (structs_are xs m main h follow are_there objects functions entries objects_numbered functions_numbered))
        (subst (λ ks. HasLeaves (program_structs (tables_of xs) m) (renamed_type ks t) shape) (sym numbers_is)
        (shapes (tables_of xs) m f.unit x.structs t shape (linked_of xs m h).matched (linked_of xs m h).tables
        (map_got (λ z. z.structs) xs f.unit x f.of_unit.unit) s))

    abbrev es : List (ℕ × Typed)
    es = start_renamed r f.object.start

    own_is : own_type xs m scene e ≡ renamed_type ns.structs f.object.of
    own_is =
        ap (λ u. renamed_type (slice_index_or m.numbers u []) e.source.of) f.unit_is
        ∙ ap (λ ks. renamed_type ks e.source.of) (sym numbers_is)
        ∙ ap (λ o. renamed_type ns.structs o.of) f.source

    known_here : AreKnown scene (own_type xs m scene e) es
    known_here =
        subst (λ t. AreKnown scene t es) (sym own_is)
        (start_known r (scene_in x []) scene w leaves f.object.of f.object.start start.known)

    sized_here : 1 ≤ size_of scene.structs e.of
    sized_here =
        subst (λ k. 1 ≤ k)
        (ap (size_of scene.structs) (sym own_is) ∙ sym ((all_known xs m scene n e at).size es known_here))
        (some_size r (scene_in x []) scene w f.object.of (renamed_type ns.structs f.object.of)
        (refines_self (lacks_layout x.structs) ns.structs f.object.of) start.sized)

    full : completed e.of ≡ e.of
    full = completed_sized scene.structs e.of sized_here

    object_is : object_made rs e ≡ record f.object { of = completed e.of; start = es }
    object_is =
        ap (λ z. object_renamed z e) (ap (renaming_of_unit rs) f.unit_is
        ∙ renaming_is xs m main h follow are_there objects functions entries objects_numbered functions_numbered f.unit x ns f.of_unit.unit f.told)
        ∙ ap (λ o. object_as o (completed e.of) (start_renamed r o.start)) f.source
      where
        object_as : Object → CType → List (ℕ × Typed) → Object
        object_as o t vs = record o { of = t; start = vs }

    start_is : IsStaticStart scene (record f.object { of = completed e.of; start = es })
    start_is = record {
      sized = subst (λ t. 1 ≤ size_of scene.structs t) (sym full) sized_here;
      known = subst (λ t. AreKnown scene t es) (sym full) ((all_known xs m scene n e at).known es known_here);
    }

    in_program : (o : Object) × (slice_get p.objects n ≡ Some o) × (o.storage ≡ f.object.storage) × IsStaticStart scene o
    in_program = (
      object_made rs e,
      map_got (object_made rs) y.1.objects n e at,
      ap (λ o. o.storage) object_is,
      subst (IsStaticStart scene) (sym object_is) start_is,
    )

pub starts_are_known : LinkedStructsFollow → StructsAreThere → LinkedObjectsStand → LinkedFunctionsStand → LinkedEntriesAreTold
    → ObjectsAreNumbered → FunctionsAreNumbered → LinkedTypesKeepLeaves → LinkedStartsAreKnown
starts_are_known follow are_there objects functions entries on fn shapes xs m main h n e at f start =
    in_program xs m main h follow are_there objects functions entries on fn shapes n e at f start
