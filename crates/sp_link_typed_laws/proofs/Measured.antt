-- An array whose length its unit leaves open has a size in the program (C90 6.7.2).
use Rattle.std.proofs.Common.{◌≡◌, ℕ, ◌*◌, ◌^◌, ◌<◌, Bool, true, false, nat_le, cond, List, [], Option, Some, None, refl, ap, sym, subst, ◌∙◌, true≢false, leb-true, mul-pos, arith}
use Rattle.std.proofs.lemmas.Bool.Decides.{nat_tests}
use Rattle.std.specs.Prelude.{◌≤◌, slice_get}
use Rattle.sp_types.specs.declared.extents.Extent.{Extent}
use Rattle.sp_types.specs.Types.{CType, void, integer, floating, pointer, array, structure, function, Struct}
use Rattle.sp_types.specs.Layout.{extent, layout, repeated}
use Rattle.sp_types.specs.Structs.{IsTable, IsFormed}
use Rattle.sp_types.specs.Typed.{Typed}
use Rattle.sp_types.specs.Programs.{Object, Program}
use Rattle.sp_base_checked.specs.Units.{CheckedUnit}
use Rattle.sp_link_structs.specs.Matching.{Matching}
use Rattle.sp_link_structs.specs.Laws.{StructsAreThere}
use Rattle.sp_link_conflicts.specs.Declarations.{is_external}
use Rattle.sp_link_conflicts.specs.Conflicts.{tables_of}
use Rattle.sp_link_entries.specs.Entries.{ObjectEntry, Joined, Numbers}
use Rattle.sp_link_entries.specs.Objects.{object_entry}
use Rattle.sp_link_units.specs.Making.{completed, renaming_of_unit, start_renamed, object_made}
use Rattle.sp_link_units.specs.Linking.{renamings}
use Rattle.sp_link_renaming.specs.Renaming.{Renaming, renamed_type}
use Rattle.sp_ir.specs.Terrain.{size_in, size_of}
use Rattle.sp_base_layout_laws.specs.Laws.{HaveMembers}
use Rattle.sp_base_layout_laws.proofs.Shaped.{is-shaped}
use Rattle.sp_base_layouts.specs.Layouts.{layout_of}
use Rattle.sp_check_typing.specs.Starts.{IsLeafValue, AreKnown, IsStaticStart}
use Rattle.sp_check_typing.specs.Constants.{is_stored}
use Rattle.sp_check_typing.specs.Trees.{Scene}
use Rattle.sp_check_typing.specs.Programs.{scene_of}
use Rattle.sp_check_formed_laws.proofs.Lists.{nil_all}
use Rattle.sp_check_expr_laws.proofs.Types.{integer_laid, floating_laid, struct_laid}
use Rattle.sp_check_unit_laws.specs.Units.{IsUnmeasured}
use Rattle.sp_link_structs_laws.specs.Tables.{program_structs, TablesStay}
use Rattle.sp_link_structs_laws.proofs.Lists.{none_some, some_is, map_got, map_from}
use Rattle.sp_link_structs_laws.proofs.Same.{struct_some, repeated_some}
use Rattle.sp_link_structs_laws.proofs.Stays.{types_kept}
use Rattle.sp_link_structs.specs.Laws.{StructsAreNumbered}
use Rattle.sp_link_follow_laws.specs.Laws.{LinkedStructsFollow, LinkedStructsHaveMembers}
use Rattle.sp_link_names_laws.specs.Names.{all_joined}
use Rattle.sp_link_entries_laws.specs.Joined.{HasElements, IsFrom, StandsFor, LinkedObjectsStand, LinkedFunctionsStand, LinkedEntriesAreTold, LinkedArraysAreComplete, ObjectsAreNumbered, FunctionsAreNumbered}
use Rattle.sp_link_typed_laws.specs.Linked.{linked_program, AreTypedUnits, LinkedArraysAreMeasured}
use Rattle.sp_link_typed_laws.proofs.Units.{linked_of}
use Rattle.sp_link_typed_laws.proofs.Linked.{structs_are, numbers_are}

-- ---- sizes

-- nothing is larger than 2^40 bytes
layout_small : (ss : List Struct) → IsTable ss → (t : CType) (e : Extent) → layout ss t ≡ Some e → e.size ≤ 2 ^ 40
layout_small ss table void e h = absurd (none_some e h)
layout_small ss table (integer k) e h = subst (λ x. x.size ≤ 2 ^ 40) (some_is _ e h) (integer_laid k).2
layout_small ss table (floating k) e h = subst (λ x. x.size ≤ 2 ^ 40) (some_is _ e h) (floating_laid k).2
layout_small ss table (pointer t) e h = subst (λ x. x.size ≤ 2 ^ 40) (some_is _ e h) (omega arith)
layout_small ss table (array t None) e h = absurd (none_some e h)
layout_small ss table (array t (Some n)) e h =
    let f : (f : Extent) × (layout ss t ≡ Some f) = repeated_some n (layout ss t) e h in
    by f.0 (nat_le (f.0.size * n) (2 ^ 40)) refl (sym (ap (repeated n) f.1) ∙ h)
  where
    by : (f : Extent) (b : Bool) → nat_le (f.size * n) (2 ^ 40) ≡ b
        → cond b (Some (extent (f.size * n) f.align)) None ≡ Some e → e.size ≤ 2 ^ 40
    by f true q p = subst (λ x. x.size ≤ 2 ^ 40) (some_is (extent (f.size * n) f.align) e p) (leb-true (f.size * n) (2 ^ 40) q)
    by f false q p = absurd (none_some e p)
layout_small ss table (structure k) e h =
    let s : (s : Struct) × (slice_get ss k ≡ Some s) × (s.extent ≡ Some e) = struct_some (slice_get ss k) e h in
    struct_laid s.0 ss s.0.members e (table k s.0 s.1) s.2
layout_small ss table (function s) e h = absurd (none_some e h)

repeated_sized : (n : ℕ) (f e : Extent) → 1 ≤ n → 1 ≤ f.size → repeated n (Some f) ≡ Some e → 1 ≤ e.size
repeated_sized n f e l h p = by (nat_le (f.size * n) (2 ^ 40)) refl p
  where
    by : (b : Bool) → nat_le (f.size * n) (2 ^ 40) ≡ b
        → cond b (Some (extent (f.size * n) f.align)) None ≡ Some e → 1 ≤ e.size
    by true q p =
        let up : 0 < f.size * n = mul-pos h l in
        subst (λ x. 1 ≤ x.size) (some_is (extent (f.size * n) f.align) e p) (omega (arith, up))
    by false q p = absurd (none_some e p)

fits : (n : ℕ) → n ≤ 2 ^ 40 → nat_le n (2 ^ 40) ≡ true
fits n h = grind (arith, nat_tests)

-- an array of one element is as large as the element
one_sized : (f : Extent) → 1 ≤ f.size → f.size ≤ 2 ^ 40 → 1 ≤ size_in (repeated 1 (Some f))
one_sized f h small = by (nat_le (f.size * 1) (2 ^ 40)) (fits (f.size * 1) (omega (arith, small)))
  where
    by : (b : Bool) → b ≡ true → 1 ≤ size_in (cond b (Some (extent (f.size * 1) f.align)) None)
    by true q = omega (arith, h)
    by false q = absurd (true≢false (sym q))

-- ---- in the program

module _ (xs : List CheckedUnit) (m : Matching) (main : ℕ) (h : AreTypedUnits xs m) (follow : LinkedStructsFollow)
    (are_there : StructsAreThere) (numbered : StructsAreNumbered) (stay : TablesStay) (have : LinkedStructsHaveMembers)
    (objects : LinkedObjectsStand) (functions : LinkedFunctionsStand) (entries : LinkedEntriesAreTold) (arrays : LinkedArraysAreComplete)
    (objects_numbered : ObjectsAreNumbered) (functions_numbered : FunctionsAreNumbered) where
  abbrev y : List Numbers × Joined
  y = all_joined m.numbers xs

  abbrev rs : List Renaming
  rs = renamings y.1 y.0

  abbrev p : Program
  p = linked_program xs m main

  abbrev ps : List Struct
  ps = program_structs (tables_of xs) m

  abbrev scene : Scene
  scene = scene_of p []

  same_structs : p.structs ≡ ps
  same_structs = structs_are xs m main h follow are_there objects functions entries objects_numbered functions_numbered

  size_exists : (o : Option Extent) → 1 ≤ size_in o → (e : Extent) × (o ≡ Some e) × (1 ≤ e.size)
  size_exists None q = absurd (omega (arith, q))
  size_exists (Some e) q = (e, refl, q)

  -- an array of elements as large as the unit's
  array_sized : (x : CheckedUnit) → IsTable x.structs → (a b : CType) (i : Option ℕ) → 1 ≤ size_of x.structs a
      → layout ps b ≡ layout x.structs a → HasElements ps (array b i) → IsFormed ps (array b i)
      → 1 ≤ size_of ps (completed (array b i))
  array_sized x table a b None sized same complete formed =
      let e : (e : Extent) × (layout x.structs a ≡ Some e) × (1 ≤ e.size) = size_exists (layout x.structs a) sized in
      subst (λ o. 1 ≤ size_in (repeated 1 o)) (sym (same ∙ e.1))
      (one_sized e.0 e.2 (layout_small x.structs table a e.0 e.1))
  array_sized x table a b (Some n) sized same complete formed =
      let e : (e : Extent) × (layout x.structs a ≡ Some e) × (1 ≤ e.size) = size_exists (layout x.structs a) sized in
      subst (λ o. 1 ≤ size_in o) (sym complete.1)
      (repeated_sized n e.0 complete.0 formed.1 e.2 (sym (ap (repeated n) (same ∙ e.1)) ∙ complete.1))

  -- without start values
  starts_empty : (o : Object) → o.start ≡ [] → 1 ≤ size_of p.structs o.of → IsStaticStart scene o
  starts_empty o none sized =
      let table : IsTable p.structs =
      subst IsTable (sym same_structs) (stay (tables_of xs) m h.matched (linked_of xs m h).tables) in
      let members : HaveMembers p.structs =
      subst HaveMembers (sym same_structs) (have (tables_of xs) m h.matched
      (λ u ss at. (let w : (x : CheckedUnit) × (slice_get xs u ≡ Some x) × (x.structs ≡ ss) = map_from (λ x. x.structs) xs u ss at in
      subst HaveMembers w.2 (h.typed u w.0 w.1).members))) in
      let e : (e : Extent) × (layout p.structs o.of ≡ Some e) × (1 ≤ e.size) = size_exists (layout p.structs o.of) sized in
      record {
        sized = sized;
        known = subst (λ es. AreKnown scene o.of es) (sym none) (record {
          values = record {
            shape = layout_of p.structs o.of;
            shaped = is-shaped p.structs o.of table members e.0 e.1;
            values = nil_all (IsLeafValue scene (layout_of p.structs o.of));
            apart = λ i j d f at. absurd (none_at i d at);
          };
          constants = nil_all (λ z. is_stored z.1 ≡ true);
        });
      }
    where
      none_at : (i : ℕ) (d : ℕ × Typed) → slice_get [] i ≡ Some d → ⊥
      none_at i d at = absurd (cc)

  module _ (n : ℕ) (e : ObjectEntry) (at : slice_get y.1.objects n ≡ Some e) (f : IsFrom xs y.0 n e)
      (none : f.object.start ≡ []) (open_length : IsUnmeasured f.checked.structs f.object.of) where
    formed_is : IsFormed ps e.of
    formed_is =
        (entries xs m (linked_of xs m h) (λ u x k o of. ((h.typed u x of.unit).objects k o of.object).formed) n e at).1

    table_here : IsTable f.checked.structs
    table_here = (h.typed f.unit f.checked f.of_unit.unit).structs

    by_type : (t : CType) → f.object.of ≡ t → IsUnmeasured f.checked.structs t → 1 ≤ size_of ps (completed e.of)
    by_type (array a None) is sized = by (is_external f.object.linkage) refl
      where
        by : (b : Bool) → is_external f.object.linkage ≡ b → 1 ≤ size_of ps (completed e.of)
        by true external =
            let w = arrays xs m (linked_of xs m h) f.unit f.checked f.numbers f.number f.object n e f.of_unit external f.told f.numbered at a None is in
            subst (λ t. 1 ≤ size_of ps (completed t)) (sym w.1.2)
            (array_sized f.checked table_here a w.1.0 w.1.1 sized w.1.3 (subst (HasElements ps) w.1.2 w.0) (subst (IsFormed ps) w.1.2 formed_is))
        by false private =
            let s : StandsFor f.checked f.numbers.structs f.unit f.object y.1 n =
            objects xs m (linked_of xs m h) f.unit f.checked f.numbers f.number f.object n f.of_unit f.told f.numbered in
            let entry : e ≡ object_entry f.checked.structs f.numbers.structs f.unit f.object =
            some_is e s.entry (sym at ∙ s.there) ∙ s.own private in
            let type : e.of ≡ array (renamed_type f.numbers.structs a) None =
            ap (λ z. z.of) entry ∙ ap (renamed_type f.numbers.structs) is in
            let x : (x : Extent) × (layout f.checked.structs a ≡ Some x) × (1 ≤ x.size) = size_exists (layout f.checked.structs a) sized in
            let same : layout ps (renamed_type f.numbers.structs a) ≡ layout f.checked.structs a =
            subst (λ ks. layout ps (renamed_type ks a) ≡ layout f.checked.structs a)
            (sym (numbers_are xs m main h follow are_there objects functions entries objects_numbered functions_numbered f.unit f.checked f.numbers f.of_unit.unit f.told))
            ((types_kept (tables_of xs) m h.matched (linked_of xs m h).tables numbered are_there f.unit f.checked.structs
            (map_got (λ z. z.structs) xs f.unit f.checked f.of_unit.unit) a x.0 x.1).layouts) in
            subst (λ t. 1 ≤ size_of ps (completed t)) (sym type)
            (array_sized f.checked table_here a (renamed_type f.numbers.structs a) None sized same (x.0, same ∙ x.1) (subst (IsFormed ps) type formed_is))
    by_type (array a (Some k)) is sized = absurd sized
    by_type void is sized = absurd sized
    by_type (integer k) is sized = absurd sized
    by_type (floating k) is sized = absurd sized
    by_type (pointer t) is sized = absurd sized
    by_type (structure k) is sized = absurd sized
    by_type (function s) is sized = absurd sized

    measured : (o : Object) × (slice_get p.objects n ≡ Some o) × (o.storage ≡ f.object.storage) × IsStaticStart scene o
    measured = (
      object_made rs e,
      map_got (object_made rs) y.1.objects n e at,
      ap (λ o. o.storage) f.source,
      starts_empty (object_made rs e)
          (ap (start_renamed (renaming_of_unit rs e.unit)) (ap (λ o. o.start) f.source ∙ none))
          (subst (λ ss. 1 ≤ size_of ss (completed e.of)) (sym same_structs) (by_type f.object.of refl open_length)),
    )

pub arrays_measured : LinkedStructsFollow → StructsAreThere → StructsAreNumbered → TablesStay → LinkedStructsHaveMembers
    → LinkedObjectsStand → LinkedFunctionsStand → LinkedEntriesAreTold → LinkedArraysAreComplete → ObjectsAreNumbered → FunctionsAreNumbered
    → LinkedArraysAreMeasured
arrays_measured follow are_there numbered stay have objects functions entries arrays on fn xs m main h n e at f none open_length =
    measured xs m main h follow are_there numbered stay have objects functions entries arrays on fn n e at f none open_length
