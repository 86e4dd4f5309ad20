-- The start values of the objects of a well-typed program are formed in its lowering.
use Rattle.std.proofs.Common.{◌≡◌, ℕ, ◌≤◌, Bool, true, false, ◌||◌, List, [], length, Some, slice_get, refl, ap, sym, ◌∙◌}
use Rattle.sp_types.specs.Layout.{layout}
use Rattle.sp_types.specs.declared.extents.Extent.{Extent}
use Rattle.sp_types.specs.Programs as program
use Rattle.sp_types.specs.Programs.{Program}
use Rattle.sp_ir.specs.Programs.{Object}
use Rattle.sp_ir.specs.Formed.{is_site, is_local}
use Rattle.sp_lower_draft.specs.Draft.{Left}
use Rattle.sp_lower_functions.specs.Functions.{Part}
use Rattle.sp_lower_objects.specs.Regions.{most_regions}
use Rattle.sp_lower.specs.Programs.{first_site, counts_in, IsNumbered}
use Rattle.sp_lower_program_laws.proofs.Pointers.{pointers-hold}
use Rattle.sp_check_typing.specs.Programs.{lasts, sees, IsTypedProgram}
use Rattle.sp_check_typing.specs.Statements.{is_lasting}
use Rattle.sp_lower_expr_laws.specs.Stands.{Stands, Fits}
use Rattle.sp_lower_expr_laws.proofs.Sorts.{false_true}
use Rattle.sp_lower_starts_laws.specs.Starts.{StartsStand}
use Rattle.sp_lower_starts_laws.specs.Laws.{ObjectsStand}
use Rattle.sp_lower_starts_laws.proofs.Whole.{starts_hold}
use Rattle.sp_lower_formed_laws.proofs.Objects.{IsProgramObject}
use Rattle.sp_lower_formed_laws.proofs.Fits.{c, is, os, rs, owners, unit_object, function_object_at, local_storage, storage_site, sized_layout}

or_none : (b : Bool) → (b || false) ≡ true → b ≡ true
or_none true h = refl
or_none false h = h

module _ (p : Program) (names : List (List ℕ)) (typed : IsTypedProgram p) (w : Left (List Part)) (numbered : IsNumbered p names w) where
  -- what is static is no function's own
  static_stands : (k n : ℕ) (o : program.Object) → slice_get p.objects n ≡ Some o → sees p.objects [] n ≡ true → Stands (os p names typed w numbered) k n o.of
  static_stands k n o there seen =
      let x : (x : Object) × (slice_get (os p names typed w numbered) n ≡ Some x) × IsProgramObject (c p names typed w numbered) (owners p names typed w numbered) (is p names typed w numbered) n o x =
      unit_object p names typed w numbered n o there in
      let static : is_lasting o.storage ≡ true = sym (ap lasts there) ∙ or_none (lasts (slice_get p.objects n)) seen in
      record {
        object = x.0;
        there = x.1;
        of = x.2.of;
        no_site = ap is_site x.2.kind ∙ storage_site o.storage;
        own = λ local. false_true (sym (local_storage o.storage (sym (ap is_local x.2.kind) ∙ local)).0 ∙ static);
      }

  static_fit : (k : ℕ) → Fits (record (c p names typed w numbered) { function = k }) (os p names typed w numbered) (sees p.objects [])
  static_fit k = record {
    objects = λ n o there seen. static_stands k n o there seen;
    functions = λ n f there. let x = function_object_at p names typed w numbered n f there in
        record { object = x.0; there = x.1; of = x.2.of; no_site = ap is_site x.2.kind; own = λ local. false_true (sym (ap is_local x.2.kind) ∙ local) };
    pointers = λ t sized. let e : (e : Extent) × (layout p.structs t ≡ Some e) = sized_layout (layout p.structs t) sized in
        pointers-hold p.structs t (os p names typed w numbered) typed.structs typed.members e.0 e.1;
  }

  units_lowered : ObjectsStand p.objects (os p names typed w numbered)
  units_lowered n o there = let x = unit_object p names typed w numbered n o there in (x.0, x.1, x.2.of, x.2.kind)

  pub starts_stand : length (rs p names typed w numbered) ≤ most_regions
      → StartsStand p (c p names typed w numbered) (os p names typed w numbered) (rs p names typed w numbered) (is p names typed w numbered)
  starts_stand few = starts_hold p names (first_site p names (counts_in p names)) (os p names typed w numbered) typed units_lowered few static_fit
