-- The start values of all objects of a program.
use Rattle.std.proofs.Common.{◌≡◌, ℕ, ◌≤◌, Bool, true, false, List, [], ◌∷◌, length, ◌+◌, Some, None, slice_get, slice_index_or, refl, sym, subst}
use Rattle.std.specs.Prelude.{All}
use Rattle.std.proofs.lemmas.List.Elements.{All-nil, All-cons, All-head, All-tail}
use Rattle.sp_types.specs.declared.program.Storage.{Storage}
use Rattle.sp_types.specs.declared.program.Storage.TheVariants as storage
use Rattle.sp_types.specs.Typed.{Typed, of}
use Rattle.sp_types.specs.Programs as program
use Rattle.sp_types.specs.Programs.{Program}
use Rattle.sp_ir.specs.Commands.{Leaf}
use Rattle.sp_ir.specs.Programs.{Object}
use Rattle.sp_ir.specs.Formed.{IsStart, starts, reads}
use Rattle.sp_ir.specs.Terrain.{size_of}
use Rattle.sp_base_layouts.specs.Layouts.{layout_of}
use Rattle.sp_lower_draft.specs.Context.{Context}
use Rattle.sp_lower_starts.specs.Starts.{start_value}
use Rattle.sp_lower_body.specs.Frames.{Initial, known_initial}
use Rattle.sp_lower_body.specs.Declarations.{is_automatic}
use Rattle.sp_lower_objects.specs.Codes.{number_in}
use Rattle.sp_lower_objects.specs.Initials.{initials_from}
use Rattle.sp_lower_objects.specs.Objects.{kind_of_storage, start_leaf, start_leaves, start_of, zero_of}
use Rattle.sp_lower_objects.specs.Regions.{all_regions, most_regions}
use Rattle.sp_lower.specs.Programs.{program_context}
use Rattle.sp_check_typing.specs.Programs.{IsTypedProgram, HasStaticStart, sees, scene_of}
use Rattle.sp_check_typing.specs.Statements.{is_lasting}
use Rattle.sp_check_typing.specs.Starts.{AreLeafValues, IsStaticStart}
use Rattle.sp_lower_expr_laws.specs.Stands.{table, scene, Fits}
use Rattle.sp_lower_expr_laws.proofs.Sorts.{false_true}
use Rattle.sp_lower_body_laws.specs.Frames.{AreLeavesOf}
use Rattle.sp_lower_starts_laws.specs.Laws.{ObjectsStand, StartsHold}
use Rattle.sp_lower_starts_laws.proofs.Roots.{root_from}
use Rattle.sp_lower_starts_laws.proofs.Values.{IsFormedValue}
use Rattle.sp_lower_starts_laws.proofs.Objects.{initial_here, start_good, automatic_filled, static_filled}
use Rattle.sp_lower_starts_laws.proofs.Constants.{start_value_good}
use Rattle.sp_lower_starts_laws.proofs.Unread.{start_value_reads}

module _ (p : Program) (names : List (List ℕ)) (site : ℕ) (os : List Object) (h : IsTypedProgram p) (lowered : ObjectsStand p.objects os)
    (few : length (all_regions p.structs 0 os) ≤ most_regions) where
  abbrev c : Context
  c = program_context p names site

  abbrev is : List Initial
  is = initials_from p.structs 0 p.objects

  -- ---- static objects

  module _ (fits : (k : ℕ) → Fits (record c { function = k }) os (sees p.objects [])) (n : ℕ) (o : program.Object) (there : slice_get p.objects n ≡ Some o) where
    abbrev Formed : ℕ × Typed → Type 0
    Formed e = IsFormedValue c os None (of e.1) (start_value c e.1)

    values_good : IsStaticStart (scene_of p []) o → All Formed o.start
    values_good s k d low =
        start_value_good c os (sees p.objects []) fits (slice_index_or o.start k d).1 (s.known.values.values k d low).typed (s.known.constants k d low)

    static_start : IsStaticStart (scene_of p []) o
        → IsStart (table c os) (all_regions p.structs 0 os) None n o.of (start_leaves c (known_initial (slice_get is n)).cells 0 o.start) (known_initial (slice_get is n)).zero
    static_start s =
        subst (λ (i : Initial). IsStart (table c os) (all_regions p.structs 0 os) None n o.of (start_leaves c i.cells 0 o.start) (known_initial (slice_get is n)).zero)
        (sym (initial_here c os lowered h.structs h.members few n o there s.sized))
        (start_good c os lowered h.structs h.members few n o there s.sized (sees p.objects []) None _ s.known.values
        (static_filled c os (layout_of p.structs o.of) (root_from p.structs 0 p.objects n) o.start (values_good s)))

    stored_start : (s : Storage) → starts (kind_of_storage s) ≡ true → HasStaticStart p o s
        → IsStart (table c os) (all_regions p.structs 0 os) None n o.of (start_of c s (known_initial (slice_get is n)).cells o.start) (zero_of s (known_initial (slice_get is n)).zero)
    stored_start storage.Static t s = static_start s
    stored_start storage.Text t s = static_start s
    stored_start storage.Outside t s = false_true t
    stored_start storage.Auto t s = false_true t
    stored_start storage.Formal t s = false_true t

  -- ---- what they read

  abbrev ReadsNothing : ℕ × Typed → Type 0
  ReadsNothing e = reads (start_value c e.1) ≡ false

  leaves_constant : (cells : List ℕ) (m : ℕ) (es : List (ℕ × Typed)) → All ReadsNothing es → All (λ (l : Leaf). reads l.value ≡ false) (start_leaves c cells m es)
  leaves_constant cells m [] all = All-nil (λ (l : Leaf). reads l.value ≡ false)
  leaves_constant cells m (e ∷ es) all =
      All-cons (λ (l : Leaf). reads l.value ≡ false) (start_leaf c (number_in cells m) e) (start_leaves c cells (m + 1) es)
      (All-head ReadsNothing e es all) (leaves_constant cells (m + 1) es (All-tail ReadsNothing e es all))

  values_constant : (o : program.Object) → IsStaticStart (scene_of p []) o → All ReadsNothing o.start
  values_constant o s k d low =
      start_value_reads c (scene_of p []) (slice_index_or o.start k d).1 (s.known.values.values k d low).typed (s.known.constants k d low)

  stored_constant : (o : program.Object) (cells : List ℕ) (s : Storage) → HasStaticStart p o s → All (λ (l : Leaf). reads l.value ≡ false) (start_of c s cells o.start)
  stored_constant o cells storage.Static s = leaves_constant cells 0 o.start (values_constant o s)
  stored_constant o cells storage.Text s = leaves_constant cells 0 o.start (values_constant o s)
  stored_constant o cells storage.Outside s = All-nil (λ (l : Leaf). reads l.value ≡ false)
  stored_constant o cells storage.Auto s = All-nil (λ (l : Leaf). reads l.value ≡ false)
  stored_constant o cells storage.Formal s = All-nil (λ (l : Leaf). reads l.value ≡ false)

  -- ---- automatic objects

  automatic_start : (k from : ℕ) (v : ℕ → Bool) (n : ℕ) (o : program.Object) → slice_get p.objects n ≡ Some o → 1 ≤ size_of p.structs o.of
      → AreLeafValues (scene c v) o.of o.start → (ls : List Leaf) → AreLeavesOf (record c { function = k; first_temporary = from }) os (known_initial (slice_get is n)).cells o.start ls
      → IsStart (table c os) (all_regions p.structs 0 os) (Some k) n o.of ls (known_initial (slice_get is n)).zero
  automatic_start k from v n o there big values ls are =
      let d : Context = record c { function = k; first_temporary = from } in
      start_good d os lowered h.structs h.members few n o there big v (Some k) ls values
      (automatic_filled d os (layout_of p.structs o.of) (root_from p.structs 0 p.objects n) o.start ls
      (subst (λ (i : Initial). AreLeavesOf d os i.cells o.start ls) (initial_here c os lowered h.structs h.members few n o there big) are))

automatic_local : (s : Storage) → is_automatic s ≡ true → is_lasting s ≡ false
automatic_local storage.Auto h = refl
automatic_local storage.Formal h = refl
automatic_local storage.Static h = false_true h
automatic_local storage.Outside h = false_true h
automatic_local storage.Text h = false_true h

pub starts_hold : StartsHold
starts_hold p names site os h lowered few fits = record {
  static = λ n o there t. stored_start p names site os h lowered few fits n o there o.storage t (h.objects n o there).start;
  constant = λ n o there. stored_constant p names site os h lowered few o (known_initial (slice_get (initials_from p.structs 0 p.objects) n)).cells o.storage (h.objects n o there).start;
  automatic = λ k from v f n o there a values ls are. automatic_start p names site os h lowered few k from v n o there ((h.objects n o there).sized (automatic_local o.storage a)) values ls are;
}
